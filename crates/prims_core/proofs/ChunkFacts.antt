-- A list cut into pieces of one size by `chunks_exact`: how many pieces there are, what each piece is, and that joining
-- them gives the list back if its length is a multiple of the size. `load_words`, `salsa8_of` and the mixing of blocks
-- need these facts.
use Rattle.std.proofs.Common.{◌≡◌, ℕ, suc, ◌+◌, ◌*◌, ◌/◌, ◌<◌, List, [], ◌∷◌, ◌++◌, length, take, drop, get_or, sym, ◌∙◌, ap, ap₂, arith}
use Rattle.std.specs.List.{concat}
use Rattle.std.proofs.Math.Nat.{mul-div_cancel_left}
use Rattle.std.proofs.lemmas.List.{take-append-drop, nil_from_length, drop-drop, length-drop}
use Rattle.std.proofs.lemmas.List.FromFn.{length-map-range_with_len, get_or-map-range_with_len}
use Rattle.prims_core.specs.Words.{chunks_exact}

pub length-chunks_exact : (items : List ℕ) (size count : ℕ) → 0 < size → length items ≡ size * count
    → length (chunks_exact items size) ≡ count
unfolding chunks_exact
length-chunks_exact items size count some whole =
    length-map-range_with_len (λ i. take size (drop (size * i) items)) 0 (length items / size)
    ∙ ap (λ (n : ℕ). n / size) whole ∙ mul-div_cancel_left count some

-- Piece i is the `size` items of the list from place size * i on.
pub get_or-chunks_exact : (items : List ℕ) (size count i : ℕ) → 0 < size → length items ≡ size * count → i < count
    → get_or (chunks_exact items size) i [] ≡ take size (drop (size * i) items)
unfolding chunks_exact
get_or-chunks_exact items size count i some whole inside =
    let count_pieces : length items / size ≡ count =
    ap (λ (n : ℕ). n / size) whole ∙ mul-div_cancel_left count some in
    get_or-map-range_with_len (λ i. take size (drop (size * i) items)) 0 (length items / size) i i [] (omega arith) (omega arith)

-- A list that has these pieces one after another is the pieces joined. The proof goes by induction over the pieces.
pub concat-from_pieces : (size : ℕ) (pieces : List (List ℕ)) (items : List ℕ) → length items ≡ size * length pieces
    → ((i : ℕ) → i < length pieces → get_or pieces i [] ≡ take size (drop (size * i) items))
    → items ≡ concat pieces
concat-from_pieces size [] items whole piece_at = nil_from_length items (omega arith)
concat-from_pieces size (piece ∷ pieces) items whole piece_at =
    let start_zero : size * 0 ≡ 0 = omega arith in
    let first_piece : piece ≡ take size items = rw start_zero at (piece_at 0 (omega arith)) in
    let other_pieces : drop size items ≡ concat pieces =
    concat-from_pieces size pieces (drop size items) (omega (arith, length-drop size items)) (λ i inside.
    let next_start : size * suc i ≡ size + size * i = omega arith in
    let next_piece = piece_at (suc i) (omega arith) in
    rw (drop-drop, ← next_start) next_piece) in
    sym (take-append-drop size items) ∙ ap₂ ◌++◌ (sym first_piece) other_pieces

-- Cutting a list into pieces of `size` items and joining them gives the list back, if its length is a multiple of
-- `size`.
pub concat-chunks_exact : (items : List ℕ) (size count : ℕ) → 0 < size → length items ≡ size * count
    → concat (chunks_exact items size) ≡ items
concat-chunks_exact items size count some whole =
    let count_pieces : length (chunks_exact items size) ≡ count = length-chunks_exact items size count some whole in
    sym (concat-from_pieces size (chunks_exact items size) items (rw count_pieces whole)
    (λ i inside. get_or-chunks_exact items size count i some whole (omega arith)))
