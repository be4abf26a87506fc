-- Lists of blocks of sixteen words, for `to_diagonals`, `from_diagonals`, `block_on_diagonals` and the mixing of
-- blocks. `in_rows` rearranges each block on its own, so block i of the result is block i rearranged. Two lists with
-- the same blocks are equal. Writing a block over another one changes that block alone, which is the step of each loop
-- over blocks.
use Rattle.std.proofs.Common.{◌≡◌, ℕ, zero, suc, ◌+◌, ◌-◌, ◌*◌, ◌/◌, ◌<◌, ◌≤◌, ◌⊎◌, inl, inr, List, [], ◌∷◌, ◌++◌, length, take, drop, get_or, refl, sym, ◌∙◌, ap, subst, arith}
use borrow.Rule.Slice.PartMut.{put_mid}
use Rattle.std.specs.List.{flat_map}
use Rattle.std.proofs.lemmas.Bool.{cases_lt}
use Rattle.std.proofs.lemmas.Slice.{between-put_mid, drop-put_mid, take-put_mid_below}
use Rattle.std.proofs.lemmas.List.FromFn.{length-map-range_with_len, get_or-map-range_with_len}
use Rattle.std.proofs.lemmas.List.{take_at, drop_at, drop-drop, drop-take, length-append}
use Rattle.prims_core.specs.BlockMix.{block_at}
use Rattle.prims_core.specs.Diagonals.{block_in_rows, in_rows}
use Rattle.prims_core.specs.Words.{chunks_exact}
use Rattle.prims_core.proofs.ChunkFacts.{concat-from_pieces, concat-chunks_exact, length-chunks_exact, get_or-chunks_exact}

pub length-block_in_rows : (block : List ℕ) → length (block_in_rows block) ≡ 16
unfolding block_in_rows
length-block_in_rows block = refl

-- If each piece of a list is replaced by a piece of `size` items and the pieces are joined, the length is `size` times
-- the number of pieces, and piece i is the one that replaces piece i.
length-flat_map : (f : List ℕ → List ℕ) (size : ℕ) → ((piece : List ℕ) → length (f piece) ≡ size) → (pieces : List (List ℕ))
    → length (flat_map f pieces) ≡ size * length pieces
length-flat_map f size each [] = omega arith
length-flat_map f size each (piece ∷ pieces) =
    omega (arith, length-append (f piece) (flat_map f pieces), each piece, length-flat_map f size each pieces)

-- If `f` makes `size` items of each piece, piece i of the joined results is `f` of piece i.
take_drop-flat_map : (f : List ℕ → List ℕ) (size : ℕ) → ((piece : List ℕ) → length (f piece) ≡ size) → (pieces : List (List ℕ))
    (i : ℕ) → i < length pieces → take size (drop (size * i) (flat_map f pieces)) ≡ f (get_or pieces i [])
take_drop-flat_map f size each [] i inside = absurd (omega arith)
take_drop-flat_map f size each (piece ∷ pieces) zero inside =
    let none : size * 0 ≡ 0 = omega arith in
    rw none (take_at (f piece) (flat_map f pieces) size (each piece))
take_drop-flat_map f size each (piece ∷ pieces) (suc i) inside =
    let place : size * suc i ≡ size + size * i = omega arith in
    rw (place, ← drop-drop (size * i) size (f piece ++ flat_map f pieces), drop_at (f piece) (flat_map f pieces) size (each piece))
    (take_drop-flat_map f size each pieces i (omega arith))

pub length-in_rows : (words : List ℕ) → length (in_rows words) ≡ 16 * (length words / 16)
unfolding in_rows chunks_exact
length-in_rows words =
    length-flat_map block_in_rows 16 length-block_in_rows (chunks_exact words 16)
    ∙ ap (λ (k : ℕ). 16 * k) (length-map-range_with_len (λ i. take 16 (drop (16 * i) words)) 0 (length words / 16))

pub block_at-in_rows : (words : List ℕ) (i : ℕ) → 16 * i + 16 ≤ length words
    → block_at i (in_rows words) ≡ block_in_rows (block_at i words)
unfolding in_rows chunks_exact
block_at-in_rows words i inside =
    let cut : ℕ → List ℕ = λ k. take 16 (drop (16 * k) words) in
    let n : ℕ = length words / 16 in
    let count_pieces : length (chunks_exact words 16) ≡ n = length-map-range_with_len cut 0 n in
    take_drop-flat_map block_in_rows 16 length-block_in_rows (chunks_exact words 16) i (omega (arith, count_pieces))
    ∙ ap block_in_rows (get_or-map-range_with_len cut 0 n i i [] (omega arith) (omega arith))

-- Two lists that have the same blocks are equal.
pub equal-from_same_blocks : (n : ℕ) (xs ys : List ℕ) → length xs ≡ 16 * n → length ys ≡ 16 * n
    → ((i : ℕ) → i < n → block_at i xs ≡ block_at i ys) → xs ≡ ys
equal-from_same_blocks n xs ys length_xs length_ys same_at =
    let count_pieces : length (chunks_exact ys 16) ≡ n = length-chunks_exact ys 16 n (omega arith) length_ys in
    concat-from_pieces 16 (chunks_exact ys 16) xs (rw count_pieces length_xs) (λ i inside.
    get_or-chunks_exact ys 16 n i (omega arith) length_ys (omega arith) ∙ sym (same_at i (omega arith)))
    ∙ concat-chunks_exact ys 16 n (omega arith) length_ys

-- After a block is written over block i of a list, block i is the written one, and each other block k is as before.
pub block_at-put_mid_same : (i width : ℕ) (out x : List ℕ) → 16 * i + 16 ≤ length out → length x ≡ 16
    → block_at i (put_mid (16 * i) width out x) ≡ x
block_at-put_mid_same i width out x inside length_x =
    let block_size : 16 * i + 16 - 16 * i ≡ 16 = omega arith in
    rw block_size at (between-put_mid (16 * i) width out x (16 * i + 16) (omega arith) (omega arith))

-- Writing one block leaves the others as they were.
pub block_at-put_mid_other : (i width k : ℕ) (out x : List ℕ) → 16 * i + 16 ≤ length out → width ≡ 16 → length x ≡ 16
    → (k < i) ⊎ (i < k) → block_at k (put_mid (16 * i) width out x) ≡ block_at k out
block_at-put_mid_other i width k out x inside width_is length_x (inl below) =
    sym (drop-take (16 * k) 16 (put_mid (16 * i) width out x))
    ∙ ap (drop (16 * k)) (take-put_mid_below (16 * i) width out x (16 * k + 16) (omega arith) (omega arith))
    ∙ drop-take (16 * k) 16 out
block_at-put_mid_other i width k out x inside width_is length_x (inr above) =
    ap (take 16) (drop-put_mid (16 * i) width out x (16 * k) (omega arith) (omega arith) (omega arith))

-- One iteration of the loops of `to_diagonals` and `from_diagonals`. If the blocks before i have property P and the
-- others are those of `start`, then after a block with P is written over block i, the same holds of i + 1.
pub rearranged_blocks-put_mid : (n i width : ℕ) (P : ℕ → List ℕ → Type 0) (start words block : List ℕ) → length words ≡ 16 * n → i < n
    → width ≡ 16 → length block ≡ 16 → P i block
    → ((k : ℕ) → k < i → P k (block_at k words)) → ((k : ℕ) → i ≤ k → block_at k words ≡ block_at k start)
    → ((k : ℕ) → k < i + 1 → P k (block_at k (put_mid (16 * i) width words block)))
    × ((k : ℕ) → i + 1 ≤ k → block_at k (put_mid (16 * i) width words block) ≡ block_at k start)
rearranged_blocks-put_mid n i width P start words block length_words inside width_is length_block block_has_P done rest = (
  (λ k so_far. elim (cases_lt k i) [
    | inl earlier ↦
        subst (P k) (sym (block_at-put_mid_other i width k words block (omega arith) width_is length_block (inl earlier))) (done k earlier)
    | inr now ↦
        let k_is_i : k ≡ i = omega arith in
        rw k_is_i (subst (P i) (sym (block_at-put_mid_same i width words block (omega arith) length_block)) block_has_P)
  ]),
  (λ k later. block_at-put_mid_other i width k words block (omega arith) width_is length_block (inr (omega arith)) ∙ rest k (omega arith)),
)
