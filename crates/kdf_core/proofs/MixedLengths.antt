-- Block mixing, ROMix and the mixing of all parts keep the length of their input. `MessageCounts` needs this: the mixed
-- parts are the salt of the last derivation, so their length decides how many bytes it digests. The lemmas go from
-- Salsa20/8 to the parts, and each step keeps the shape of its input: a matrix of four rows of four words, blocks of
-- sixteen words, parts of 32r words.
use Rattle.std.proofs.Common.{◌≡◌, ℕ, zero, suc, ◌+◌, ◌-◌, ◌*◌, ◌/◌, ◌%◌, ◌<◌, ◌≤◌, List, [], ◌∷◌, ◌++◌, length, get_or, take, drop, map, refl, sym, ap, ◌∙◌, arith}
use Rattle.std.specs.Prelude.{All, slice_index}
use Rattle.std.specs.Fn.{iterate}
use Rattle.std.specs.List.{concat, enumerate_from, flat_map, range_with_len}
use Rattle.std.proofs.Math.Nat.{mul-div-le, mul-div_cancel_left, mul-le-mul_left}
use Rattle.std.proofs.lemmas.List.{length-append, length-drop, length-map, length-take, length-take-le}
use Rattle.std.proofs.lemmas.List.Concat.{concat_is}
use Rattle.std.proofs.lemmas.List.Elements.{All-append, All-head, All-map, All-tail}
use Rattle.std.proofs.lemmas.List.FromFn.{get_or-enumerate_from, get_or-range_with_len, length-enumerate_from, length-map-range_with_len, length-range_with_len}
use Rattle.std.proofs.lemmas.Simd.{length-zip2}
use Rattle.prims_core.specs.BlockMix.{block_at, x_after, block_mix}
use Rattle.prims_core.specs.Salsa.{sum_of_words, quarter_round, begun_at, row_round, transpose, column_round, double_round, salsa20_8}
use Rattle.prims_core.specs.Words.{little_bytes, xor_lists, chunks_exact, words_of, bytes_of_words}
use Rattle.kdf_core.specs.Scrypt.{integerify, mixed_back, romix, mixed_part}
use Rattle.kdf_core.specs.ScryptMessages.{mixed_parts}

-- HaveSize size pieces: each of the pieces has `size` items.
abbrev HaveSize : ℕ → List (List ℕ) → Type 0
HaveSize size = All (λ piece. length piece ≡ size)

-- If `f` makes a list of `size` items of each x, the lists joined have `size` items for each x.
pub length-flat_map_same : {X : Type 0} (f : X → List ℕ) (size : ℕ) (xs : List X) → All (λ x. length (f x) ≡ size) xs
    → length (flat_map f xs) ≡ length xs * size
length-flat_map_same f size [] same_length = omega arith
length-flat_map_same {X = X} f size (x ∷ xs) same_length =
    let length_first : length (f x) ≡ size = All-head (λ (y : X). length (f y) ≡ size) x xs same_length in
    let length_rest : length (flat_map f xs) ≡ length xs * size =
    length-flat_map_same f size xs (All-tail (λ (y : X). length (f y) ≡ size) x xs same_length) in
    omega (arith, length-append (f x) (flat_map f xs))

length-concat : (size : ℕ) (pieces : List (List ℕ)) → HaveSize size pieces → length (concat pieces) ≡ length pieces * size
length-concat size pieces same_size = ap length (concat_is pieces) ∙ length-flat_map_same (λ (piece : List ℕ). piece) size pieces same_size

-- A property that one step keeps is kept by any number of steps.
iterate-keeps : {A : Type 0} (P : A → Type 0) (step : A → A) → ((x : A) → P x → P (step x)) → (n : ℕ) (x : A) → P x → P (iterate step n x)
iterate-keeps P step keeps zero x holds = holds
iterate-keeps P step keeps (suc n) x holds = iterate-keeps P step keeps n (step x) (keeps x holds)

-- `chunks_exact` cuts a list into as many pieces of the given size as fit into it.
length-chunks_exact : (items : List ℕ) (size : ℕ) → length (chunks_exact items size) ≡ length items / size
unfolding chunks_exact
length-chunks_exact items size = length-map-range_with_len (λ i. take size (drop (size * i) items)) 0 (length items / size)

HaveSize-chunks_exact : (items : List ℕ) (size : ℕ) → HaveSize size (chunks_exact items size)
unfolding chunks_exact
HaveSize-chunks_exact items size =
    let count : ℕ = length items / size in
    All-map (λ (piece : List ℕ). length piece ≡ size) (λ i. take size (drop (size * i) items)) (range_with_len 0 count)
    (λ k d inside.
    let i : ℕ = get_or (range_with_len 0 count) k d in
    let within : k < count = omega (arith, length-range_with_len 0 count) in
    let next : i + 1 ≤ count = omega (arith, get_or-range_with_len 0 count k d within) in
    let room : size * (i + 1) ≤ size * count = mul-le-mul_left size next in
    length-take-le size (drop (size * i) items) (omega (arith, room, mul-div-le (length items) size, length-drop (size * i) items)))

-- IsMatrix rows: the matrix that Salsa20/8 works on, four rows of four words. Each round keeps this shape.

record IsMatrix (rows : List (List ℕ)) : Type 0 where
  four : length rows ≡ 4
  each : HaveSize 4 rows

length-quarter_round : (row : List ℕ) → length row ≡ 4 → length (quarter_round row) ≡ 4
unfolding quarter_round
length-quarter_round [] four = absurd (omega arith)
length-quarter_round (a ∷ []) four = absurd (omega arith)
length-quarter_round (a ∷ b ∷ []) four = absurd (omega arith)
length-quarter_round (a ∷ b ∷ c ∷ []) four = absurd (omega arith)
length-quarter_round (a ∷ b ∷ c ∷ d ∷ []) four = refl
length-quarter_round (a ∷ b ∷ c ∷ d ∷ e ∷ rest) four = absurd (omega arith)

-- A row that is rotated keeps its length.
length-begun_at : (place : ℕ) (row : List ℕ) → length (begun_at place row) ≡ length row
length-begun_at place row =
    omega (arith, length-append (drop place row) (take place row), length-drop place row, length-take place row)

-- A row round, a transposition and a double round of a matrix each give a matrix again.
IsMatrix-row_round : (rows : List (List ℕ)) → IsMatrix rows → IsMatrix (row_round rows)
unfolding row_round
IsMatrix-row_round rows matrix =
    let turned : ℕ × List ℕ → List ℕ = λ p. begun_at (4 - p.0) (quarter_round (begun_at p.0 p.1)) in
    record {
      four = length-map (enumerate_from 0 rows) turned ∙ (length-enumerate_from 0 rows ∙ matrix.four);
      each = All-map (λ (row : List ℕ). length row ≡ 4) turned (enumerate_from 0 rows) (λ k d inside.
          let p : ℕ × List ℕ = get_or (enumerate_from 0 rows) k d in
          let within : k < length rows = omega (arith, length-enumerate_from 0 rows) in
          let length_row : length p.1 ≡ 4 =
          ap (λ (q : ℕ × List ℕ). length q.1) (get_or-enumerate_from 0 rows k d within) ∙ matrix.each k d.1 within in
          length-begun_at (4 - p.0) (quarter_round (begun_at p.0 p.1))
          ∙ length-quarter_round (begun_at p.0 p.1) (length-begun_at p.0 p.1 ∙ length_row));
    }

IsMatrix-transpose : (rows : List (List ℕ)) → IsMatrix rows → IsMatrix (transpose rows)
unfolding transpose
IsMatrix-transpose rows matrix =
    let column : ℕ → List ℕ = λ i. map (λ row. slice_index row i) rows in
    record {
      four = length-map-range_with_len column 0 4;
      each = All-map (λ (row : List ℕ). length row ≡ 4) column (range_with_len 0 4)
          (λ k d inside. length-map rows (λ row. slice_index row (get_or (range_with_len 0 4) k d)) ∙ matrix.four);
    }

IsMatrix-double_round : (rows : List (List ℕ)) → IsMatrix rows → IsMatrix (double_round rows)
unfolding double_round column_round
IsMatrix-double_round rows matrix =
    IsMatrix-row_round (column_round rows)
    (IsMatrix-transpose (row_round (transpose rows)) (IsMatrix-row_round (transpose rows) (IsMatrix-transpose rows matrix)))

-- Salsa20/8 of sixteen words has sixteen words.
length-salsa20_8 : (words : List ℕ) → length words ≡ 16 → length (salsa20_8 words) ≡ 16
unfolding salsa20_8
length-salsa20_8 words length_words =
    -- Sixteen words, cut into rows of four, are a matrix, and the rounds make a matrix of it again.
    let rows_matrix : IsMatrix (chunks_exact words 4) =
    record { four = length-chunks_exact words 4 ∙ omega arith; each = HaveSize-chunks_exact words 4 } in
    let rounds = iterate double_round 4 (chunks_exact words 4) in
    let rounds_matrix : IsMatrix rounds = iterate-keeps IsMatrix double_round IsMatrix-double_round 4 (chunks_exact words 4) rows_matrix in
    let length_rounds : length (concat rounds) ≡ 16 = length-concat 4 rounds rounds_matrix.each ∙ ap (λ n. n * 4) rounds_matrix.four in
    length-zip2 sum_of_words words (concat rounds) (length_words ∙ sym length_rounds) ∙ length_words

-- In block mixing, X always has sixteen words, so the results have as many words as the blocks.

length-mixed_block : (x block : List ℕ) → length x ≡ 16 → length block ≡ 16 → length (salsa20_8 (xor_lists x block)) ≡ 16
unfolding xor_lists
length-mixed_block x block length_x length_block =
    length-salsa20_8 (xor_lists x block) (length-zip2 _ x block (length_x ∙ sym length_block) ∙ length_x)

length-block_at : (words : List ℕ) (count i : ℕ) → length words ≡ 16 * count → i < count → length (block_at i words) ≡ 16
length-block_at words count i length_words inside = length-take-le 16 (drop (16 * i) words) (omega (arith, length-drop (16 * i) words))

length-x_after : (r : ℕ) (words : List ℕ) (i : ℕ) → length words ≡ 32 * r → 0 < r → i ≤ 2 * r → length (x_after r words i) ≡ 16
unfolding x_after
length-x_after r words zero length_words one_block inside = length-block_at words (2 * r) (2 * r - 1) (omega arith) (omega arith)
length-x_after r words (suc i) length_words one_block inside =
    length-mixed_block (x_after r words i) (block_at i words) (length-x_after r words i length_words one_block (omega arith))
    (length-block_at words (2 * r) i (omega arith) (omega arith))

pub length-block_mix : (words : List ℕ) (r : ℕ) → length words ≡ 32 * r → length (block_mix words) ≡ 32 * r
unfolding block_mix
length-block_mix words r length_words =
    let n = length words / 32 in
    let n_is : n ≡ r = ap (λ m. m / 32) length_words ∙ mul-div_cancel_left r (omega arith) in
    let y : ℕ → List ℕ = λ i. x_after n words (i + 1) in
    let evens = map (λ i. y (2 * i)) (range_with_len 0 n) in
    let odds = map (λ i. y (2 * i + 1)) (range_with_len 0 n) in
    let size = λ (piece : List ℕ). length piece ≡ 16 in
    -- Each number of the range is below n, so each of the results has sixteen words.
    let number_below : (k d : ℕ) → k < length (range_with_len 0 n) → get_or (range_with_len 0 n) k d < n =
    λ k d inside. omega (arith, length-range_with_len 0 n, get_or-range_with_len 0 n k d (omega (arith, length-range_with_len 0 n))) in
    let length_result : (i : ℕ) → i < 2 * n → length (y i) ≡ 16 =
    λ i inside. length-x_after n words (i + 1) (omega arith) (omega arith) (omega arith) in
    -- The results with even numbers and those with odd numbers are 2n pieces of sixteen words.
    let results_size : HaveSize 16 (evens ++ odds) = All-append size evens odds
    (All-map size (λ i. y (2 * i)) (range_with_len 0 n)
    (λ k d inside. let below = number_below k d inside in length_result (2 * get_or (range_with_len 0 n) k d) (omega arith)))
    (All-map size (λ i. y (2 * i + 1)) (range_with_len 0 n)
    (λ k d inside. let below = number_below k d inside in length_result (2 * get_or (range_with_len 0 n) k d + 1) (omega arith))) in
    length-concat 16 (evens ++ odds) results_size
    ∙ omega (
      arith,
      n_is,
      length-append evens odds,
      length-map-range_with_len (λ i. y (2 * i)) 0 n,
      length-map-range_with_len (λ i. y (2 * i + 1)) 0 n,
    )

-- Each step of ROMix's two loops keeps the length of a part.

length-mixed_back : (n : ℕ) (start : List ℕ) (r : ℕ) → length start ≡ 32 * r
    → (words : List ℕ) → length words ≡ 32 * r → length (mixed_back n start words) ≡ 32 * r
unfolding mixed_back xor_lists
length-mixed_back n start r length_start words length_words =
    let row = iterate block_mix (integerify words % n) start in
    -- Mixing keeps the length, so the row V[j] is as long as X.
    let length_row : length row ≡ 32 * r =
    iterate-keeps (λ (x : List ℕ). length x ≡ 32 * r) block_mix (λ x. length-block_mix x r) (integerify words % n) start length_start in
    length-block_mix (xor_lists words row) r (length-zip2 _ words row (length_words ∙ sym length_row) ∙ length_words)

length-romix : (n : ℕ) (start : List ℕ) (r : ℕ) → length start ≡ 32 * r → length (romix n start) ≡ 32 * r
unfolding romix
length-romix n start r length_start =
    let HasLength = λ (x : List ℕ). length x ≡ 32 * r in
    iterate-keeps HasLength (mixed_back n start) (length-mixed_back n start r length_start) n (iterate block_mix n start)
    (iterate-keeps HasLength block_mix (λ x. length-block_mix x r) n start length_start)

length-mixed_part : (n : ℕ) (bytes : List ℕ) (r : ℕ) → length bytes ≡ 128 * r → length (mixed_part n bytes) ≡ 128 * r
unfolding mixed_part words_of bytes_of_words
length-mixed_part n bytes r length_bytes =
    let length_words : length (words_of bytes) ≡ 32 * r =
    length-map (chunks_exact bytes 4) _ ∙ (length-chunks_exact bytes 4 ∙ omega (arith, length_bytes)) in
    length-flat_map_same (little_bytes 4) 4 (romix n (words_of bytes)) (λ k d inside. refl)
    ∙ omega (arith, length-romix n (words_of bytes) r length_words)

-- Replacing each part, of 2r blocks of 64 bytes, by its ROMix keeps the length of all parts.
pub length-mixed_parts : (n size r count : ℕ) (bytes : List ℕ) → size ≡ 128 * r → length bytes ≡ size * count
    → length (mixed_parts n size bytes) ≡ length bytes
unfolding mixed_parts
length-mixed_parts n size r count bytes size_is length_whole =
    let parts = chunks_exact bytes size in
    length-flat_map_same (mixed_part n) size parts
    (λ k d inside. length-mixed_part n (get_or parts k d) r (HaveSize-chunks_exact bytes size k d inside ∙ size_is) ∙ sym size_is)
    ∙ (ap (λ m. m * size) (length-chunks_exact bytes size) ∙ div_mul_size size length_whole) where
      div_mul_size : (size : ℕ) → length bytes ≡ size * count → length bytes / size * size ≡ length bytes
      div_mul_size zero length_bytes = omega arith
      div_mul_size (suc size) length_bytes =
          let quotient : length bytes / suc size ≡ count = ap (λ n. n / suc size) length_bytes ∙ mul-div_cancel_left count (omega arith) in
          ap (λ n. n * suc size) quotient ∙ omega arith
