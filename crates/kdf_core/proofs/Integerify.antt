-- Integerify (X) mod N, for `row_number`, which reads a single word. N is 2 ^ k with k at most 32. Integerify (X) is
-- the first word of the last block plus a multiple of 2 ^ 32, so modulo N only that word counts. In diagonal order the
-- first word of a block is first too.
use Rattle.std.proofs.Common.{◌≡◌, ℕ, suc, ◌+◌, ◌-◌, ◌*◌, ◌^◌, ◌%◌, ◌<◌, ◌≤◌, List, length, get_or, take, drop, sym, ap, ◌∙◌, arith, ◌/◌}
use Rattle.std.proofs.lemmas.List.{get_or-drop, get_or-take}
use Rattle.std.proofs.lemmas.Nat.{pow-add}
use Rattle.std.proofs.Math.Nat.{add-mul-mod_self_left, mul_assoc}
use Rattle.std.proofs.Math.Seq.{drop-cons}
use Rattle.prims_core.specs.Diagonals.{block_in_rows, in_rows}
use Rattle.prims_core.specs.Words.{bytes_of_words, little_number}
use Rattle.prims_core.proofs.BlockFacts.{length-in_rows, block_at-in_rows}
use Rattle.prims_core.proofs.WordFacts.{little_number-first_word}
use Rattle.kdf_core.specs.Scrypt.{integerify}

-- Integerify modulo 2 ^ k is the first word of the last block modulo 2 ^ k.
pub integerify-mod : (words : List ℕ) (k : ℕ) → 16 ≤ length words → k ≤ 32
    → integerify words % 2 ^ k ≡ get_or words (length words - 16) 0 % 2 ^ k
unfolding integerify
integerify-mod words k one_block k_le =
    let at = length words - 16 in
    let inside : at < length words = omega arith in
    let word = get_or words at 0 in
    -- Integerify (X) is the first word of the last block modulo 2 ^ 32, plus a multiple of 2 ^ 32.
    let split = little_number-first_word 60 word (drop (suc at) words) in
    let above : ℕ = split.0 in
    let bits_split : 32 ≡ k + (32 - k) = omega arith in
    let pow_split : 2 ^ 32 ≡ 2 ^ k * 2 ^ (32 - k) = ap (λ e. 2 ^ e) bits_split ∙ pow-add 2 k (32 - k) in
    let multiple_of_pow : (n : ℕ) → 2 ^ 32 * n ≡ 2 ^ k * (2 ^ (32 - k) * n) =
    λ n. ap (λ q. q * n) pow_split ∙ mul_assoc (2 ^ k) (2 ^ (32 - k)) n in
    -- Adding a multiple of 2 ^ 32 changes nothing modulo 2 ^ k.
    let multiple_vanishes : (n m : ℕ) → (n + 2 ^ 32 * m) % 2 ^ k ≡ n % 2 ^ k =
    λ n m. ap (λ q. (n + q) % 2 ^ k) (multiple_of_pow m) ∙ add-mul-mod_self_left n (2 ^ k) (2 ^ (32 - k) * m) in
    let word_split : word ≡ word % 2 ^ 32 + 2 ^ 32 * (word / 2 ^ 32) = omega arith in
    ap (λ ws. little_number 64 (bytes_of_words ws) % 2 ^ k) (drop-cons words at 0 inside)
    ∙ (ap (λ n. n % 2 ^ k) split.1
    ∙ (multiple_vanishes (word % 2 ^ 32) above
    ∙ (sym (multiple_vanishes (word % 2 ^ 32) (word / 2 ^ 32)) ∙ ap (λ n. n % 2 ^ k) (sym word_split))))

-- The first word of the last block is the same in row order and in diagonal order.
pub first_word-in_rows : (words : List ℕ) (r : ℕ) → 1 ≤ r → length words ≡ 32 * r
    → get_or (in_rows words) (length (in_rows words) - 16) 0 ≡ get_or words (length words - 16) 0
unfolding block_in_rows
first_word-in_rows words r one_block length_words =
    let last : ℕ = 2 * r - 1 in
    let same_length : length (in_rows words) ≡ length words = omega (arith, length-in_rows words, length_words) in
    let last_start : length words - 16 ≡ 16 * last = omega (arith, length_words) in
    let start_is : 16 * last ≡ 16 * last + 0 = omega arith in
    -- The word at the start of a block is the first word of that block.
    let first_of_block : (xs : List ℕ) → get_or xs (16 * last) 0 ≡ get_or (take 16 (drop (16 * last) xs)) 0 0 =
    λ xs. ap (λ (k : ℕ). get_or xs k 0) start_is ∙ sym (get_or-take 16 (drop (16 * last) xs) 0 0 (omega arith) ∙ get_or-drop (16 * last) xs 0 0) in
    rw (same_length, last_start)
    (first_of_block (in_rows words)
    ∙ ap (λ (block : List ℕ). get_or block 0 0) (block_at-in_rows words last (omega (arith, length_words)))
    ∙ sym (first_of_block words))
