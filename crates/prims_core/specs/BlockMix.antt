-- scryptBlockMix (RFC 7914, section 4), on the 32r words of 2r blocks of 64 bytes.
use Rattle.std.specs.Prelude.{ℕ, zero, suc, ◌+◌, ◌-◌, ◌*◌, ◌/◌, List, ◌++◌, length, take, drop, map}
use Rattle.std.specs.List.{concat, range_with_len}
use Rattle.prims_core.specs.Words.{xor_lists}
use Rattle.prims_core.specs.Salsa.{salsa20_8}

-- block_at i words: B[i], the sixteen words of block i of a list of words.
abbrev pub block_at : ℕ → List ℕ → List ℕ
block_at i words = take 16 (drop (16 * i) words)

-- x_after r words i: X after the first i of the 2r blocks are mixed. X starts as the last block (step 1), and block
-- B[i] replaces it by Salsa20/8 of X xor B[i] (step 2).
unfoldable pub x_after : ℕ → List ℕ → ℕ → List ℕ
x_after r words zero = block_at (2 * r - 1) words
x_after r words (suc i) = salsa20_8 (xor_lists (x_after r words i) (block_at i words))

-- block_mix words: the r results with even numbers, Y[0], Y[2], .., followed by the r results with odd numbers, Y[1],
-- Y[3], .. (step 3). Y[i] is X after the blocks up to and including B[i] are mixed.
unfoldable pub block_mix : List ℕ → List ℕ
block_mix words =
    let r = length words / 32 in
    let y : ℕ → List ℕ = λ i. x_after r words (i + 1) in
    concat (map (λ i. y (2 * i)) (range_with_len 0 r) ++ map (λ i. y (2 * i + 1)) (range_with_len 0 r))
