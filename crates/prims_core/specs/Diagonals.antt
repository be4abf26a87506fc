-- Blocks in diagonal order, as Salsa20/8 in lanes works on them. The sixteen words of a block form a matrix of four
-- rows. Diagonal i starts at the first word of row i, and each next word is one to the right and one down, where the
-- first row follows the last one. A block in diagonal order has the words of diagonal 0, then those of diagonals 1, 2
-- and 3.
use Rattle.std.specs.Prelude.{ℕ, ◌*◌, ◌%◌, List, map, slice_index}
use Rattle.std.specs.List.{flat_map, range_with_len}
use Rattle.prims_core.specs.Words.{chunks_exact}

-- block_in_rows block: the words, in row order, of a block that is in diagonal order. Word k in row order is word 13k
-- modulo 16 in diagonal order.
unfoldable pub block_in_rows : List ℕ → List ℕ
block_in_rows block = map (λ k. slice_index block (13 * k % 16)) (range_with_len 0 16)

-- in_rows words: the words, in row order, of a list of blocks that are in diagonal order.
unfoldable pub in_rows : List ℕ → List ℕ
in_rows words = flat_map block_in_rows (chunks_exact words 16)
