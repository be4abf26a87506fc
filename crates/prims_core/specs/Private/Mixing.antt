-- Block mixing step by step: the next result, and which results are in their places so far.
use Rattle.std.specs.Prelude.{◌≡◌, ℕ, ◌+◌, ◌*◌, ◌/◌, ◌%◌, ◌<◌, List}
use Rattle.prims_core.specs.BlockMix.{block_at, x_after}
use Rattle.prims_core.specs.Diagonals.{block_in_rows}
use Rattle.prims_core.specs.Salsa.{salsa20_8}
use Rattle.prims_core.specs.Words.{xor_lists}

-- mixed_block x block: the next X, which is Salsa20/8 of the X before it XOR a block.
abbrev pub mixed_block : List ℕ → List ℕ → List ℕ
mixed_block x block = salsa20_8 (xor_lists x block)

-- y_at r words i: Y[i] for the 2r blocks in `words`, which is X after block i is mixed.
abbrev pub y_at : ℕ → List ℕ → ℕ → List ℕ
y_at r words i = x_after r words (i + 1)

-- place_of r i: the place of result i of 2r in the output. Results with even numbers come before those with odd
-- numbers.
abbrev pub place_of : ℕ → ℕ → ℕ
place_of r i = i / 2 + i % 2 * r

-- ArePlaced y r n words: of the 2r results, of which result i is `y i`, the first n are in their places in `words`,
-- each in diagonal order.
abbrev pub ArePlaced : (ℕ → List ℕ) → ℕ → ℕ → List ℕ → Type 0
ArePlaced y r n words = (i : ℕ) → i < n → block_in_rows (block_at (place_of r i) words) ≡ y i
