-- The clause of `block` for `Xored`: block i of the XOR of two lists is the XOR of block i of each list
-- (`take_drop-xor_lists`). Both lists have a block i, since the XOR of the lists is no longer than either of them.
use Rattle.std.proofs.Common.{◌*◌, ap₂, ◌∙◌, sym, arith}
use Rattle.prims_core.specs.Diagonals.{in_rows}
use Rattle.prims_core.specs.Words.{xor_lists}
use Rattle.prims_core.proofs.BlockFacts.{length-in_rows}
use Rattle.prims_core.proofs.WordFacts.{take_drop-xor_lists, length-xor_lists_le}
use Rattle.prims_core.proofs.mix.XoredBlocks.block.Goals as goal

pub block_on_diagonals-requires : goal.block_on_diagonals-requires
block_on_diagonals-requires c =
    let blocks = c.args.self.now in
    omega (arith, c.requires, (length-xor_lists_le (in_rows blocks.words.now) (in_rows blocks.row.now)).0, length-in_rows blocks.words.now)

pub block_on_diagonals-requires-2 : goal.block_on_diagonals-requires-2
block_on_diagonals-requires-2 c =
    let blocks = c.args.self.now in
    omega (arith, c.requires, (length-xor_lists_le (in_rows blocks.words.now) (in_rows blocks.row.now)).1, length-in_rows blocks.row.now)

pub returns : goal.returns
returns c =
    let blocks = c.args.self.now in
    c.xor.ensures ∙ ap₂ xor_lists c.block_on_diagonals.ensures c.block_on_diagonals-2.ensures
    ∙ sym (take_drop-xor_lists 16 (16 * c.args.i) (in_rows blocks.words.now) (in_rows blocks.row.now))
