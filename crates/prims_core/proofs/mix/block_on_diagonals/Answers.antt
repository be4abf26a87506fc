-- The clause of `block_on_diagonals`: rearranging block i to row order gives block i of the list in which all blocks
-- are rearranged (`block_at-in_rows`).
use Rattle.std.proofs.Common.{◌*◌, ◌+◌, ◌≤◌, length, ap, ◌∙◌, sym, arith, length-take, length-drop}
use Rattle.prims_core.specs.Diagonals.{block_in_rows}
use Rattle.prims_core.proofs.BlockFacts.{block_at-in_rows}
use Rattle.prims_core.proofs.mix.block_on_diagonals.Goals as goal

pub of_diagonals-requires : goal.of_diagonals-requires
of_diagonals-requires c =
    let inside : 16 * c.args.i + 16 ≤ length c.args.words.now = c.requires in
    ap length c.block_words.ensures ∙ simp (length-take, length-drop) (omega (arith, inside))

pub returns : goal.returns
returns c =
    c.of_diagonals.ensures ∙ ap block_in_rows c.block_words.ensures ∙ sym (block_at-in_rows c.args.words.now c.args.i c.requires)
