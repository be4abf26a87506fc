-- The loop of `mix_and_append`, before block i is mixed: x is X of the definition, the results of the blocks before
-- block i are in their places, and these blocks are appended to the rows.
use Rattle.std.proofs.Common.{◌≡◌, ◌*◌, ◌++◌, take}
use Rattle.prims_core.specs.BlockMix.{x_after}
use Rattle.prims_core.specs.Diagonals.{in_rows}
use Rattle.prims_core.specs.Private.Mixing.{y_at, ArePlaced}
use Rattle.prims_core.proofs.mix.mix_and_append.Given as goal

abbrev pub invariant-mixing : goal.invariant-mixing
invariant-mixing g l = record {
  before : l.x ≡ x_after l.r (in_rows l.src) l.i;
  placed : ArePlaced (y_at l.r (in_rows l.src)) l.r l.i l.dst;
  appended : g.R.Rows.words l.rows ≡ g.R.Rows.words l.fn.rows ++ take (16 * l.i) l.src;
  kept : g.R.Rows.room l.rows ≡ g.R.Rows.room l.fn.rows;
}
