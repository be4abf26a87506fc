-- The loop of `mix_blocks`, before block i is mixed: x is X of the definition, and the results of the blocks before
-- block i are in their places.
use Rattle.std.proofs.Common.{◌≡◌}
use Rattle.prims_core.specs.BlockMix.{x_after}
use Rattle.prims_core.specs.Private.Mixing.{y_at, ArePlaced}
use Rattle.prims_core.proofs.mix.mix_blocks.Given as goal

abbrev pub invariant-mixing : goal.invariant-mixing
invariant-mixing g l = record {
  before : l.x ≡ x_after l.r (g.B.Blocks.words l.src) l.i;
  placed : ArePlaced (y_at l.r (g.B.Blocks.words l.src)) l.r l.i l.dst;
}
