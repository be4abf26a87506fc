-- The precondition of `from_diagonals` in `block_mix`: `dst` has whole blocks, since the mixing did not change its
-- length.
use Rattle.std.proofs.Common.{arith}
use Rattle.prims_core.proofs.mix.block_mix.Goals as goal

pub from_diagonals-requires : goal.from_diagonals-requires
from_diagonals-requires c = record { whole = omega (arith, c.requires.blocks.2, c.mix_blocks.auto.dst) }
