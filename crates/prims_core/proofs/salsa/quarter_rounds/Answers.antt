-- The clause of `quarter_rounds`: in each lane, the four steps of the code are those of the definition of a quarter
-- round.
use Rattle.std.proofs.Common.{refl}
use Rattle.prims_core.specs.Salsa.{quarter_round}
use Rattle.prims_core.proofs.salsa.quarter_rounds.Goals as goal

pub returns : goal.returns
unfolding quarter_round
returns c j inside =
    rw (
      c.xor_rotated_sum-a.ensures j inside,
      c.xor_rotated_sum-d.ensures j inside,
      c.xor_rotated_sum-c.ensures j inside,
      c.xor_rotated_sum-b.ensures j inside,
    ) refl
