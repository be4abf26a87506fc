-- The clause of `column_round`: lane j of the four diagonals is column j, from its word on the main diagonal down. So
-- the quarter round of lane j is the quarter round of column j, and both sides compute to the same matrix.
use Rattle.std.proofs.Common.{refl, arith}
use Rattle.prims_core.specs.Words.{chunks_exact}
use Rattle.prims_core.specs.Salsa.{column_round, row_round, transpose}
use Rattle.prims_core.proofs.salsa.column_round.Goals as goal

pub returns : goal.returns
unfolding column_round row_round transpose chunks_exact
returns c =
    rw (
      ← c.x.view_is,
      ← c.quarter_rounds.ensures 0 (omega arith),
      ← c.quarter_rounds.ensures 1 (omega arith),
      ← c.quarter_rounds.ensures 2 (omega arith),
      ← c.quarter_rounds.ensures 3 (omega arith),
    ) refl
