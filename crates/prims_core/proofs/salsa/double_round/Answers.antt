-- The clause of `double_round`, from the clauses of `column_round` and `row_round`.
use Rattle.std.proofs.Common.{ap, ◌∙◌}
use Rattle.prims_core.specs.Salsa.{row_round, double_round}
use Rattle.prims_core.proofs.salsa.double_round.Goals as goal

pub returns-clause-rows : goal.returns-clause-rows
unfolding double_round
returns-clause-rows c = c.row_round.ensures.rows ∙ ap row_round c.column_round.ensures
