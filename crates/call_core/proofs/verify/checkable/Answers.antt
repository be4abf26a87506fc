-- `checkable` admits a stored hash whose cost is within the budget (clause `admits`), and returns the only setting that
-- the field spells (clause `only`). In both clauses `kept` is a setting that the field spells (`spells`); `low` says
-- that its cost is within the budget.
use Rattle.call_core.proofs.CheckReports.{cost-not_above}
use Rattle.call_core.proofs.verify.checkable.Goals as goal

pub returns-in_err-stored-clause-admits : goal.returns-in_err-stored-clause-admits
returns-in_err-stored-clause-admits c = λ kept spells low. absurd (c.in_err-stored.ensures.each_setting kept spells)

pub returns-in_err-hash_cost-clause-admits : goal.returns-in_err-hash_cost-clause-admits
returns-in_err-hash_cost-clause-admits c = λ kept spells low.
    let above = rw c.setting.ensures.value at c.in_err-hash_cost.ensures.above in
    absurd (cost-not_above c.args.password.now c.args.budget (c.in_ok-stored.stored).setting kept
    (c.in_ok-stored.ensures.each_setting kept spells) above.0 low)

pub returns-clause-only : goal.returns-clause-only
returns-clause-only c = λ kept spells. c.in_ok-stored.ensures.each_setting kept spells
