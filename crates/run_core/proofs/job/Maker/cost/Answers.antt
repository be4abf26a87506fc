-- Proves the clauses `number` and `each` of `Maker::cost`. The result is `made_cost_by`. By `cost-setting_by`, hashing
-- with any setting of the maker has this cost, whatever random numbers its salt is made from.
use Rattle.std.proofs.Common.{sym, ◌∙◌, rules}
use Rattle.run_core.proofs.MakerCosts.{cost-setting_by}
use Rattle.run_core.proofs.job.Maker.cost.Goals as goal

pub returns-clause-number : goal.returns-clause-number
returns-clause-number c = search rules

-- The clause `each`: whatever random numbers a salt is made from (`numbers`), hashing with that setting has the cost
-- returned.
pub returns-clause-each : goal.returns-clause-each
returns-clause-each c = λ numbers. cost-setting_by c.args.self.now numbers c.args.password_len ∙ sym (returns-clause-number c)
