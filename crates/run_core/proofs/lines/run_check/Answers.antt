-- Proves the clauses `rehash` and `budget` of `run_check`, by the lemmas of `LineOptions` for lines that are not to be
-- audited.
use Rattle.run_core.proofs.LineOptions.{only_refuses, only_renews}
use Rattle.run_core.specs.declared.line.Kind.TheVariants.{Check}
use Rattle.run_core.proofs.lines.run_check.Goals as goal

pub returns-clause-rehash : goal.returns-clause-rehash
returns-clause-rehash g c = only_renews Check c.args.job.now (λ same. cc)

pub returns-clause-budget : goal.returns-clause-budget
returns-clause-budget g c = only_refuses Check c.args.job.now (λ same. cc)
