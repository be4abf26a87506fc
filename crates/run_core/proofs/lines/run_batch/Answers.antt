-- Proves the clauses `rehash` and `budget` of `run_batch`, by the lemmas of `LineOptions`. Rehashes change no answer,
-- since a line to hash has no field.
use Rattle.run_core.proofs.LineOptions.{batch_renews_none, only_refuses}
use Rattle.run_core.specs.declared.line.Kind.TheVariants.{Batch}
use Rattle.run_core.proofs.lines.run_batch.Goals as goal

pub returns-clause-rehash : goal.returns-clause-rehash
returns-clause-rehash g c = batch_renews_none c.args.job.now

pub returns-clause-budget : goal.returns-clause-budget
returns-clause-budget g c = only_refuses Batch c.args.job.now (λ same. cc)
