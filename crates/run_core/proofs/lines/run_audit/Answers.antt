-- Proves the clauses of `run_audit` from `hashes_none` on. `AuditsWithoutHashes` has the lemmas on hashes and memory,
-- `ForeseenChecks` those on later checks, and `WorkBounds` of crypt_core the one on the maximum cost. The clause
-- `rehash` is immediate, since the answer to a line to audit does not depend on rehashes.
use Rattle.run_core.proofs.AuditsWithoutHashes.{HashesNothing_from_EndsLines}
use Rattle.run_core.proofs.ForeseenChecks.{foresees, heeds_limit, refutes}
use Rattle.crypt_core.proofs.WorkBounds.{cost-le-longest_password}
use Rattle.run_core.proofs.lines.run_audit.Goals as goal

pub returns-clause-hashes_none : goal.returns-clause-hashes_none
returns-clause-hashes_none g c = (HashesNothing_from_EndsLines c.args.turns c.args.job.now _ _ _ c.answer_lines.ensures.runs.ends).hashes_none

pub returns-clause-allocates_none : goal.returns-clause-allocates_none
returns-clause-allocates_none g c = (HashesNothing_from_EndsLines c.args.turns c.args.job.now _ _ _ c.answer_lines.ensures.runs.ends).allocates_none

pub returns-clause-longest : goal.returns-clause-longest
returns-clause-longest g c = cost-le-longest_password

pub returns-clause-foresees : goal.returns-clause-foresees
returns-clause-foresees g c = foresees c.args.job.now

pub returns-clause-checked : goal.returns-clause-checked
returns-clause-checked g c = heeds_limit c.args.job.now

pub returns-clause-refutes : goal.returns-clause-refutes
returns-clause-refutes g c = refutes c.args.job.now

-- The clause `rehash`: a job answers each line (`number`, `line`, `stream`, `answer`) in the same way with and without
-- rehashes.
pub returns-clause-rehash : goal.returns-clause-rehash
returns-clause-rehash g c = λ number line stream answer. ((λ is. is), λ is. is)
