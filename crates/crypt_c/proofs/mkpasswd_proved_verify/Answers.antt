-- The clauses of `mkpasswd_proved_verify` follow from those of `verify`, which returns the report, and those of
-- `write_report`, whose result is 1 exactly if the report's error is 0.
use Rattle.std.proofs.Common.{inl, inr, rules}
use Rattle.crypt_c.proofs.mkpasswd_proved_verify.Goals as goal

pub returns-clause-verifies : goal.returns-clause-verifies
returns-clause-verifies c = rw c.write_report.ensures.reported c.verify.ensures.verifies

-- The clause `opens`: if the password opens the stored hash within the budget (`opens`), the result is 1, or the error
-- is `OutOfMemory`.
pub returns-clause-opens : goal.returns-clause-opens
returns-clause-opens c = λ opens. elim (c.verify.ensures.opens opens) [
  | inl none ↦ inl (search (rules, c.write_report.ensures.answers.1.1 none))
  | inr lacks ↦ inr (rw c.write_report.ensures.reported lacks.0)
]
