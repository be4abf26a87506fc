-- The clauses of `web_verify` follow from those of `verify`, which returns the report, and those of `write_report`,
-- whose result is 1 exactly if the report's error is 0. In `enough`, the lent memory is enough for the hash, because
-- `words` and `bytes` are at least as long as `need` says.
use Rattle.std.proofs.Common.{arith, inl, inr, rules}
use Rattle.crypt_web.proofs.web_verify.Goals as goal

pub returns-clause-verifies : goal.returns-clause-verifies
returns-clause-verifies c = rw c.write_report.ensures.reported c.verify-reported.ensures.verifies

-- The clause `opens`: if the password opens the stored hash within the budget (`opens`), the result is 1, or the error
-- is `OutOfMemory`.
pub returns-clause-opens : goal.returns-clause-opens
returns-clause-opens c = λ opens. elim (c.verify-reported.ensures.opens opens) [
  | inl none ↦ inl (search (rules, c.write_report.ensures.answers.1.1 none))
  | inr lacks ↦ inr (rw c.write_report.ensures.reported lacks.0)
]

-- The clause `enough`: if `need` is what the call needs (`is`), and the lent `words` and `bytes` are at least as long,
-- the error is not `OutOfMemory`.
pub returns-clause-enough : goal.returns-clause-enough
returns-clause-enough c = λ need is words bytes.
    rw c.write_report.ensures.reported (c.verify-reported.ensures.enough (λ kept hashes.
    let needed = is.0 kept hashes in
    c.new-lent.ensures.enough kept.scheme (omega (arith, needed.0, words)) (omega (arith, needed.1, bytes))))
