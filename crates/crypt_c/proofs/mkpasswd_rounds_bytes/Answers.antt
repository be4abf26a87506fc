-- The clauses of `mkpasswd_rounds_bytes` follow from those of `report_rounds`, which gets the limit that the budget
-- stands for and returns the report, and those of `write_report`, whose result is 1 exactly if the report's error is 0.
use Rattle.std.proofs.Common.{◌≡◌, pos, rules}
use Rattle.crypt_c.proofs.mkpasswd_rounds_bytes.Goals as goal

pub returns-clause-rounds : goal.returns-clause-rounds
returns-clause-rounds c = rw (c.write_report.ensures.reported, ← c.of.ensures) c.report_rounds-reported.ensures.rounds

-- In the clauses below, `scheme` is the one that the method and the rounds make (`makes`).
--
-- The clause `fitted`: if the result is 1 (`one`), the reported rounds are valid, no more than the policy's, and keep a
-- new hash within the limit.
pub returns-clause-fitted : goal.returns-clause-fitted
returns-clause-fitted c = λ scheme makes one.
    let positive = c.write_report.ensures.answers.1.0 (search (rules, one)) in
    rw (c.write_report.ensures.reported, ← c.of.ensures) (c.report_rounds-reported.ensures.fitted scheme makes positive)

-- The clause `none`: if the password's length is valid (`short`) and the result is 0 (`zero`), no rounds of SHA-crypt
-- keep a new hash within the limit.
pub returns-clause-none : goal.returns-clause-none
returns-clause-none c = λ scheme makes short zero.
    rw (← c.of.ensures) (c.report_rounds-reported.ensures.none scheme makes short (λ positive.
    let none : c.write_report.result ≡ pos 0 = search (rules, zero) in
    absurd (cc (c.write_report.ensures.answers.1.1 positive, none))))

-- The clause `policy`: if the password's length is valid (`short`) and the budget means the policy's limit (`policy`),
-- the result is 1.
pub returns-clause-policy : goal.returns-clause-policy
returns-clause-policy c = λ scheme makes short policy.
    let limit = rw policy at c.of.ensures in
    search (rules, c.write_report.ensures.answers.1.1 (c.report_rounds-reported.ensures.policy scheme makes short limit))
