-- The clauses of `web_login` follow from those of `log_in`, which gets the limit that the budget stands for and returns
-- the report, and those of `write_report`, whose result is 1 exactly if the report's error is 0. The module
-- LoginPromises derives `judges` and `treats_alike` from what `log_in` ensures. In `enough`, the lent memory is enough
-- for the hash, because `words` and `bytes` are at least as long as `need` says.
use Rattle.std.proofs.Common.{arith, inl, inr, rules, length}
use Rattle.call_core.specs.Limits.{limit_of}
use Rattle.call_core.proofs.LoginPromises.{JudgesStoredHash_from_LogsIn, TreatsFieldsAlike_from_LogsIn}
use Rattle.crypt_web.proofs.web_login.Goals as goal

-- The clause `opens`: if the method and the rounds make a scheme (`scheme`, `made`) and the password opens the stored
-- hash within the limit (`opens`), the result is 1, or the error is `OutOfMemory`.
pub returns-clause-opens : goal.returns-clause-opens
returns-clause-opens c = λ scheme made opens.
    let opened = rw c.of.ensures at c.log_in-reported.ensures.opens in
    elim (opened scheme made opens) [
      | inl positive ↦ inl (search (rules, c.write_report.ensures.answers.1.1 positive))
      | inr lacks ↦ inr (rw c.write_report.ensures.reported lacks.0)
    ]

-- The clause `enough`: if `need` is what the call needs (`is`), and the lent `words` and `bytes` are at least as long,
-- the error is not `OutOfMemory`.
pub returns-clause-enough : goal.returns-clause-enough
returns-clause-enough c = λ need is words bytes.
    let enough = rw c.of.ensures at c.log_in-reported.ensures.enough in
    rw c.write_report.ensures.reported (enough (λ kept hashes.
    let needed = is.0 kept hashes in
    c.new-lent.ensures.enough kept.scheme (omega (arith, needed.0, words)) (omega (arith, needed.1, bytes))))

pub returns-clause-logs_in : goal.returns-clause-logs_in
returns-clause-logs_in c = rw c.write_report.ensures.reported (rw c.of.ensures at c.log_in-reported.ensures.logs_in)

pub returns-clause-judges : goal.returns-clause-judges
returns-clause-judges c =
    let logged = c.log_in-reported.ensures in
    let limit = limit_of c.args.method c.args.rounds c.args.budget (length c.args.password.now) in
    rw c.write_report.ensures.reported (JudgesStoredHash_from_LogsIn c.args.password.now c.args.field.now c.args.method c.args.rounds limit _ c.log_in-reported.result (search rules)
    (rw c.of.ensures at logged.logs_in) logged.shut (rw c.of.ensures at logged.dead) logged.outdated logged.replaced)

pub returns-clause-treats_alike : goal.returns-clause-treats_alike
returns-clause-treats_alike c =
    rw c.write_report.ensures.reported (TreatsFieldsAlike_from_LogsIn c.args.password.now c.args.field.now c.args.method c.args.rounds c.args.budget _
    c.log_in-reported.result (search rules) (rw c.of.ensures at c.log_in-reported.ensures.logs_in) (rw c.of.ensures at c.log_in-reported.ensures.lets_in))
