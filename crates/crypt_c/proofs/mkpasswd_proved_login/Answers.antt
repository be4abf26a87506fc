-- The clauses of `mkpasswd_proved_login` follow from those of `log_in`, which gets the limit that the budget stands for
-- and makes the report, and those of `write_report`, whose result is 1 exactly if the report's error is 0. The module
-- LoginPromises derives `judges` and `treats_alike` from what `log_in` ensures.
use Rattle.std.proofs.Common.{inl, inr, rules, length}
use Rattle.call_core.specs.Limits.{limit_of}
use Rattle.call_core.proofs.LoginPromises.{JudgesStoredHash_from_LogsIn, TreatsFieldsAlike_from_LogsIn}
use Rattle.crypt_c.proofs.mkpasswd_proved_login.Goals as goal

-- The clause `opens`: if the method and the rounds make a scheme (`scheme`, `made`) and the password opens the stored
-- hash within the limit (`opens`), the result is 1, or the error is `OutOfMemory`.
pub returns-clause-opens : goal.returns-clause-opens
returns-clause-opens c = λ scheme made opens.
    let opened = rw c.of.ensures at c.log_in.ensures.opens in
    elim (opened scheme made opens) [
      | inl positive ↦ inl (search (rules, c.write_report.ensures.answers.1.1 positive))
      | inr lacks ↦ inr (rw c.write_report.ensures.reported lacks.0)
    ]

pub returns-clause-logs_in : goal.returns-clause-logs_in
returns-clause-logs_in c = rw c.write_report.ensures.reported (rw c.of.ensures at c.log_in.ensures.logs_in)

pub returns-clause-judges : goal.returns-clause-judges
returns-clause-judges c =
    let logged = c.log_in.ensures in
    let limit = limit_of c.args.method c.args.rounds c.args.budget (length c.args.password.now) in
    rw c.write_report.ensures.reported (JudgesStoredHash_from_LogsIn c.args.password.now c.args.field.now c.args.method c.args.rounds limit _ c.log_in.result (search rules)
    (rw c.of.ensures at logged.logs_in) logged.shut (rw c.of.ensures at logged.dead) logged.outdated logged.replaced)

pub returns-clause-treats_alike : goal.returns-clause-treats_alike
returns-clause-treats_alike c =
    rw c.write_report.ensures.reported (TreatsFieldsAlike_from_LogsIn c.args.password.now c.args.field.now c.args.method c.args.rounds c.args.budget _
    c.log_in.result (search rules) (rw c.of.ensures at c.log_in.ensures.logs_in) (rw c.of.ensures at c.log_in.ensures.lets_in))
