-- The clauses `judges` and `treats_alike` of mkpasswd_login and web_login follow from what `log_in` ensures. The fields
-- `shut`, `dead` and `outdated` of `JudgesStoredHash` are clauses of `log_in`; `shut` and `outdated` are restated for
-- the result of the call. The other fields, and those of `TreatsFieldsAlike`, follow from the clauses `logs_in` and
-- `lets_in`, by lemmas of LoginReports about the report and of PolicyLimits about the limit. mkpasswd_new uses
-- `limit_of-policy` too.
use Rattle.std.proofs.Common.{◌≡◌, ◌≢◌, ℕ, ℤ, pos, List, length, inl, inr}
use Rattle.crypt_core.specs.declared.scheme.Scheme.{Scheme}
use Rattle.call_core.specs.Arguments.{IsSchemeMade, TakesNewRounds}
use Rattle.call_core.specs.Checks.{IsDead, Opens}
use Rattle.call_core.specs.Limits.{default_budget, limit_by, limit_of}
use Rattle.call_core.specs.declared.limit.Limit.TheVariants.{Policy}
use Rattle.call_core.specs.Logins.{JudgesStoredHash, LogsIn, ReportsDead, TreatsFieldsAlike}
use Rattle.call_core.specs.Rehashes.{IsOutdated}
use Rattle.call_core.specs.Reports.{Answers}
use Rattle.call_core.specs.declared.report.Report.{Report}
use Rattle.call_core.proofs.LoginReports as reports
use Rattle.call_core.proofs.PolicyLimits.{limit_by-policy_limit, dummy_work-policy_limit, limit_in-allowance, limit_by-zero, IsLoginWork-zero_limit, not_Opens-zero_limit}

-- A call whose error isn't 0 returns 0, because by `Answers` it returns 1 or 0, and 1 only if the error is 0.
Answers-zero : (result : ℤ) (report : Report) → Answers result report → (report.error ≢ 0) → result ≡ pos 0
Answers-zero result report answers never = elim answers.0 [
  | inl one ↦ absurd (never (answers.1.0 one))
  | inr zero ↦ zero
]

-- With a budget of 0 and a valid method and rounds, the limit for a password of this length is `limit_by` of the scheme
-- that they make.
pub limit_of-policy : (number rounds budget len : ℕ) (scheme : Scheme) → IsSchemeMade TakesNewRounds number rounds scheme → budget ≡ default_budget
    → limit_of number rounds budget len ≡ limit_by scheme len
limit_of-policy number rounds budget len scheme makes policy = rw policy (limit_in-allowance number rounds scheme Policy len makes)

-- `JudgesStoredHash` follows from the clauses of `log_in`, where `budget` is the limit of the login.
pub JudgesStoredHash_from_LogsIn : (password field : List ℕ) (number rounds budget : ℕ) (result : ℤ) (report : Report) → Answers result report
    → LogsIn password field number rounds budget report
    → (IsDead field → (report.error ≢ 0))
    → ReportsDead password field number rounds budget report
    → (report.outdated ≡ 1 → (report.error ≡ 0) × IsOutdated field number rounds)
    → (report.error ≡ 0 → IsOutdated field number rounds → report.outdated ≡ 1)
    → JudgesStoredHash password field number rounds budget result report
JudgesStoredHash_from_LogsIn password field number rounds budget result report answers logged shut dead outdated replaced = record {
  shut = λ is_dead. Answers-zero result report answers (shut is_dead);
  dead = dead;
  only_dead = reports.IsDead_from_LogsIn password field number rounds budget report logged;
  outdated = (λ reported. (answers.1.1 (outdated reported).0, (outdated reported).1), λ is. replaced (answers.1.0 is.0) is.1);
  as_verify = λ scheme made. reports.Agrees_from_LogsIn password field number rounds budget scheme report made logged;
}

-- `TreatsFieldsAlike` follows from the clauses of `log_in`, where the limit of the login is the one that the budget
-- means.
pub TreatsFieldsAlike_from_LogsIn : (password field : List ℕ) (number rounds budget : ℕ) (result : ℤ) (report : Report) → Answers result report
    → LogsIn password field number rounds (limit_of number rounds budget (length password)) report
    → (report.error ≡ 0 → Opens password field (limit_of number rounds budget (length password)))
    → TreatsFieldsAlike password field number rounds budget result report
TreatsFieldsAlike_from_LogsIn password field number rounds budget result report answers logged lets_in =
    let len = length password in
    let limit = limit_of number rounds budget len in
    let one_hash = reports.IsLoginWork_from_LogsIn password field number rounds limit report logged in
    record {
      one_hash = one_hash;
      dummy_lacks = λ scheme made valid never low. reports.dummy_work-or_no_memory password field number rounds limit scheme report made valid never logged low;
      dummy_made = λ scheme made policy valid within never.
          let admits = limit_by-policy_limit scheme len limit (limit_of-policy number rounds budget len scheme made policy) valid.0 within in
          dummy_work-policy_limit password scheme limit report.work admits within
          (reports.dummy_work-IsUncheckable password field number rounds limit scheme report made valid (rw (← admits) at never) logged);
      dummy = λ scheme made valid never. reports.dummy_work-IsUncheckable password field number rounds limit scheme report made valid never logged;
      alike = λ fault broken. reports.report-password_refused password field number rounds limit fault report broken logged;
      alike_rounds = λ reason valid reading.
          reports.report-rounds_refused password field number rounds limit reason report valid reading logged;
      alike_long = λ scheme made policy above.
          let none = limit_by-zero scheme len limit (limit_of-policy number rounds budget len scheme made policy) above in (
            Answers-zero result report answers (λ positive. not_Opens-zero_limit password field (rw none at (lets_in positive))),
            IsLoginWork-zero_limit password field number rounds scheme report.work made above (rw none at one_hash),
          );
    }
