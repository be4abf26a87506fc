-- The audit of a stored field, which needs no password.
use Rattle.std.specs.Prelude.{◌≡◌, ◌⊎◌, ℕ, List, []}
use Rattle.prims_core.specs.Work.{no_work}
use Rattle.crypt_core.specs.Findings.{Finds}
use Rattle.crypt_core.specs.Messages.{md5crypt_rounds}
use Rattle.crypt_core.specs.Methods.{method_row}
use Rattle.crypt_core.specs.OtherSchemes.{other_scheme_row}
use Rattle.crypt_core.specs.Schemes.{row_count, sha_method}
use Rattle.crypt_core.specs.Settings.{SettingValue, Spells}
use Rattle.crypt_core.specs.Standings.{HasStanding}
use Rattle.crypt_core.specs.declared.finding.Finding.{Finding}
use Rattle.crypt_core.specs.declared.finding.Finding.TheVariants.{Hash, NoHash, Locked, Malformed, Other, Unknown, NoScheme}
use Rattle.crypt_core.specs.declared.method.Method.TheVariants as methods
use Rattle.crypt_core.specs.declared.scheme.Scheme.{Scheme}
use Rattle.crypt_core.specs.declared.scheme.Scheme.TheVariants.{Md5crypt, Shacrypt, Scrypt}
use Rattle.crypt_core.specs.declared.standing.Standing.{Standing}
use Rattle.crypt_core.specs.declared.standing.Standing.TheVariants as standings
use Rattle.call_core.specs.Arguments.{IsSchemeMade, OnScheme, Refuses, TakesNewRounds}
use Rattle.call_core.specs.Limits.{default_budget, limit_of}
use Rattle.call_core.specs.Logins.{IsUncheckable}
use Rattle.call_core.specs.Reasons.{reason_row, setting_reason}
use Rattle.call_core.specs.Reports.{found, refused}
use Rattle.call_core.specs.declared.reason.Reason.TheVariants as reasons
use Rattle.call_core.specs.declared.report.Report.{Report}

-- standing_report standing most: the report of a hash with this standing; `most` is its greatest cost.
abbrev pub standing_report : Standing → ℕ → Report
standing_report standings.OverBudget most = refused reasons.OverBudget most
standing_report standings.Dead most = refused reasons.Dead most
standing_report standings.Outdated most = found 1 most no_work
standing_report standings.Current most = found 0 most no_work

-- with_scheme scheme report: the report with the scheme added: its number, and its rounds, or N, r and p for scrypt.
abbrev pub with_scheme : Scheme → Report → Report
with_scheme Md5crypt report = record report { scheme = (method_row methods.Md5crypt).number; rounds = md5crypt_rounds }
with_scheme (Shacrypt sha rounds) report = record report { scheme = (method_row (sha_method sha)).number; rounds = rounds.count }
with_scheme (Scrypt params) report =
    record report { scheme = (method_row methods.Scrypt).number; n = row_count params; r = params.r; p = params.p }

-- audit_report finding: the report of what an audit found in the field.
--   Hash       the report of the hash's standing, with its scheme
--   NoHash     the field is empty
--   Locked     the field is locked
--   Malformed  the field begins with `$` but is no valid setting; the report has the first rule that it breaks
--   Other      the field has the form of another scheme of crypt(5); the report has its number
--   Unknown    the field begins with `$` but has the form of no scheme that mkpasswd knows
--   NoScheme   the field has the form of no scheme
abbrev pub audit_report : Finding → Report
audit_report (Hash scheme most standing) = with_scheme scheme (standing_report standing most)
audit_report NoHash = refused reasons.NoHash 0
audit_report Locked = refused reasons.Locked 0
audit_report (Malformed fault) = refused (setting_reason fault) 0
audit_report (Other other) = record (refused reasons.UnknownScheme 0) { scheme = (other_scheme_row other).0 }
audit_report Unknown = refused reasons.UnknownScheme 0
audit_report NoScheme = refused reasons.NoScheme 0

-- Audits field number rounds budget report: the report of mkpasswd_audit and web_audit. It says what the audit finds in
-- the field, or that it refuses the method or the rounds. A budget of 0 means the audit's own budget.
abbrev pub Audits : List ℕ → ℕ → ℕ → ℕ → Report → Type 0
Audits field number rounds budget report =
    OnScheme TakesNewRounds number rounds (Refuses report) (λ scheme.
    (finding : Finding) × Finds scheme budget field finding × (report ≡ audit_report finding))

-- IsCurrent field number rounds budget: an audit passes the field: it spells a setting, and its hash is current by the
-- scheme of the method and the rounds, and within the budget.
abbrev pub IsCurrent : List ℕ → ℕ → ℕ → ℕ → Type 0
IsCurrent field number rounds budget =
    (kept : SettingValue) × (scheme : Scheme) × Spells field kept × IsSchemeMade TakesNewRounds number rounds scheme
    × HasStanding scheme budget field kept standings.Current

-- Passes report: the report of a field that an audit passes.
abbrev pub Passes : Report → Type 0
Passes report = (report.error ≡ 0) × (report.outdated ≡ 0)

-- ForeseesLogins field number rounds budget report: if an audit with a budget of 0 reports the hash as current,
-- outdated or dead, a login by the same method and rounds can check it within the limit of their policy, at least with
-- the empty password.
abbrev pub ForeseesLogins : List ℕ → ℕ → ℕ → ℕ → Report → Type 0
ForeseesLogins field number rounds budget report =
    (report.error ≡ 0) ⊎ (report.error ≡ (reason_row reasons.Dead).0) → budget ≡ 0
    → ¬ IsUncheckable [] field (limit_of number rounds default_budget 0)
