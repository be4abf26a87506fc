-- What the report of an audit says about the stored hash, for the clauses `current`, `passes` and `checked` of
-- `report_audit` and the clause `idle` of `finding_report`. An audit passes exactly the current hashes. With the empty
-- password, a login can check each hash that an audit with a budget of 0 does not report as over the budget.
--
-- Each proof goes through the possible findings. The number of a reason determines the reason (`reason_row-unique`) and
-- is never 0, so `error` and `outdated` in the report determine the standing of the hash.
use Rattle.std.proofs.Common.{◌≡◌, ◌≢◌, ◌⊎◌, ◌≤◌, ◌<◌, ◌∙◌, ℕ, List, [], inl, inr, refl, subst, sym, ap, true≢false, arith}
use Rattle.prims_core.specs.Work.{no_work}
use Rattle.crypt_core.specs.Findings.{Finds, JudgesHash}
use Rattle.crypt_core.specs.Settings.{SettingValue, Spells}
use Rattle.crypt_core.specs.Standings.{HasStanding, IsOverBudget}
use Rattle.crypt_core.specs.Work.{cost}
use Rattle.crypt_core.specs.declared.finding.Finding.{Finding}
use Rattle.crypt_core.specs.declared.finding.Finding.TheVariants as findings
use Rattle.crypt_core.specs.declared.scheme.Scheme.{Scheme}
use Rattle.crypt_core.specs.declared.scheme.Scheme.TheVariants.{Md5crypt, Shacrypt, Scrypt}
use Rattle.crypt_core.specs.declared.standing.Standing.{Standing}
use Rattle.crypt_core.specs.declared.standing.Standing.TheVariants as standings
use Rattle.call_core.specs.Arguments.{IsSchemeMade, TakesNewRounds}
use Rattle.call_core.specs.Audits.{ForeseesLogins, IsCurrent, Passes, audit_report, standing_report, with_scheme}
use Rattle.call_core.specs.Limits.{default_budget, limit_of, policy_limit}
use Rattle.call_core.specs.declared.limit.Limit.TheVariants.{Policy}
use Rattle.call_core.specs.Logins.{IsUncheckable}
use Rattle.call_core.specs.Reasons.{reason_row, setting_reason}
use Rattle.call_core.specs.Reports.{refused}
use Rattle.call_core.specs.declared.reason.Reason.{Reason}
use Rattle.call_core.specs.declared.reason.Reason.TheVariants as reasons
use Rattle.call_core.specs.declared.report.Report.{Report}
use Rattle.call_core.proofs.LoginReports.{setting_reason-not_Dead}
use Rattle.call_core.proofs.MadeSchemes.{IsSchemeMade-unique}
use Rattle.call_core.proofs.PolicyLimits.{limit_by-policy_limit, new_cost-empty-le, limit_in-allowance}
use Rattle.call_core.proofs.ReasonNumbers.{reason_row-nonzero, reason_row-unique}

-- A hash that is current has no other standing.
pub Current-unique : (new : Scheme) (budget : ℕ) (text : List ℕ) (kept : SettingValue) (standing : Standing)
    → HasStanding new budget text kept standings.Current → HasStanding new budget text kept standing → standing ≡ standings.Current
Current-unique new budget text kept standings.OverBudget is has = absurd (is.0 has)
Current-unique new budget text kept standings.Dead is has = absurd (has.1 is.1)
Current-unique new budget text kept standings.Outdated is has = absurd (true≢false (sym has.2 ∙ is.2))
Current-unique new budget text kept standings.Current is has = refl

-- ---- The error in the report of a finding

-- Adding the scheme to a report changes neither its error nor its `outdated`.
with_scheme-error : (scheme : Scheme) (report : Report) → ((with_scheme scheme report).error ≡ report.error) × ((with_scheme scheme report).outdated ≡ report.outdated)
with_scheme-error Md5crypt report = (refl, refl)
with_scheme-error (Shacrypt sha rounds) report = (refl, refl)
with_scheme-error (Scrypt params) report = (refl, refl)

-- A refusal, such as the report of a finding other than a hash, has an error.
error-refused : (reason : Reason) → (refused reason 0).error ≡ 0 → ⊥
error-refused reason e = reason_row-nonzero reason e

-- ---- The work of an audit

-- Adding the scheme to a report does not change its work.
pub work-with_scheme : (scheme : Scheme) (report : Report) → (with_scheme scheme report).work ≡ report.work
work-with_scheme Md5crypt report = refl
work-with_scheme (Shacrypt sha rounds) report = refl
work-with_scheme (Scrypt params) report = refl

-- The report of a hash has no work, whatever the standing of the hash.
pub work-standing_report : (standing : Standing) (most : ℕ) → (standing_report standing most).work ≡ no_work
work-standing_report standings.OverBudget most = refl
work-standing_report standings.Dead most = refl
work-standing_report standings.Outdated most = refl
work-standing_report standings.Current most = refl

-- ---- What an audit passes

-- A standing whose report passes is Current.
Current_from_Passes : (standing : Standing) (most : ℕ) → Passes (standing_report standing most) → standing ≡ standings.Current
Current_from_Passes standings.OverBudget most passes = absurd (reason_row-nonzero reasons.OverBudget passes.0)
Current_from_Passes standings.Dead most passes = absurd (reason_row-nonzero reasons.Dead passes.0)
Current_from_Passes standings.Outdated most passes = absurd cc
Current_from_Passes standings.Current most passes = refl

-- A finding whose report passes is a current hash.
Hash_from_Passes : (finding : Finding) → Passes (audit_report finding) → (scheme : Scheme) × (most : ℕ) × (finding ≡ findings.Hash scheme most standings.Current)
Hash_from_Passes (findings.Hash scheme most standing) passes =
    let stays = with_scheme-error scheme (standing_report standing most) in
    let is = Current_from_Passes standing most (sym stays.0 ∙ passes.0, sym stays.1 ∙ passes.1) in
    (scheme, most, ap (findings.Hash scheme most) is)
Hash_from_Passes findings.NoHash passes = absurd (error-refused reasons.NoHash passes.0)
Hash_from_Passes findings.Locked passes = absurd (error-refused reasons.Locked passes.0)
Hash_from_Passes (findings.Malformed fault) passes = absurd (error-refused (setting_reason fault) passes.0)
Hash_from_Passes (findings.Other other) passes = absurd (error-refused reasons.UnknownScheme passes.0)
Hash_from_Passes findings.Unknown passes = absurd (error-refused reasons.UnknownScheme passes.0)
Hash_from_Passes findings.NoScheme passes = absurd (error-refused reasons.NoScheme passes.0)

-- If the report of what an audit finds in a field passes, the field is current.
pub IsCurrent_from_Passes : (number rounds budget : ℕ) (new : Scheme) (field : List ℕ) (finding : Finding) → IsSchemeMade TakesNewRounds number rounds new
    → Finds new budget field finding → Passes (audit_report finding) → IsCurrent field number rounds budget
IsCurrent_from_Passes number rounds budget new field finding makes finds passes =
    let (scheme, most, is) = Hash_from_Passes finding passes in
    let (kept, spells, same, cost_is, has) = subst (Finds new budget field) is finds in
    (kept, new, spells, makes, has)

-- The report of a current field passes, because its hash has only the standing Current.
pub Passes_from_IsCurrent : (number rounds budget : ℕ) (new : Scheme) (field : List ℕ) (finding : Finding) → IsSchemeMade TakesNewRounds number rounds new
    → ((kept : SettingValue) → Spells field kept → JudgesHash new budget field kept finding) → IsCurrent field number rounds budget
    → Passes (audit_report finding)
Passes_from_IsCurrent number rounds budget new field finding makes judges (kept, scheme, spells, made, current) =
    let one : scheme ≡ new = (IsSchemeMade-unique TakesNewRounds TakesNewRounds number rounds scheme new made makes) in
    let (standing, has, is) = judges kept spells in
    let has_current : HasStanding new budget field kept standings.Current =
    subst (λ (own : Scheme). HasStanding own budget field kept standings.Current) one current in
    let same : standing ≡ standings.Current = Current-unique new budget field kept standing has_current has in
    rw (is, same) (with_scheme-error kept.scheme _)

-- With a budget of 0 and a valid method and rounds, the limit of a login with the empty password is the policy's.
limit_of-empty_password : (number rounds : ℕ) (scheme : Scheme) → IsSchemeMade TakesNewRounds number rounds scheme
    → limit_of number rounds default_budget 0 ≡ policy_limit scheme
limit_of-empty_password number rounds scheme makes =
    limit_by-policy_limit scheme 0 _ (limit_in-allowance number rounds scheme Policy 0 makes) (omega arith) (new_cost-empty-le scheme)

-- With a budget of 0 and a valid method and rounds, a login with the empty password can check a hash whose cost for it
-- is within the policy's limit.
pub not_IsUncheckable-policy_limit : (field : List ℕ) (kept : SettingValue) (number rounds : ℕ) (scheme : Scheme) → Spells field kept
    → IsSchemeMade TakesNewRounds number rounds scheme → cost kept 0 ≤ policy_limit scheme → ¬ IsUncheckable [] field (limit_of number rounds default_budget 0)
not_IsUncheckable-policy_limit field kept number rounds scheme spells makes within un =
    let above : limit_of number rounds default_budget 0 < cost kept 0 = un kept spells in
    let limit = limit_of-empty_password number rounds scheme makes in
    omega (arith, above, within, limit)

-- ---- A login can check what an audit finds within the budget

-- IsJudged report: the report has no error or reports a dead hash, so it is that of a hash within the budget.
abbrev IsJudged : Report → Type 0
IsJudged report = (report.error ≡ 0) ⊎ (report.error ≡ (reason_row reasons.Dead).0)

-- A refusal for any reason but Dead is not `IsJudged`.
not_IsJudged-refused : (reason : Reason) (most : ℕ) → reason ≢ reasons.Dead → IsJudged (refused reason most) → ⊥
not_IsJudged-refused reason most other (inl none) = reason_row-nonzero reason none
not_IsJudged-refused reason most other (inr dead) = other (reason_row-unique reason reasons.Dead dead)

-- If the report of a standing is one on a hash that was judged, the standing isn't `OverBudget`.
not_over_budget_from_IsJudged : (standing : Standing) (most : ℕ) → IsJudged (standing_report standing most) → standing ≢ standings.OverBudget
not_over_budget_from_IsJudged standings.OverBudget most judged = absurd (not_IsJudged-refused reasons.OverBudget most (λ is. absurd (cc is)) judged)
not_over_budget_from_IsJudged standings.Dead most judged = λ is. absurd (cc is)
not_over_budget_from_IsJudged standings.Outdated most judged = λ is. absurd (cc is)
not_over_budget_from_IsJudged standings.Current most judged = λ is. absurd (cc is)

-- A finding whose report is `IsJudged` is a hash within the budget.
Hash_from_IsJudged : (finding : Finding) → IsJudged (audit_report finding)
    → (scheme : Scheme) × (most : ℕ) × (standing : Standing) × (finding ≡ findings.Hash scheme most standing) × (standing ≢ standings.OverBudget)
Hash_from_IsJudged (findings.Hash scheme most standing) judged =
    let stays = with_scheme-error scheme (standing_report standing most) in
    (scheme, most, standing, refl, not_over_budget_from_IsJudged standing most (rw stays.0 at judged))
Hash_from_IsJudged findings.NoHash judged = absurd (not_IsJudged-refused reasons.NoHash 0 (λ is. absurd (cc is)) judged)
Hash_from_IsJudged findings.Locked judged = absurd (not_IsJudged-refused reasons.Locked 0 (λ is. absurd (cc is)) judged)
Hash_from_IsJudged (findings.Malformed fault) judged = absurd (not_IsJudged-refused (setting_reason fault) 0 (setting_reason-not_Dead fault) judged)
Hash_from_IsJudged (findings.Other other) judged = absurd (not_IsJudged-refused reasons.UnknownScheme 0 (λ is. absurd (cc is)) judged)
Hash_from_IsJudged findings.Unknown judged = absurd (not_IsJudged-refused reasons.UnknownScheme 0 (λ is. absurd (cc is)) judged)
Hash_from_IsJudged findings.NoScheme judged = absurd (not_IsJudged-refused reasons.NoScheme 0 (λ is. absurd (cc is)) judged)

-- With a budget of 0, a hash whose standing isn't OverBudget is not over the budget.
not_IsOverBudget_from_HasStanding : (new : Scheme) (field : List ℕ) (kept : SettingValue) (reported : Standing) → HasStanding new 0 field kept reported → reported ≢ standings.OverBudget
    → ¬ IsOverBudget new 0 kept
not_IsOverBudget_from_HasStanding new field kept standings.OverBudget has other = absurd (other refl)
not_IsOverBudget_from_HasStanding new field kept standings.Dead has other = has.0
not_IsOverBudget_from_HasStanding new field kept standings.Outdated has other = has.0
not_IsOverBudget_from_HasStanding new field kept standings.Current has other = has.0

-- With a budget of 0, a hash that is not over the budget costs at most the policy's limit with the empty password.
cost-le-policy_limit : (new : Scheme) (kept : SettingValue) → ¬ IsOverBudget new 0 kept → cost kept 0 ≤ policy_limit new
cost-le-policy_limit new kept within = omega (arith, λ (above : policy_limit new < cost kept 0). within (inr (refl, above)))

-- With the empty password, a login with a budget of 0 can check a hash that an audit with a budget of 0 reports as
-- current, outdated or dead.
pub ForeseesLogins_from_Finds : (number rounds budget : ℕ) (new : Scheme) (field : List ℕ) (finding : Finding) → IsSchemeMade TakesNewRounds number rounds new
    → Finds new budget field finding → ForeseesLogins field number rounds budget (audit_report finding)
ForeseesLogins_from_Finds number rounds budget new field finding makes finds judged default =
    let (scheme, most, standing, is, not) = Hash_from_IsJudged finding judged in
    let (kept, spells, scheme_is, most_is, has) = subst (Finds new budget field) is finds in
    let zero : HasStanding new 0 field kept standing = subst (λ (own : ℕ). HasStanding new own field kept standing) default has in
    not_IsUncheckable-policy_limit field kept number rounds new spells makes (cost-le-policy_limit new kept (not_IsOverBudget_from_HasStanding new field kept standing zero not))
