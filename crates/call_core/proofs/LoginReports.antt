-- What the report of a login (`LogsIn`) says about the password and the stored hash. The first lemmas are for the
-- clause `logs_in` of `log_in`, one for each branch of its code. LoginPromises proves `JudgesStoredHash` and
-- `TreatsFieldsAlike` from the other lemmas, for mkpasswd_login and web_login.
--
-- Each proof goes through the cases of `LogsIn`. In its patterns these are: `inr ..`, a refused password; `inl (_, inr
-- (inl ..))`, an unknown method; `inl (_, inr (inr ..))`, refused rounds; `inl (_, inl (_, _, inr ..))`, a refused
-- field, which gets the dummy hash; and `inl (_, inl (_, _, inl ..))`, a field that spells a setting, whose hash is
-- compared if the budget allows that. Two schemes that the same number and rounds make are equal
-- (`IsSchemeMade-unique`), so the scheme is the same in all cases.
use Rattle.std.proofs.Common.{◌≡◌, ◌≤◌, ◌<◌, ◌⊎◌, ℕ, Bool, List, Err, length, nat_lt, if◌then◌else◌, false, true, ap, inl, inr, refl, sym, subst, arith, ◌∙◌, ◌≢◌}
use Rattle.std.specs.Prelude.{IsTrue, MatchBool}
use Rattle.std.specs.Str.{bytes_eq}
use Rattle.prims_core.specs.Work.{no_work}
use Rattle.prims_core.specs.declared.meter.Work.{Work}
use Rattle.crypt_core.specs.Crypt.{IsAfterFailedAllocation, allocates, crypt}
use Rattle.crypt_core.specs.Passwords.{IsPassword, IsPasswordRefused}
use Rattle.crypt_core.specs.OutdatedSchemes.{is_outdated_by}
use Rattle.crypt_core.specs.Settings.{SettingValue, Spells}
use Rattle.crypt_core.specs.Work.{cost, cost_by, work}
use Rattle.crypt_core.specs.declared.password.PasswordFault.{PasswordFault}
use Rattle.crypt_core.specs.declared.password.PasswordFault.TheVariants.{TooLong, HasNul}
use Rattle.crypt_core.specs.declared.scheme.Scheme.{Scheme}
use Rattle.crypt_core.specs.declared.scheme.Scheme.TheVariants.{Md5crypt, Shacrypt, Scrypt}
use Rattle.crypt_core.specs.declared.setting.fault.SettingFault.{SettingFault}
use Rattle.crypt_core.specs.declared.setting.fault.SettingFault.TheVariants as settings
use Rattle.crypt_core.proofs.BytesWithinCost.{work_bytes-le-cost}
use Rattle.call_core.specs.Arguments.{IsFieldRefusal, IsSchemeMade, IsSchemeReading, TakesNewRounds}
use Rattle.call_core.specs.Checks.{Compares, IsDead, Verifies}
use Rattle.call_core.specs.Private.Checks.{IsCheckRefused}
use Rattle.call_core.specs.Reasons.{password_reason, reason_row, setting_reason}
use Rattle.call_core.specs.Reports.{LacksMemory, failed, found, refused}
use Rattle.call_core.specs.declared.reason.Reason.{Reason}
use Rattle.call_core.specs.declared.reason.Reason.TheVariants.{Dead, OutOfMemory, OverBudget, Rounds, UnknownMethod, WrongPassword}
use Rattle.call_core.specs.declared.report.Report.{Report}
use Rattle.call_core.proofs.MadeSchemes.{IsSchemeMade-unique, IsSchemeMade-not_refused}
use Rattle.call_core.proofs.ReasonNumbers.{reason_row-nonzero, reason_row-unique}
use Rattle.call_core.specs.Logins.{Agrees, Declines, IsHashWork, IsLoginWork, IsMiss, IsUncheckable, LogsIn, dummy, spent}

-- ---- The report in each branch of a login

-- `LogsIn` holds of the report of a login that can't check the stored hash, and makes and drops the dummy hash.
pub LogsIn-declined : (password field : List ℕ) (number rounds budget : ℕ) (scheme : Scheme) (refusal report : Report)
    → IsPassword password → IsSchemeMade TakesNewRounds number rounds scheme → IsCheckRefused password field budget refusal
    → Declines password (dummy scheme) budget refusal report → LogsIn password field number rounds budget report
LogsIn-declined password field number rounds budget scheme refusal report is makes (inl (first, refused, e)) declines =
    inl (is, inl (scheme, makes, inr (first, refused, rw e at declines)))
LogsIn-declined password field number rounds budget scheme refusal report is makes (inr (kept, spells, above, e)) declines =
    let test : nat_lt budget (cost kept (length password)) ≡ true = grind arith in
    inl (is, inl (scheme, makes, inl (kept, spells, rw test (rw e at declines))))

-- `LogsIn` holds of the report of a login that compares the password's hash with the stored one.
pub LogsIn-compared : (password field : List ℕ) (number rounds budget : ℕ) (scheme : Scheme) (kept : SettingValue) (mismatch_reason : Reason) (report : Report)
    → IsPassword password → IsSchemeMade TakesNewRounds number rounds scheme → Spells field kept → cost kept (length password) ≤ budget
    → IsMiss field kept mismatch_reason → Compares password kept field (if is_outdated_by kept.scheme scheme then 1 else 0) mismatch_reason report
    → LogsIn password field number rounds budget report
LogsIn-compared password field number rounds budget scheme kept mismatch_reason report is makes spells low miss compares =
    let test : nat_lt budget (cost kept (length password)) ≡ false = grind arith in
    inl (is, inl (scheme, makes, inl (kept, spells, rw test (mismatch_reason, miss, compares))))

-- If the scheme of a setting is outdated by a scheme, so is that of an equal setting by an equal scheme.
pub is_outdated_by-eq : (kept other : SettingValue) (scheme also : Scheme) → kept ≡ other → scheme ≡ also → IsTrue (is_outdated_by other.scheme also)
    → is_outdated_by kept.scheme scheme ≡ true
is_outdated_by-eq kept other scheme also same made is = rw (same, made) is

-- ---- The report of a login agrees with that of mkpasswd_verify

-- If an allocation failed, the scheme is one that allocates.
allocates-failed_allocation : (scheme : Scheme) (done : Work) → IsAfterFailedAllocation no_work scheme done → allocates scheme ≡ true
allocates-failed_allocation (Scrypt params) done lacks = refl
allocates-failed_allocation Md5crypt done never = absurd never
allocates-failed_allocation (Shacrypt sha rounds) done never = absurd never

-- Making the dummy hash does not change the cost in the report of a refusal.
cost-Declines : (password : List ℕ) (kept : SettingValue) (budget : ℕ) (refusal report : Report)
    → Declines password kept budget refusal report → report.cost ≡ refusal.cost
cost-Declines password kept budget refusal report declines = go (nat_lt budget (cost kept (length password))) declines where
  go : (above : Bool) → MatchBool above (report ≡ refusal)
      ((report ≡ record refusal { work = work password kept })
      ⊎ ((done : Work) × IsAfterFailedAllocation no_work kept.scheme done × (report ≡ record refusal { error = (reason_row OutOfMemory).0; work = done })))
      → report.cost ≡ refusal.cost
  go true e = ap (λ (r : Report). r.cost) e
  go false (inl e) = ap (λ (r : Report). r.cost) e
  go false (inr (done, lacks, e)) = ap (λ (r : Report). r.cost) e

-- Making the dummy hash changes the error of a refusal only to OutOfMemory, and only if scrypt lacks memory for the
-- dummy hash.
error-Declines : (password : List ℕ) (kept : SettingValue) (budget : ℕ) (refusal report : Report)
    → Declines password kept budget refusal report
    → (report.error ≡ refusal.error) ⊎ ((report.error ≡ (reason_row OutOfMemory).0) × (allocates kept.scheme ≡ true))
error-Declines password kept budget refusal report declines = go (nat_lt budget (cost kept (length password))) declines where
  go : (above : Bool) → MatchBool above (report ≡ refusal)
      ((report ≡ record refusal { work = work password kept })
      ⊎ ((done : Work) × IsAfterFailedAllocation no_work kept.scheme done × (report ≡ record refusal { error = (reason_row OutOfMemory).0; work = done })))
      → (report.error ≡ refusal.error) ⊎ ((report.error ≡ (reason_row OutOfMemory).0) × (allocates kept.scheme ≡ true))
  go true e = inl (ap (λ (r : Report). r.error) e)
  go false (inl e) = inl (ap (λ (r : Report). r.error) e)
  go false (inr (done, lacks, e)) = inr (ap (λ (r : Report). r.error) e, allocates-failed_allocation kept.scheme done lacks)

-- The work in the report of a login that can't check the stored hash is that of the dummy hash, or none if the dummy
-- hash can cost more than the budget (`IsHashWork`).
work-Declines : (password : List ℕ) (kept : SettingValue) (budget : ℕ) (refusal report : Report) → refusal.work ≡ no_work
    → Declines password kept budget refusal report → IsHashWork password kept budget report.work
work-Declines password kept budget refusal report idle declines = go (nat_lt budget (cost kept (length password))) declines where
  go : (above : Bool) → MatchBool above (report ≡ refusal)
      ((report ≡ record refusal { work = work password kept })
      ⊎ ((done : Work) × IsAfterFailedAllocation no_work kept.scheme done × (report ≡ record refusal { error = (reason_row OutOfMemory).0; work = done })))
      → MatchBool above (report.work ≡ no_work) ((report.work ≡ work password kept) ⊎ IsAfterFailedAllocation no_work kept.scheme report.work)
  go true e = ap (λ (r : Report). r.work) e ∙ idle
  go false (inl e) = inl (ap (λ (r : Report). r.work) e)
  go false (inr (done, lacks, e)) =
      inr (subst (λ (w : Work). IsAfterFailedAllocation no_work kept.scheme w) (sym (ap (λ (r : Report). r.work) e)) lacks)

-- A login that can't check the stored hash agrees with mkpasswd_verify, which reports the refusal. If scrypt lacked
-- memory for the dummy hash (`lacks`), the login reports OutOfMemory instead, which is the last case of `Agrees`.
Agrees_from_Declines : (password : List ℕ) (scheme : Scheme) (budget : ℕ) (reason : Reason) (hash_cost : ℕ) (report : Report)
    → Declines password (dummy scheme) budget (refused reason hash_cost) report → Agrees scheme report (refused reason hash_cost)
Agrees_from_Declines password scheme budget reason hash_cost report declines = (
  cost-Declines password (dummy scheme) budget (refused reason hash_cost) report declines,
  elim (error-Declines password (dummy scheme) budget (refused reason hash_cost) report declines) [
    | inl same ↦ inl same
    | inr lacks ↦ inr (inr (lacks.0, lacks.1, reason_row-nonzero reason, refl))
  ],
)

-- The reason for a password that doesn't match is WrongPassword or Dead.
pub IsMiss-cases : (field : List ℕ) (kept : SettingValue) (mismatch_reason : Reason) → IsMiss field kept mismatch_reason → (mismatch_reason ≡ WrongPassword) ⊎ (mismatch_reason ≡ Dead)
IsMiss-cases field kept mismatch_reason (inl (wrong, whole)) = inl wrong
IsMiss-cases field kept mismatch_reason (inr (dead, cut)) = inr dead

-- A login that compares reports what mkpasswd_verify does, except that Dead may replace WrongPassword.
Agrees-compared : (scheme : Scheme) (equal : Bool) (outdated : ℕ) (mismatch_reason : Reason) (hash_cost : ℕ) (counts : Work) (report : Report) → (mismatch_reason ≡ WrongPassword) ⊎ (mismatch_reason ≡ Dead)
    → report ≡ (if equal then found outdated hash_cost counts else failed mismatch_reason hash_cost counts)
    → Agrees scheme report (if equal then found 0 hash_cost counts else failed WrongPassword hash_cost counts)
Agrees-compared scheme false outdated mismatch_reason hash_cost counts report (inl wrong) e = rw (e, wrong) (refl, inl refl)
Agrees-compared scheme false outdated mismatch_reason hash_cost counts report (inr dead) e = rw (e, dead) (refl, inr (inl (refl, refl)))
Agrees-compared scheme true outdated mismatch_reason hash_cost counts report miss e = rw e (refl, inl refl)

-- For a field that spells a setting, the report of a login agrees with one that mkpasswd_verify can have.
Agrees-checked : (over equal : Bool) (outdated : ℕ) (password field : List ℕ) (budget hash_cost : ℕ) (scheme : Scheme) (kept : SettingValue) (report : Report)
    → MatchBool over (Declines password (dummy scheme) budget (refused OverBudget hash_cost) report)
    ((mismatch_reason : Reason) × IsMiss field kept mismatch_reason
    × ((report ≡ (if equal then found outdated hash_cost (work password kept) else failed mismatch_reason hash_cost (work password kept)))
    ⊎ LacksMemory kept hash_cost report))
    → (verified : Report) × MatchBool over (verified ≡ refused OverBudget hash_cost)
    ((verified ≡ (if equal then found 0 hash_cost (work password kept) else failed WrongPassword hash_cost (work password kept))) ⊎ LacksMemory kept hash_cost verified)
    × Agrees scheme report verified
Agrees-checked true equal outdated password field budget hash_cost scheme kept report declines =
    (refused OverBudget hash_cost, refl, Agrees_from_Declines password scheme budget OverBudget hash_cost report declines)
Agrees-checked false equal outdated password field budget hash_cost scheme kept report (mismatch_reason, miss, inl reported) = (
  (if equal then found 0 hash_cost (work password kept) else failed WrongPassword hash_cost (work password kept)),
  inl refl,
  Agrees-compared scheme equal outdated mismatch_reason hash_cost (work password kept) report (IsMiss-cases field kept mismatch_reason miss) reported,
)
Agrees-checked false equal outdated password field budget hash_cost scheme kept report (mismatch_reason, miss, inr lacks) = (report, inr lacks, (refl, inl refl))

-- For a valid method and rounds, the report of a login agrees with one that mkpasswd_verify can have.
pub Agrees_from_LogsIn : (password field : List ℕ) (number rounds budget : ℕ) (scheme : Scheme) (report : Report)
    → IsSchemeMade TakesNewRounds number rounds scheme → LogsIn password field number rounds budget report
    → (verified : Report) × Verifies password field budget verified × Agrees scheme report verified
Agrees_from_LogsIn password field number rounds budget scheme report makes (inr (fault, is, e)) =
    (refused (password_reason fault) 0, inr (fault, is, refl), rw e (refl, inl refl))
Agrees_from_LogsIn password field number rounds budget scheme report makes (inl (is, inr (inl (none, e)))) = absurd (cc (none, makes.1))
Agrees_from_LogsIn password field number rounds budget scheme report makes (inl (is, inr (inr (method, named, never, e)))) =
    IsSchemeMade-not_refused number rounds scheme _ makes method named never
Agrees_from_LogsIn password field number rounds budget scheme report makes (inl (is, inl (other, also, inr (fault, broken, declines)))) =
    let same : other ≡ scheme = IsSchemeMade-unique TakesNewRounds TakesNewRounds number rounds other scheme also makes in
    (refused fault 0, inl (is, inr (fault, broken, refl)), Agrees_from_Declines password scheme budget fault 0 report (rw same at declines))
Agrees_from_LogsIn password field number rounds budget scheme report makes (inl (is, inl (other, also, inl (kept, spells, checked)))) =
    let same : other ≡ scheme = IsSchemeMade-unique TakesNewRounds TakesNewRounds number rounds other scheme also makes in
    let hash_cost = cost kept (length password) in
    let agree = Agrees-checked (nat_lt budget hash_cost) (bytes_eq (crypt password kept) field) (if is_outdated_by kept.scheme scheme then 1 else 0)
    password field budget hash_cost scheme kept report (rw same at checked) in
    (agree.0, inl (is, inl (kept, spells, agree.1)), agree.2)

-- ---- Fields that a login can't check

-- A field that spells no setting within the budget can't be checked.
pub IsUncheckable-none_within : (password field : List ℕ) (budget : ℕ)
    → ((kept : SettingValue) → Spells field kept → cost kept (length password) ≤ budget → ⊥) → IsUncheckable password field budget
IsUncheckable-none_within password field budget never = λ kept spells. go kept spells (nat_lt budget (cost kept (length password))) refl where
  go : (kept : SettingValue) → Spells field kept → (above : Bool) → nat_lt budget (cost kept (length password)) ≡ above
      → budget < cost kept (length password)
  go kept spells true e = grind (arith, e)
  go kept spells false e = absurd (never kept spells (grind (arith, e)))

-- ---- The work of a login

-- The cost of a hash's work (`spent`) is at most the cost that is computed before hashing (`cost_by`).
spent-work : (scheme : Scheme) (password salt : List ℕ)
    → spent scheme (work password (record { scheme = scheme; salt = salt })) ≤ cost_by scheme (length password) (length salt)
spent-work Md5crypt password salt = work_bytes-le-cost password (record { scheme = Md5crypt; salt = salt })
spent-work (Shacrypt sha rounds) password salt = work_bytes-le-cost password (record { scheme = Shacrypt sha rounds; salt = salt })
spent-work (Scrypt params) password salt = omega arith

spent-no_work : (scheme : Scheme) → spent scheme no_work ≡ 0
spent-no_work Md5crypt = refl
spent-no_work (Shacrypt sha rounds) = refl
spent-no_work (Scrypt params) = omega arith

-- Allocations before one that failed cost nothing, since `spent` counts only bytes digested and mixed. The three cases
-- for scrypt say which of its three allocations failed.
spent-failed_allocation : (scheme : Scheme) (done : Work) → IsAfterFailedAllocation no_work scheme done → spent scheme done ≡ 0
spent-failed_allocation (Scrypt params) done (inl e) = rw e (spent-no_work (Scrypt params))
spent-failed_allocation (Scrypt params) done (inr (inl e)) = rw e (spent-no_work (Scrypt params))
spent-failed_allocation (Scrypt params) done (inr (inr e)) = rw e (spent-no_work (Scrypt params))
spent-failed_allocation Md5crypt done never = absurd never
spent-failed_allocation (Shacrypt sha rounds) done never = absurd never

-- The work that `IsHashWork` allows under a budget costs at most the budget. If the hash can cost more, there is no
-- work.
spent-le-budget : (password : List ℕ) (kept : SettingValue) (budget : ℕ) (done : Work) → IsHashWork password kept budget done
    → spent kept.scheme done ≤ budget
spent-le-budget password kept budget done hashed = go (nat_lt budget (cost kept (length password))) refl hashed where
  go : (above : Bool) → nat_lt budget (cost kept (length password)) ≡ above
      → MatchBool above (done ≡ no_work) ((done ≡ work password kept) ⊎ IsAfterFailedAllocation no_work kept.scheme done)
      → spent kept.scheme done ≤ budget
  go true e none = rw (none, spent-no_work kept.scheme) (omega arith)
  go false e (inl is) =
      let low : cost kept (length password) ≤ budget = grind (arith, e) in
      rw is (omega (arith, spent-work kept.scheme password kept.salt, low))
  go false e (inr refused) = rw (spent-failed_allocation kept.scheme done refused) (omega arith)

-- The report of a comparison has the work of the hash, whether the hashes are equal or not.
work-compared : (equal : Bool) (outdated hash_cost : ℕ) (mismatch_reason : Reason) (counts : Work)
    → (if equal then found outdated hash_cost counts else failed mismatch_reason hash_cost counts).work ≡ counts
work-compared true outdated hash_cost mismatch_reason counts = refl
work-compared false outdated hash_cost mismatch_reason counts = refl

-- For a field that spells a setting, the work of a login is that of the dummy hash or of a hash with that setting.
IsHashWork-checked : (above : Bool) (password field : List ℕ) (budget : ℕ) (scheme : Scheme) (kept : SettingValue) (outdated : ℕ) (report : Report)
    → nat_lt budget (cost kept (length password)) ≡ above
    → MatchBool above (Declines password (dummy scheme) budget (refused OverBudget (cost kept (length password))) report)
    ((mismatch_reason : Reason) × IsMiss field kept mismatch_reason × Compares password kept field outdated mismatch_reason report)
    → IsHashWork password (dummy scheme) budget report.work ⊎ IsHashWork password kept budget report.work
IsHashWork-checked true password field budget scheme kept outdated report e declines =
    inl (work-Declines password (dummy scheme) budget _ report refl declines)
IsHashWork-checked false password field budget scheme kept outdated report e (mismatch_reason, miss, inl reported) =
    inr (rw e (inl (ap (λ (r : Report). r.work) reported
    ∙ work-compared (bytes_eq (crypt password kept) field) outdated (cost kept (length password)) mismatch_reason (work password kept))))
IsHashWork-checked false password field budget scheme kept outdated report e (mismatch_reason, miss, inr (done, lacks, reported)) =
    let same : report.work ≡ done = ap (λ (r : Report). r.work) reported in
    inr (rw e (inr (subst (λ (w : Work). IsAfterFailedAllocation no_work kept.scheme w) (sym same) lacks)))

-- The work of a login is none, or that of one hash that costs at most the budget (`IsLoginWork`).
pub IsLoginWork_from_LogsIn : (password field : List ℕ) (number rounds budget : ℕ) (report : Report) → LogsIn password field number rounds budget report
    → IsLoginWork password field number rounds budget report.work
IsLoginWork_from_LogsIn password field number rounds budget report (inr (fault, is, e)) = inl (ap (λ (r : Report). r.work) e)
IsLoginWork_from_LogsIn password field number rounds budget report (inl (is, inr (inl (none, e)))) = inl (ap (λ (r : Report). r.work) e)
IsLoginWork_from_LogsIn password field number rounds budget report (inl (is, inr (inr (method, named, never, e)))) = inl (ap (λ (r : Report). r.work) e)
IsLoginWork_from_LogsIn password field number rounds budget report (inl (is, inl (scheme, makes, inr (fault, broken, declines)))) =
    let done = work-Declines password (dummy scheme) budget _ report refl declines in
    inr (dummy scheme, inr (scheme, makes, refl), done, spent-le-budget password (dummy scheme) budget _ done)
IsLoginWork_from_LogsIn password field number rounds budget report (inl (is, inl (scheme, makes, inl (kept, spells, checked)))) =
    elim (IsHashWork-checked (nat_lt budget (cost kept (length password))) password field budget scheme kept
    (if is_outdated_by kept.scheme scheme then 1 else 0) report refl checked) [
      | inl new ↦ inr (dummy scheme, inr (scheme, makes, refl), new, spent-le-budget password (dummy scheme) budget _ new)
      | inr old ↦ inr (kept, inl spells, old, spent-le-budget password kept budget _ old)
    ]

-- If the other arguments are valid, a login that can't check the stored hash refuses it, and makes the dummy hash if
-- the budget allows that.
pub Declines_from_LogsIn : (password field : List ℕ) (number rounds budget : ℕ) (scheme : Scheme) (report : Report)
    → IsSchemeMade TakesNewRounds number rounds scheme → IsPassword password → IsUncheckable password field budget
    → LogsIn password field number rounds budget report
    → (refusal : Report) × (refusal.work ≡ no_work) × Declines password (dummy scheme) budget refusal report
Declines_from_LogsIn password field number rounds budget scheme report makes is never (inr (TooLong, broken, e)) = absurd (omega (arith, is.0, broken))
Declines_from_LogsIn password field number rounds budget scheme report makes is never (inr (HasNul, broken, e)) = absurd (is.1 broken.1)
Declines_from_LogsIn password field number rounds budget scheme report makes is never (inl (also, inr (inl (none, e)))) = absurd (cc (none, makes.1))
Declines_from_LogsIn password field number rounds budget scheme report makes is never (inl (also, inr (inr (method, named, not, e)))) =
    IsSchemeMade-not_refused number rounds scheme _ makes method named not
Declines_from_LogsIn password field number rounds budget scheme report makes is never (inl (also, inl (other, made, inr (fault, broken, declines)))) =
    let same : other ≡ scheme = IsSchemeMade-unique TakesNewRounds TakesNewRounds number rounds other scheme made makes in
    (refused fault 0, refl, rw same at declines)
Declines_from_LogsIn password field number rounds budget scheme report makes is never (inl (also, inl (other, made, inl (kept, spells, checked)))) =
    let same : other ≡ scheme = IsSchemeMade-unique TakesNewRounds TakesNewRounds number rounds other scheme made makes in
    let above : nat_lt budget (cost kept (length password)) ≡ true = grind (arith, never kept spells) in
    let declines = rw above at checked in
    (refused OverBudget (cost kept (length password)), refl, rw same at declines)

-- If the other arguments are valid, the work of a login that can't check the stored hash is that of the dummy hash, or
-- none if the dummy hash can cost more than the budget (`IsHashWork`).
pub dummy_work-IsUncheckable : (password field : List ℕ) (number rounds budget : ℕ) (scheme : Scheme) (report : Report)
    → IsSchemeMade TakesNewRounds number rounds scheme → IsPassword password → IsUncheckable password field budget
    → LogsIn password field number rounds budget report → IsHashWork password (dummy scheme) budget report.work
dummy_work-IsUncheckable password field number rounds budget scheme report makes is never logged =
    let declined = Declines_from_LogsIn password field number rounds budget scheme report makes is never logged in
    work-Declines password (dummy scheme) budget declined.0 report declined.1 declined.2

-- If the other arguments are valid and the budget admits the dummy hash, a login that can't check the stored hash does
-- all the work of the dummy hash, or the error is OutOfMemory.
pub dummy_work-or_no_memory : (password field : List ℕ) (number rounds budget : ℕ) (scheme : Scheme) (report : Report)
    → IsSchemeMade TakesNewRounds number rounds scheme → IsPassword password → IsUncheckable password field budget
    → LogsIn password field number rounds budget report → cost (dummy scheme) (length password) ≤ budget
    → (report.work ≡ work password (dummy scheme)) ⊎ (report.error ≡ (reason_row OutOfMemory).0)
dummy_work-or_no_memory password field number rounds budget scheme report makes is never logged low =
    let declined = Declines_from_LogsIn password field number rounds budget scheme report makes is never logged in
    let within : nat_lt budget (cost (dummy scheme) (length password)) ≡ false = grind (arith, low) in
    elim (rw within at declined.2) [
      | inl e ↦ inl (ap (λ (r : Report). r.work) e)
      | inr refused ↦ inr (ap (λ (r : Report). r.error) refused.2)
    ]

-- An invalid password is refused with the same report for every field.
pub report-password_refused : (password field : List ℕ) (number rounds budget : ℕ) (fault : PasswordFault) (report : Report)
    → IsPasswordRefused password fault → LogsIn password field number rounds budget report → report ≡ refused (password_reason fault) 0
report-password_refused password field number rounds budget TooLong report broken (inl (is, rest)) = absurd (omega (arith, is.0, broken))
report-password_refused password field number rounds budget HasNul report broken (inl (is, rest)) = absurd (is.1 broken.1)
report-password_refused password field number rounds budget TooLong report broken (inr (TooLong, also, e)) = e
report-password_refused password field number rounds budget HasNul report broken (inr (HasNul, also, e)) = e
report-password_refused password field number rounds budget TooLong report broken (inr (HasNul, also, e)) = absurd (omega (arith, also.0, broken))
report-password_refused password field number rounds budget HasNul report broken (inr (TooLong, also, e)) = absurd (omega (arith, broken.0, also))

-- If the password is valid, a method or rounds that no new hash can have are refused with the same report for every
-- field.
pub report-rounds_refused : (password field : List ℕ) (number rounds budget : ℕ) (reason : Reason) (report : Report) → IsPassword password
    → IsSchemeReading TakesNewRounds number rounds (Err reason) → LogsIn password field number rounds budget report → report ≡ refused reason 0
report-rounds_refused password field number rounds budget reason report is reading (inr (TooLong, broken, e)) = absurd (omega (arith, is.0, broken))
report-rounds_refused password field number rounds budget reason report is reading (inr (HasNul, broken, e)) = absurd (is.1 broken.1)
report-rounds_refused password field number rounds budget reason report is (inl (kind, none)) (inl (also, inr (inl (nobody, e)))) = rw kind e
report-rounds_refused password field number rounds budget reason report is (inr (kind, rest)) (inl (also, inr (inr (method, named, never, e)))) = rw kind e
report-rounds_refused password field number rounds budget reason report is (inl (kind, none)) (inl (also, inr (inr (method, named, never, e)))) =
    absurd (cc (none, named))
report-rounds_refused password field number rounds budget reason report is (inr (kind, (method, named, never))) (inl (also, inr (inl (none, e)))) =
    absurd (cc (none, named))
report-rounds_refused password field number rounds budget reason report is (inl (kind, none)) (inl (also, inl (scheme, makes, rest))) =
    absurd (cc (none, makes.1))
report-rounds_refused password field number rounds budget reason report is (inr (kind, (method, named, never))) (inl (also, inl (scheme, makes, rest))) =
    IsSchemeMade-not_refused number rounds scheme _ makes method named never

-- ---- Only a dead hash is reported as Dead

-- A report with the number of another reason does not have the number of Dead.
error-not_Dead : (reason : Reason) (report : Report) → reason ≢ Dead → report.error ≡ (reason_row reason).0 → report.error ≡ (reason_row Dead).0 → ⊥
error-not_Dead reason report other is reported = other (reason_row-unique reason Dead (sym is ∙ reported))

-- A login that makes the dummy hash does not report Dead, unless that was the refusal.
Declines-not_Dead : (password : List ℕ) (kept : SettingValue) (budget : ℕ) (reason : Reason) (hash_cost : ℕ) (report : Report) → reason ≢ Dead
    → Declines password kept budget (refused reason hash_cost) report → report.error ≡ (reason_row Dead).0 → ⊥
Declines-not_Dead password kept budget reason hash_cost report other declines reported =
    elim (error-Declines password kept budget (refused reason hash_cost) report declines) [
      | inl same ↦ error-not_Dead reason report other same reported
      | inr lacks ↦ error-not_Dead OutOfMemory report (λ same. absurd (cc same)) lacks.0 reported
    ]

-- If the report of a comparison is Dead, the stored hash is not whole.
IsDead-compared : (equal : Bool) (outdated : ℕ) (field : List ℕ) (kept : SettingValue) (mismatch_reason : Reason) (hash_cost : ℕ) (counts : Work) (report : Report)
    → Spells field kept → IsMiss field kept mismatch_reason
    → report ≡ (if equal then found outdated hash_cost counts else failed mismatch_reason hash_cost counts)
    → report.error ≡ (reason_row Dead).0 → IsDead field
IsDead-compared true outdated field kept mismatch_reason hash_cost counts report spells miss e reported =
    absurd (reason_row-nonzero Dead (sym reported ∙ ap (λ (r : Report). r.error) e))
IsDead-compared false outdated field kept mismatch_reason hash_cost counts report spells (inl (wrong, whole)) e reported =
    absurd (error-not_Dead WrongPassword report (λ same. absurd (cc same)) (rw wrong at (ap (λ (r : Report). r.error) e)) reported)
IsDead-compared false outdated field kept mismatch_reason hash_cost counts report spells (inr (dead, cut)) e reported = (kept, spells, cut)

-- If a login with a field that spells a setting reports Dead, the stored hash is dead.
IsDead-checked : (above equal : Bool) (outdated : ℕ) (password field : List ℕ) (budget : ℕ) (scheme : Scheme) (kept : SettingValue) (report : Report)
    → Spells field kept
    → MatchBool above (Declines password (dummy scheme) budget (refused OverBudget (cost kept (length password))) report)
    ((mismatch_reason : Reason) × IsMiss field kept mismatch_reason
    × ((report ≡ (if equal then found outdated (cost kept (length password)) (work password kept) else failed mismatch_reason (cost kept (length password)) (work password kept)))
    ⊎ LacksMemory kept (cost kept (length password)) report))
    → report.error ≡ (reason_row Dead).0 → IsDead field
IsDead-checked true equal outdated password field budget scheme kept report spells declines reported =
    absurd (Declines-not_Dead password (dummy scheme) budget OverBudget _ report (λ same. absurd (cc same)) declines reported)
IsDead-checked false equal outdated password field budget scheme kept report spells (mismatch_reason, miss, inl e) reported =
    IsDead-compared equal outdated field kept mismatch_reason _ _ report spells miss e reported
IsDead-checked false equal outdated password field budget scheme kept report spells (mismatch_reason, miss, inr (done, lacks, e)) reported =
    absurd (error-not_Dead OutOfMemory report (λ same. absurd (cc same)) (ap (λ (r : Report). r.error) e) reported)

-- Dead is not a reason to refuse a password, a setting or a field.
password_reason-not_Dead : (fault : PasswordFault) → password_reason fault ≢ Dead
password_reason-not_Dead TooLong = λ same. absurd (cc same)
password_reason-not_Dead HasNul = λ same. absurd (cc same)

-- No error of a setting is reported as Dead.
pub setting_reason-not_Dead : (fault : SettingFault) → setting_reason fault ≢ Dead
setting_reason-not_Dead settings.TooLong = λ same. absurd (cc same)
setting_reason-not_Dead settings.BadCharacter = λ same. absurd (cc same)
setting_reason-not_Dead settings.UnknownScheme = λ same. absurd (cc same)
setting_reason-not_Dead settings.BadRounds = λ same. absurd (cc same)
setting_reason-not_Dead settings.BadCost = λ same. absurd (cc same)
setting_reason-not_Dead settings.ScryptRange = λ same. absurd (cc same)
setting_reason-not_Dead settings.AboveCeiling = λ same. absurd (cc same)
setting_reason-not_Dead settings.BadSalt = λ same. absurd (cc same)

-- A field is never refused as Dead, whether it is empty, locked or no setting.
IsFieldRefusal-not_Dead : (field : List ℕ) (reason : Reason) → IsFieldRefusal field reason → reason ≢ Dead
IsFieldRefusal-not_Dead field reason (inl (is, empty)) = λ same. absurd (cc (is, same))
IsFieldRefusal-not_Dead field reason (inr (inl (is, locked))) = λ same. absurd (cc (is, same))
IsFieldRefusal-not_Dead field reason (inr (inr (fault, stored, broken, is))) = λ same. setting_reason-not_Dead fault (sym is ∙ same)

-- If a login reports Dead, the stored hash is dead.
pub IsDead_from_LogsIn : (password field : List ℕ) (number rounds budget : ℕ) (report : Report) → LogsIn password field number rounds budget report
    → report.error ≡ (reason_row Dead).0 → IsDead field
IsDead_from_LogsIn password field number rounds budget report (inr (fault, is, e)) reported =
    absurd (error-not_Dead (password_reason fault) report (password_reason-not_Dead fault) (ap (λ (r : Report). r.error) e) reported)
IsDead_from_LogsIn password field number rounds budget report (inl (is, inr (inl (none, e)))) reported =
    absurd (error-not_Dead UnknownMethod report (λ same. absurd (cc same)) (ap (λ (r : Report). r.error) e) reported)
IsDead_from_LogsIn password field number rounds budget report (inl (is, inr (inr (method, named, never, e)))) reported =
    absurd (error-not_Dead Rounds report (λ same. absurd (cc same)) (ap (λ (r : Report). r.error) e) reported)
IsDead_from_LogsIn password field number rounds budget report (inl (is, inl (scheme, makes, inr (reason, broken, declines)))) reported =
    absurd (Declines-not_Dead password (dummy scheme) budget reason 0 report (IsFieldRefusal-not_Dead field reason broken) declines reported)
IsDead_from_LogsIn password field number rounds budget report (inl (is, inl (scheme, makes, inl (kept, spells, checked)))) reported =
    IsDead-checked (nat_lt budget (cost kept (length password))) (bytes_eq (crypt password kept) field) (if is_outdated_by kept.scheme scheme then 1 else 0)
    password field budget scheme kept report spells checked reported
