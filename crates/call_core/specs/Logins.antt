-- A login, which checks a password against a stored hash, or makes a dummy hash if it can't check the stored one.
--
-- A password is the list of its bytes, `kept` is the setting that a text spells, and `hash_cost` is the cost of a hash:
-- the most bytes that it digests and mixes.
use Rattle.std.specs.Prelude.{◌≡◌, ◌≢◌, ◌⊎◌, ◌↔◌, ◌<◌, ◌≤◌, ◌+◌, ◌*◌, if◌then◌else◌, ℕ, ℤ, pos, nat_lt, true, MatchBool, List, [], ◌∷◌, length, Err}
use Rattle.prims_core.specs.Work.{no_work}
use Rattle.prims_core.specs.declared.meter.Work.{Work}
use Rattle.crypt_core.specs.Crypt.{IsAfterFailedAllocation, allocates}
use Rattle.crypt_core.specs.MadeSettings.{salted}
use Rattle.crypt_core.specs.Passwords.{IsPassword, IsPasswordRefused}
use Rattle.crypt_core.specs.OutdatedSchemes.{is_outdated_by}
use Rattle.crypt_core.specs.Settings.{SettingValue, Spells}
use Rattle.crypt_core.specs.StoredFields.{IsWhole}
use Rattle.crypt_core.specs.Work.{cost, work}
use Rattle.crypt_core.specs.declared.password.PasswordFault.{PasswordFault}
use Rattle.crypt_core.specs.declared.scheme.Scheme.{Scheme}
use Rattle.crypt_core.specs.declared.scheme.Scheme.TheVariants.{Scrypt}
use Rattle.call_core.specs.Arguments.{IsSchemeMade, IsSchemeReading, OnField, OnPassword, OnScheme, Refuses, TakesNewRounds}
use Rattle.call_core.specs.Checks.{Compares, IsDead, Verifies}
use Rattle.call_core.specs.Limits.{default_budget, limit_of, new_cost, policy_limit}
use Rattle.call_core.specs.Reasons.{password_reason, reason_row}
use Rattle.call_core.specs.Rehashes.{IsOutdated}
use Rattle.call_core.specs.Reports.{failed, refused}
use Rattle.call_core.specs.declared.reason.Reason.{Reason}
use Rattle.call_core.specs.declared.reason.Reason.TheVariants.{Dead, OutOfMemory, OverBudget, WrongPassword}
use Rattle.call_core.specs.declared.report.Report.{Report}

-- dummy scheme: the setting of the dummy hash, which a login makes and drops if it can't check the stored one. It is
-- the setting of a new hash, with a fixed salt.
abbrev pub dummy : Scheme → SettingValue
dummy scheme = salted scheme (0 ∷ 0 ∷ 0 ∷ [])

-- IsHashWork password kept budget done: the work of a hash with this setting, or of scrypt's allocations before one
-- failed. There is no work if the hash can cost more than the budget.
abbrev pub IsHashWork : List ℕ → SettingValue → ℕ → Work → Type 0
IsHashWork password kept budget done =
    MatchBool (nat_lt budget (cost kept (length password)))
    (done ≡ no_work)
    ((done ≡ work password kept) ⊎ IsAfterFailedAllocation no_work kept.scheme done)

-- Declines password kept budget refusal report: the report of a login that can't check the stored hash, and instead
-- makes and drops a hash with this setting. The report is the refusal with the work of that hash. If scrypt lacked
-- memory for the hash, the error is OutOfMemory, and the work is that of the allocations before the one that failed. If
-- the hash can cost more than the budget, the report is the refusal without work.
abbrev pub Declines : List ℕ → SettingValue → ℕ → Report → Report → Type 0
Declines password kept budget refusal report =
    MatchBool (nat_lt budget (cost kept (length password)))
    (report ≡ refusal)
    ((report ≡ record refusal { work = work password kept })
    ⊎ ((done : Work) × IsAfterFailedAllocation no_work kept.scheme done
    × (report ≡ record refusal { error = (reason_row OutOfMemory).0; work = done })))

-- IsMiss field kept reason: the reason to report if a password doesn't match the stored hash: Dead if the hash is not
-- whole, so that no password matches it, and otherwise WrongPassword.
abbrev pub IsMiss : List ℕ → SettingValue → Reason → Type 0
IsMiss field kept reason = ((reason ≡ WrongPassword) × IsWhole field kept) ⊎ ((reason ≡ Dead) × ¬ IsWhole field kept)

-- LogsIn password field number rounds budget report: the report of mkpasswd_login and web_login.
--   a refused password, method or rounds  the reason, without work
--   a stored hash that can't be checked   the report of mkpasswd_verify, with the work of the dummy hash if the budget
--                                         allows it, or OutOfMemory if scrypt lacked memory for the dummy hash
--   otherwise                             the report of mkpasswd_verify; after a match it says whether the scheme
--                                         replaces the setting. Dead replaces WrongPassword if the hash is not whole
abbrev pub LogsIn : List ℕ → List ℕ → ℕ → ℕ → ℕ → Report → Type 0
LogsIn password field number rounds budget report =
    OnPassword password (Refuses report) (OnScheme TakesNewRounds number rounds (Refuses report) (λ scheme.
    OnField field (λ reason. Declines password (dummy scheme) budget (refused reason 0) report) (λ kept.
    let hash_cost = cost kept (length password) in
    MatchBool (nat_lt budget hash_cost)
    (Declines password (dummy scheme) budget (refused OverBudget hash_cost) report)
    ((mismatch_reason : Reason) × IsMiss field kept mismatch_reason
    × Compares password kept field (if is_outdated_by kept.scheme scheme then 1 else 0) mismatch_reason report))))

-- spent scheme done: the cost of the work of a hash with this scheme, in bytes: those that it digested and, for scrypt,
-- those that it mixed, 2r blocks of 64 bytes in each mixing.
abbrev pub spent : Scheme → Work → ℕ
spent (Scrypt params) done = done.bytes + done.mixes * (128 * params.r)
spent scheme done = done.bytes

-- IsLoginWork password field number rounds budget done: the work of a login: none, or that of one hash, with the stored
-- setting or with that of the dummy hash. It costs at most the budget.
abbrev pub IsLoginWork : List ℕ → List ℕ → ℕ → ℕ → ℕ → Work → Type 0
IsLoginWork password field number rounds budget done =
    (done ≡ no_work) ⊎ ((kept : SettingValue)
    × (Spells field kept ⊎ ((scheme : Scheme) × IsSchemeMade TakesNewRounds number rounds scheme × (kept ≡ dummy scheme)))
    × IsHashWork password kept budget done × (spent kept.scheme done ≤ budget))

-- IsUncheckable password field budget: a login can't check the stored hash: the field spells no setting, or one whose
-- hash costs more than the budget.
abbrev pub IsUncheckable : List ℕ → List ℕ → ℕ → Type 0
IsUncheckable password field budget = (kept : SettingValue) → Spells field kept → budget < cost kept (length password)

-- Agrees scheme report verified: the report of a login agrees with that of mkpasswd_verify, for a policy whose new
-- hashes have this scheme. The cost is the same. The error is the same too, except that Dead may replace WrongPassword
-- and, if the dummy hash needs memory, OutOfMemory may replace a refusal without work.
abbrev pub Agrees : Scheme → Report → Report → Type 0
Agrees scheme report verified =
    (report.cost ≡ verified.cost)
    × ((report.error ≡ verified.error)
    ⊎ (((report.error ≡ (reason_row Dead).0) × (verified.error ≡ (reason_row WrongPassword).0))
    ⊎ ((report.error ≡ (reason_row OutOfMemory).0) × (allocates scheme ≡ true) × (verified.error ≢ 0) × (verified.work ≡ no_work))))

-- ReportsDead password field number rounds budget report: if the method, the rounds and the password are valid, and the
-- stored hash is dead and within the budget, the report is Dead with the cost and the work of the check; or scrypt
-- lacked memory.
abbrev pub ReportsDead : List ℕ → List ℕ → ℕ → ℕ → ℕ → Report → Type 0
ReportsDead password field number rounds budget report =
    (scheme : Scheme) → (kept : SettingValue) → IsSchemeMade TakesNewRounds number rounds scheme → IsPassword password
    → Spells field kept → ¬ IsWhole field kept → cost kept (length password) ≤ budget
    → (report ≡ failed Dead (cost kept (length password)) (work password kept))
    ⊎ ((report.error ≡ (reason_row OutOfMemory).0) × (allocates kept.scheme ≡ true))

-- JudgesStoredHash password field number rounds budget result report: how a login judges the stored hash, both for C
-- and for web pages.
--   shut       a dead hash lets nobody in
--   dead       if the arguments are valid, and the stored hash is dead and within the budget, the report is Dead,
--              unless scrypt lacked memory
--   only_dead  the report is Dead only if the stored hash is dead
--   outdated   `outdated` is 1 exactly if the password is let in and a new hash would replace the stored one
--   as_verify  if the method and the rounds are valid, the report agrees with that of mkpasswd_verify with this budget
pub record JudgesStoredHash (password field : List ℕ) (number rounds budget : ℕ) (result : ℤ) (report : Report) : Type 0 where
  pub shut : IsDead field → result ≡ pos 0
  pub dead : ReportsDead password field number rounds budget report
  pub only_dead : report.error ≡ (reason_row Dead).0 → IsDead field
  pub outdated : report.outdated ≡ 1 ↔ (result ≡ pos 1) × IsOutdated field number rounds
  pub as_verify : (scheme : Scheme) → IsSchemeMade TakesNewRounds number rounds scheme
      → (verified : Report) × Verifies password field budget verified × Agrees scheme report verified

-- TreatsFieldsAlike password field number rounds budget result report: what a login does alike for all fields, or for
-- all that it can't check, both for C and for web pages. Its limit is `limit_of`. The clauses on the dummy hash
-- (`dummy`) are for a valid password, method and rounds. A dummy hash of scrypt can end at an allocation that fails.
--   one_hash      the work is that of at most one hash, within the limit
--   dummy_lacks   for a field that can't be checked, the dummy hash is made if the limit admits it, or the error is
--                 OutOfMemory
--   dummy_made    under a policy's limit that admits a new hash, the dummy hash is made for each field that can't be
--                 checked
--   dummy         for a field that can't be checked, the work is that of the dummy hash if the limit admits it, and
--                 otherwise none
--   alike         an invalid password is refused with the same report for each field
--   alike_rounds  with a valid password, a method or rounds that no new hash can have are refused with the same report
--                 for each field
--   alike_long    under a policy's limit, a password whose new hash is above it lets nobody in, whatever the field, and
--                 is not hashed
pub record TreatsFieldsAlike (password field : List ℕ) (number rounds budget : ℕ) (result : ℤ) (report : Report) : Type 0 where
  pub one_hash : IsLoginWork password field number rounds (limit_of number rounds budget (length password)) report.work
  pub dummy_lacks : (scheme : Scheme) → IsSchemeMade TakesNewRounds number rounds scheme → IsPassword password
      → IsUncheckable password field (limit_of number rounds budget (length password))
      → cost (dummy scheme) (length password) ≤ limit_of number rounds budget (length password)
      → (report.work ≡ work password (dummy scheme)) ⊎ (report.error ≡ (reason_row OutOfMemory).0)
  pub dummy_made : (scheme : Scheme) → IsSchemeMade TakesNewRounds number rounds scheme → budget ≡ default_budget → IsPassword password
      → new_cost scheme (length password) ≤ policy_limit scheme → IsUncheckable password field (policy_limit scheme)
      → (report.work ≡ work password (dummy scheme)) ⊎ IsAfterFailedAllocation no_work scheme report.work
  pub dummy : (scheme : Scheme) → IsSchemeMade TakesNewRounds number rounds scheme → IsPassword password
      → IsUncheckable password field (limit_of number rounds budget (length password))
      → IsHashWork password (dummy scheme) (limit_of number rounds budget (length password)) report.work
  pub alike : (fault : PasswordFault) → IsPasswordRefused password fault → report ≡ refused (password_reason fault) 0
  pub alike_rounds : (reason : Reason) → IsPassword password → IsSchemeReading TakesNewRounds number rounds (Err reason)
      → report ≡ refused reason 0
  pub alike_long : (scheme : Scheme) → IsSchemeMade TakesNewRounds number rounds scheme → budget ≡ default_budget
      → policy_limit scheme < new_cost scheme (length password) → (result ≡ pos 0) × (report.work ≡ no_work)
