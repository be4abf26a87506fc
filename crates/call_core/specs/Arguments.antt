-- The arguments of a call: what holds if an argument is valid, and what holds if it is refused.
--
-- A password is the list of its bytes, `kept` is the setting that a text spells, and `number` is that of a method.
use Rattle.std.specs.Prelude.{◌≡◌, ◌⊎◌, ◌<◌, ◌≤◌, ◌==◌, if◌then◌else◌, ℕ, List, [], Option, Some, None, Result, Ok, Err}
use Rattle.crypt_core.specs.MadeSettings.{BreaksMake, TakesRounds, made_scheme, make_faults}
use Rattle.crypt_core.specs.Methods.{method_numbered}
use Rattle.crypt_core.specs.Policies.{chosen_rounds}
use Rattle.crypt_core.specs.Passwords.{IsPassword, IsPasswordRefused, password_limit}
use Rattle.crypt_core.specs.Refusals.{IsRefused}
use Rattle.crypt_core.specs.Rounds.{clamped}
use Rattle.crypt_core.specs.Rules.{IsFirstBroken}
use Rattle.crypt_core.specs.Settings.{SettingValue, Spells}
use Rattle.crypt_core.specs.StoredFields.{IsLocked, IsStored}
use Rattle.crypt_core.specs.declared.method.Method.{Method}
use Rattle.crypt_core.specs.declared.method.Method.TheVariants as methods
use Rattle.crypt_core.specs.declared.password.PasswordFault.{PasswordFault}
use Rattle.crypt_core.specs.declared.scheme.Scheme.{Scheme}
use Rattle.crypt_core.specs.declared.setting.fault.MakeFault.{MakeFault}
use Rattle.crypt_core.specs.declared.setting.fault.MakeFault.TheVariants as making
use Rattle.crypt_core.specs.declared.setting.fault.SettingFault.{SettingFault}
use Rattle.call_core.specs.Reasons.{make_reason, password_reason, setting_reason}
use Rattle.call_core.specs.Reports.{refused}
use Rattle.call_core.specs.declared.reason.Reason.{Reason}
use Rattle.call_core.specs.declared.reason.Reason.TheVariants.{PasswordTooLong, UnknownMethod, Rounds, Locked, NoHash}
use Rattle.call_core.specs.declared.report.Report.{Report}

-- OnPassword bytes Refuses Then: the bytes are a password and `Then` holds; or they break a rule of passwords, and
-- `Refuses` holds of the reason for the first rule that they break.
abbrev pub OnPassword : List ℕ → (Reason → Type 0) → Type 0 → Type 0
OnPassword bytes Refuses Then =
    (IsPassword bytes × Then) ⊎ ((fault : PasswordFault) × IsPasswordRefused bytes fault × Refuses (password_reason fault))

-- OnLength len Refuses Then: a password can have this length and `Then` holds; or no password can, and `Refuses` holds
-- of PasswordTooLong.
abbrev pub OnLength : ℕ → (Reason → Type 0) → Type 0 → Type 0
OnLength len Refuses Then = ((len ≤ password_limit) × Then) ⊎ ((password_limit < len) × Refuses PasswordTooLong)

-- OnSetting text Refuses Then: the text spells a setting of which `Then` holds; or it breaks a rule of settings, and
-- `Refuses` holds of the reason for the first rule that it breaks.
abbrev pub OnSetting : List ℕ → (Reason → Type 0) → (SettingValue → Type 0) → Type 0
OnSetting text Refuses Then =
    ((kept : SettingValue) × Spells text kept × Then kept) ⊎ ((fault : SettingFault) × IsRefused text fault × Refuses (setting_reason fault))

-- IsFieldRefusal field reason: a stored field is refused for this reason, which is NoHash if the field is empty, Locked
-- if it is locked, and otherwise the reason for the first rule of settings that it breaks.
abbrev pub IsFieldRefusal : List ℕ → Reason → Type 0
IsFieldRefusal field reason =
    ((reason ≡ NoHash) × (field ≡ [])) ⊎ (((reason ≡ Locked) × IsLocked field)
    ⊎ ((fault : SettingFault) × IsStored field × IsRefused field fault × (reason ≡ setting_reason fault)))

-- OnField field Refuses Then: the stored field spells a setting of which `Then` holds; or it is refused, and `Refuses`
-- holds of the reason.
abbrev pub OnField : List ℕ → (Reason → Type 0) → (SettingValue → Type 0) → Type 0
OnField field Refuses Then =
    ((kept : SettingValue) × Spells field kept × Then kept) ⊎ ((reason : Reason) × IsFieldRefusal field reason × Refuses reason)

-- TakesNewRounds method rounds: the method takes the rounds for new hashes, and does not clamp them.
abbrev pub TakesNewRounds : Method → ℕ → Type 0
TakesNewRounds methods.Sha256crypt rounds = (rounds ≡ 0) ⊎ (clamped rounds ≡ rounds)
TakesNewRounds methods.Sha512crypt rounds = (rounds ≡ 0) ⊎ (clamped rounds ≡ rounds)
TakesNewRounds method rounds = TakesRounds method rounds

-- chosen_method number: the method with this number, if there is one. 0 means the recommended method, sha512crypt.
abbrev pub chosen_method : ℕ → Option Method
chosen_method number = if number == 0 then Some methods.Sha512crypt else method_numbered number

-- IsSchemeMade Takes number rounds scheme: `scheme` is made of the method with this number and of rounds that the
-- method takes, as `Takes` says.
abbrev pub IsSchemeMade : (Method → ℕ → Type 0) → ℕ → ℕ → Scheme → Type 0
IsSchemeMade Takes number rounds scheme =
    (method : Method) × (chosen_method number ≡ Some method) × Takes method rounds × (scheme ≡ made_scheme method (chosen_rounds method rounds))

-- OnScheme Takes number rounds Refuses Then: the method's number and the rounds make a scheme of which `Then` holds; or
-- `Refuses` holds of the reason: no method has the number, or the method does not take the rounds.
abbrev pub OnScheme : (Method → ℕ → Type 0) → ℕ → ℕ → (Reason → Type 0) → (Scheme → Type 0) → Type 0
OnScheme Takes number rounds Refuses Then =
    ((scheme : Scheme) × IsSchemeMade Takes number rounds scheme × Then scheme)
    ⊎ (((chosen_method number ≡ None) × Refuses UnknownMethod)
    ⊎ ((method : Method) × (chosen_method number ≡ Some method) × (¬ Takes method rounds) × Refuses Rounds))

-- IsSchemeReading Takes number rounds result: the result is the scheme that the method's number and the rounds make, or
-- the reason why they make none.
abbrev pub IsSchemeReading : (Method → ℕ → Type 0) → ℕ → ℕ → Result Scheme Reason → Type 0
IsSchemeReading Takes number rounds (Ok scheme) = IsSchemeMade Takes number rounds scheme
IsSchemeReading Takes number rounds (Err reason) =
    ((reason ≡ UnknownMethod) × (chosen_method number ≡ None))
    ⊎ ((reason ≡ Rounds) × ((method : Method) × (chosen_method number ≡ Some method) × (¬ Takes method rounds)))

-- BreaksGiven method rounds salt fault: the method, the rounds of a new hash and a given salt break the rule of
-- `fault`.
abbrev pub BreaksGiven : Method → ℕ → List ℕ → MakeFault → Type 0
BreaksGiven method rounds salt making.Cost = ¬ TakesNewRounds method rounds
BreaksGiven method rounds salt fault = BreaksMake method rounds (Some salt) fault

-- IsGivenRefused method rounds salt fault: `fault` is the first rule that the method, the rounds and the given salt
-- break.
unfoldable pub IsGivenRefused : Method → ℕ → List ℕ → MakeFault → Type 0
IsGivenRefused method rounds salt = IsFirstBroken make_faults (BreaksGiven method rounds salt)

-- IsGivenMade number rounds salt kept: `kept` is the setting of the method with this number, of rounds that it takes
-- for new hashes, and of a given salt that it takes.
abbrev pub IsGivenMade : ℕ → ℕ → List ℕ → SettingValue → Type 0
IsGivenMade number rounds salt kept =
    (method : Method) × (chosen_method number ≡ Some method) × ((fault : MakeFault) → ¬ BreaksGiven method rounds salt fault)
    × (kept ≡ record { scheme = made_scheme method (chosen_rounds method rounds); salt = salt })

-- OnGiven number rounds salt Refuses Then: a method's number, rounds and a given salt make a setting of which `Then`
-- holds; or `Refuses` holds of the reason: no method has the number, or the first rule that the salt or the rounds
-- break.
abbrev pub OnGiven : ℕ → ℕ → List ℕ → (Reason → Type 0) → (SettingValue → Type 0) → Type 0
OnGiven number rounds salt Refuses Then =
    ((kept : SettingValue) × IsGivenMade number rounds salt kept × Then kept)
    ⊎ (((chosen_method number ≡ None) × Refuses UnknownMethod)
    ⊎ ((method : Method) × (fault : MakeFault) × (chosen_method number ≡ Some method) × IsGivenRefused method rounds salt fault
    × Refuses (make_reason fault)))

-- IsGivenReading number rounds salt result: the result is the setting that a method's number, rounds and a given salt
-- make, or the reason why they make none.
abbrev pub IsGivenReading : ℕ → ℕ → List ℕ → Result SettingValue Reason → Type 0
IsGivenReading number rounds salt (Ok kept) = IsGivenMade number rounds salt kept
IsGivenReading number rounds salt (Err reason) =
    ((reason ≡ UnknownMethod) × (chosen_method number ≡ None))
    ⊎ ((method : Method) × (fault : MakeFault) × (chosen_method number ≡ Some method) × IsGivenRefused method rounds salt fault
    × (reason ≡ make_reason fault))

-- Refuses report reason: the report of a call that refuses for this reason, before the cost of a hash is known.
abbrev pub Refuses : Report → Reason → Type 0
Refuses report reason = report ≡ refused reason 0
