-- What an audit finds in a stored field without knowing any password.
use Rattle.std.specs.Prelude.{◌≡◌, ◌≢◌, Bool, ℕ, List, [], codes, true, false}
use Rattle.crypt_core.specs.OtherSchemes.{HasFront, IsOf}
use Rattle.crypt_core.specs.Refusals.{IsRefused}
use Rattle.crypt_core.specs.Settings.{SettingValue, Spells}
use Rattle.crypt_core.specs.Standings.{HasStanding, greatest_cost}
use Rattle.crypt_core.specs.StoredFields.{IsLocked, IsStored}
use Rattle.crypt_core.specs.declared.finding.Finding.{Finding}
use Rattle.crypt_core.specs.declared.finding.Finding.TheVariants.{Hash, NoHash, Locked, Other, Unknown, NoScheme, Malformed}
use Rattle.crypt_core.specs.declared.other_scheme.OtherScheme.{OtherScheme}
use Rattle.crypt_core.specs.declared.scheme.Scheme.{Scheme}
use Rattle.crypt_core.specs.declared.setting.fault.SettingFault.{SettingFault}
use Rattle.crypt_core.specs.declared.setting.fault.SettingFault.TheVariants.{UnknownScheme}
use Rattle.crypt_core.specs.declared.standing.Standing.{Standing}
use Rattle.crypt_core.specs.declared.standing.Standing.TheVariants.{Current}

-- IsOfNone field: the field has the form of no scheme in `OtherScheme`, the schemes of crypt(5) that mkpasswd doesn't
-- hash.
abbrev pub IsOfNone : List ℕ → Type 0
IsOfNone field = (other : OtherScheme) → ¬ IsOf other field

-- IsUnhashed field: the field is neither empty nor locked and spells no setting, and if it begins with `$`, the first
-- rule of a setting that it breaks is `UnknownScheme`.
abbrev pub IsUnhashed : List ℕ → Type 0
IsUnhashed field = IsStored field × (fault : SettingFault) × IsRefused field fault × (HasFront field (codes "$") → fault ≡ UnknownScheme)

-- Finds new budget field finding: an audit of the field has this finding when new hashes have the scheme `new`. A
-- budget of 0 stands for `audit_budget new`.
--   Hash       the field spells a setting, with this scheme, this greatest cost and this standing
--   NoHash     the field is empty
--   Locked     the field begins with `!` or `*`
--   Malformed  the field begins with `$`, and `fault`, the first rule of a setting that it breaks, is not
--              `UnknownScheme`
--   Other      none of the above, but the field has the form of this other scheme
--   Unknown    none of the above, but the field begins with `$`
--   NoScheme   none of the above
abbrev pub Finds : Scheme → ℕ → List ℕ → Finding → Type 0
Finds new budget field (Hash scheme most standing) =
    (kept : SettingValue) × Spells field kept × (scheme ≡ kept.scheme) × (most ≡ greatest_cost kept) × HasStanding new budget field kept standing
Finds new budget field NoHash = field ≡ []
Finds new budget field Locked = IsLocked field
Finds new budget field (Malformed fault) = IsStored field × HasFront field (codes "$") × IsRefused field fault × (fault ≢ UnknownScheme)
Finds new budget field (Other other) = IsUnhashed field × IsOf other field
Finds new budget field Unknown = IsUnhashed field × HasFront field (codes "$") × IsOfNone field
Finds new budget field NoScheme = IsUnhashed field × (¬ HasFront field (codes "$")) × IsOfNone field

-- JudgesHash new budget field kept finding: `finding` is what an audit finds in a field that spells the setting `kept`:
-- a hash with the setting's scheme, its greatest cost, and its standing.
abbrev pub JudgesHash : Scheme → ℕ → List ℕ → SettingValue → Finding → Type 0
JudgesHash new budget field kept finding =
    (standing : Standing) × HasStanding new budget field kept standing × (finding ≡ Hash kept.scheme (greatest_cost kept) standing)

-- needs_care finding: whether somebody should look at the account: its hash is out of date, matches no password, is
-- over budget, is malformed or has no scheme, or the field is empty.
abbrev pub needs_care : Finding → Bool
needs_care (Hash scheme most Current) = false
needs_care Locked = false
needs_care (Other other) = false
needs_care Unknown = false
needs_care finding = true
