-- The error for a string that is not a setting: that of the first stage at which reading fails.
use Rattle.std.specs.Prelude.{◌≡◌, ℕ, ◌<◌, List, [], ◌∷◌, ◌++◌, length, All}
use Rattle.kdf_core.specs.Params.{ScryptParams, IsInRange, IsWithinCeiling}
use Rattle.crypt_core.specs.Methods.{method_row}
use Rattle.crypt_core.specs.Rules.{IsFirstBroken}
use Rattle.crypt_core.specs.Schemes.{method_of, sha_method}
use Rattle.crypt_core.specs.Settings.{setting_limit, IsSettingByte, IsField, BeginsWith, IsScryptSalt, SpellsScheme}
use Rattle.crypt_core.specs.declared.method.Method.{Method}
use Rattle.crypt_core.specs.declared.method.Method.TheVariants as methods
use Rattle.crypt_core.specs.declared.scheme.Scheme.{Scheme}
use Rattle.crypt_core.specs.declared.scheme.Scheme.TheVariants.{Scrypt}
use Rattle.crypt_core.specs.declared.scheme.Sha.{Sha}
use Rattle.crypt_core.specs.declared.setting.fault.SettingFault.{SettingFault}
use Rattle.crypt_core.specs.declared.setting.fault.SettingFault.TheVariants.{TooLong, BadCharacter, UnknownScheme, BadRounds, BadCost, ScryptRange, AboveCeiling, BadSalt}

-- The errors of reading a setting, in the order of the stages of reading that find them.
abbrev pub setting_faults : List SettingFault
setting_faults = TooLong ∷ BadCharacter ∷ UnknownScheme ∷ BadRounds ∷ BadCost ∷ ScryptRange ∷ AboveCeiling ∷ BadSalt ∷ []

-- LacksCost method text: the text has the prefix of this method, but no cost part follows. SHA-crypt also takes an
-- empty cost part, so it lacks one only if `rounds=` follows the prefix without a valid number and a `$`.
abbrev pub LacksCost : Method → List ℕ → Type 0
LacksCost method text = BeginsWith text (method_row method).prefix
    × ((scheme : Scheme) → (after : List ℕ) → method_of scheme ≡ method → ¬ SpellsScheme text scheme after)

-- FailsStage text fault: reading the text fails at the stage that has this error.
abbrev pub FailsStage : List ℕ → SettingFault → Type 0
FailsStage text TooLong = setting_limit < length text
FailsStage text BadCharacter = ¬ All IsSettingByte text
FailsStage text UnknownScheme = (method : Method) → ¬ BeginsWith text (method_row method).prefix
FailsStage text BadRounds = (sha : Sha) × LacksCost (sha_method sha) text
FailsStage text BadCost = LacksCost methods.Scrypt text
FailsStage text ScryptRange = (params : ScryptParams) × (after : List ℕ) × SpellsScheme text (Scrypt params) after × (¬ IsInRange params)
FailsStage text AboveCeiling = (params : ScryptParams) × (after : List ℕ) × SpellsScheme text (Scrypt params) after × (¬ IsWithinCeiling params)
FailsStage text BadSalt =
    (params : ScryptParams) × (field rest : List ℕ) × SpellsScheme text (Scrypt params) (field ++ rest) × IsField field rest × (¬ IsScryptSalt field)

-- IsRefused text fault: the text is not a setting, and this is the error of the first stage at which reading it fails.
unfoldable pub IsRefused : List ℕ → SettingFault → Type 0
IsRefused text = IsFirstBroken setting_faults (FailsStage text)
