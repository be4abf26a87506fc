-- The results of reading a setting and a stored field.
use Rattle.std.specs.Prelude.{◌≡◌, ℕ, List, [], Result, Ok, Err}
use Rattle.crypt_core.specs.Refusals.{IsRefused}
use Rattle.crypt_core.specs.Settings.{SettingValue, Spells}
use Rattle.crypt_core.specs.StoredFields.{IsHashOf, IsLocked, IsStored}
use Rattle.crypt_core.specs.declared.setting.fault.SettingFault.{SettingFault}
use Rattle.crypt_core.specs.declared.stored.StoredField.{StoredField}
use Rattle.crypt_core.specs.declared.stored.StoredField.TheVariants.{Empty, Locked, Hash}

-- IsReading text result: reading the text gives this result: the setting that the text spells, or the error of the
-- first stage at which reading fails.
abbrev pub IsReading : List ℕ → Result SettingValue SettingFault → Type 0
IsReading text (Ok kept) = Spells text kept
IsReading text (Err fault) = IsRefused text fault

-- IsReadOneWay text: the text has at most one reading. It spells at most one setting, has at most one error, and never
-- both.
unfoldable pub IsReadOneWay : List ℕ → Type 0
IsReadOneWay text = (one other : Result SettingValue SettingFault) → IsReading text one → IsReading text other → one ≡ other

-- IsFieldReading field result: reading the field gives this result: the field is empty, is locked, or is this stored
-- hash; or the error is that of the first rule of a setting that the field breaks.
abbrev pub IsFieldReading : List ℕ → Result StoredField SettingFault → Type 0
IsFieldReading field (Ok Empty) = field ≡ []
IsFieldReading field (Ok Locked) = IsLocked field
IsFieldReading field (Ok (Hash stored)) = IsStored field × IsHashOf field stored
IsFieldReading field (Err fault) = IsStored field × IsRefused field fault
