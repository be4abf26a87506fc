-- The parts that the parser takes off the front of a setting, one after another, and the salts that a method accepts.
use Rattle.std.specs.Prelude.{◌≡◌, ℕ, ◌^◌, ◌<◌, ◌≤◌, min, List, ◌∷◌, ◌++◌, length, take, All, Contains}
use Rattle.std.specs.Str.Parse.{digits_value}
use Rattle.prims_core.specs.Alphabet.{alphabet}
use Rattle.kdf_core.specs.Params.{ScryptParams}
use Rattle.crypt_core.specs.declared.method.Method.{Method}
use Rattle.crypt_core.specs.declared.method.Method.TheVariants as methods
use Rattle.crypt_core.specs.MethodLimits.{salt_limit}
use Rattle.crypt_core.specs.Rounds.{max_rounds}
use Rattle.crypt_core.specs.TextLimits.{scrypt_part_len}
use Rattle.crypt_core.specs.declared.setting.fault.SettingFault.{SettingFault}
use Rattle.crypt_core.specs.Refusals.{IsRefused}
use Rattle.crypt_core.specs.Settings.{dollar, rounds_word, IsField, IsRoundsNumber, IsScryptSalt, IsSettingByte, scrypt_part, setting_limit}

-- IsSettingText text: the text has no more bytes than the limit, and every byte is a setting byte.
pub record IsSettingText (text : List ℕ) : Type 0 where
  pub short : length text ≤ setting_limit
  pub bytes : All IsSettingByte text

-- AllRefused HasForm fault: every text that has the length and the bytes of a setting (`IsSettingText`) and this form
-- is refused with this error.
abbrev pub AllRefused : (List ℕ → Type 0) → SettingFault → Type 0
AllRefused HasForm fault = (text : List ℕ) → IsSettingText text → HasForm text → IsRefused text fault

-- HasNumber field number rest: the field begins with the digits of a number and a `$`, and `rest` follows. `number` is
-- what the digits spell, but at most `max_rounds`.
abbrev pub HasNumber : List ℕ → ℕ → List ℕ → Type 0
HasNumber field number rest = (digits : List ℕ) × IsRoundsNumber digits × (field ≡ digits ++ (dollar ∷ rest))
    × (number ≡ min (digits_value 10 digits) max_rounds)

-- LacksNumber field: the field does not begin with the digits of a number and a `$`.
abbrev pub LacksNumber : List ℕ → Type 0
LacksNumber field = (digits rest : List ℕ) → IsRoundsNumber digits → field ≡ digits ++ dollar ∷ rest → ⊥

-- LacksRounds after: `after` begins with `rounds=`, but no number and `$` come next.
abbrev pub LacksRounds : List ℕ → Type 0
LacksRounds after = (field : List ℕ) × (after ≡ rounds_word ++ field) × LacksNumber field

-- HasNumerals cost: scrypt's cost part has enough characters for these numbers.
abbrev pub HasNumerals : ScryptParams → Type 0
HasNumerals cost = (cost.log_n < 64) × (cost.r < 2 ^ 30) × (cost.p < 2 ^ 30)

-- HasNumbers after cost: `after` begins with scrypt's cost part for this cost.
abbrev pub HasNumbers : List ℕ → ScryptParams → Type 0
HasNumbers after cost = (rest : List ℕ) × (after ≡ scrypt_part cost ++ rest) × HasNumerals cost

-- LacksCharacters after: `after` begins with fewer characters of crypt's alphabet than scrypt's cost part has
-- (`scrypt_part_len`).
abbrev pub LacksCharacters : List ℕ → Type 0
LacksCharacters after = (part rest : List ℕ) → length part ≡ scrypt_part_len → All (Contains alphabet) part → after ≡ part ++ rest → ⊥

-- HasField after field: `after` begins with this field, which ends before the first `$` or at the end.
abbrev pub HasField : List ℕ → List ℕ → Type 0
HasField after field = (rest : List ℕ) × (after ≡ field ++ rest) × IsField field rest

-- KeepsField method field salt: this is the salt that the method keeps of the field. It is `KeepsSalt` without the rule
-- that scrypt's parameters are accepted.
abbrev pub KeepsField : Method → List ℕ → List ℕ → Type 0
KeepsField methods.Scrypt field salt = (salt ≡ field) × IsScryptSalt field
KeepsField method field salt = salt ≡ take (salt_limit method) field

-- SpellsSalt method after salt: this is the salt that the method keeps of the field at the front of `after`.
abbrev pub SpellsSalt : Method → List ℕ → List ℕ → Type 0
SpellsSalt method after salt = (field : List ℕ) × HasField after field × KeepsField method field salt

-- LacksSalt method after: the method is scrypt, and the field at the front of `after` is not a salt of scrypt.
abbrev pub LacksSalt : Method → List ℕ → Type 0
LacksSalt method after = (method ≡ methods.Scrypt) × (field : List ℕ) × HasField after field × (¬ IsScryptSalt field)

-- TakesSalt method salt: the method accepts the salt: it has at least one character, no more than the method keeps, and
-- only characters of crypt's alphabet.
pub record TakesSalt (method : Method) (salt : List ℕ) : Type 0 where
  pub some : 0 < length salt
  pub short : length salt ≤ salt_limit method
  pub characters : All (Contains alphabet) salt
