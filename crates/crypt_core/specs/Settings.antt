-- Settings: which string spells which setting, and the one canonical form of each (crypt(5)). Definitions and lemmas
-- name a setting `kept`, because it is what is kept of a string that spells it.
use Rattle.std.specs.Prelude.{◌≡◌, ◌≢◌, ◌⊎◌, ℕ, ◌^◌, ◌<◌, ◌≤◌, if◌then◌else◌, List, [], ◌∷◌, ◌++◌, length, take, All, Contains, MatchBool, decimal, codes}
use Rattle.std.specs.Str.Parse.{digits_value}
use Rattle.prims_core.specs.Alphabet.{alphabet, numerals}
use Rattle.kdf_core.specs.Params.{ScryptParams, IsAccepted}
use Rattle.crypt_core.specs.declared.method.Method.TheVariants as methods
use Rattle.crypt_core.specs.Rounds.{Rounds, clamped, default_rounds}
use Rattle.crypt_core.specs.Schemes.{method_of}
use Rattle.crypt_core.specs.declared.scheme.Scheme.{Scheme}
use Rattle.crypt_core.specs.declared.scheme.Scheme.TheVariants.{Md5crypt, Shacrypt, Scrypt}
use Rattle.crypt_core.specs.Methods.{method_row}

-- What a setting keeps of a string: the scheme and the salt.
pub record SettingValue : Type 0 where
  pub scheme : Scheme
  pub salt : List ℕ

-- IsSettingByte b: the byte is graphic ASCII, 0x21 to 0x7e, and none of `:`, `;`, `*`, `!` and the backslash.
abbrev pub IsSettingByte : ℕ → Type 0
IsSettingByte b = (33 ≤ b) × (b ≤ 126) × ¬ Contains (codes ":;*!\\") b

-- The most bytes of a setting or a stored hash.
abbrev pub setting_limit : ℕ
setting_limit = 384

-- The character `$`, which separates the parts of a setting.
abbrev pub dollar : ℕ
dollar = 36

-- BeginsWith text front: the text is `front` followed by some rest.
abbrev pub BeginsWith : List ℕ → List ℕ → Type 0
BeginsWith text front = (rest : List ℕ) × (text ≡ front ++ rest)

-- IsField field rest: the field has no `$`, and the rest after it is empty or begins with a `$`.
abbrev pub IsField : List ℕ → List ℕ → Type 0
IsField field rest = All (λ b. b ≢ dollar) field × ((rest ≡ []) ⊎ BeginsWith rest (dollar ∷ []))

-- ---- the cost part

-- The characters with which SHA-crypt's `rounds=` field begins (Drepper, "Unix crypt using SHA-256 and SHA-512").
abbrev pub rounds_word : List ℕ
rounds_word = codes "rounds="

-- IsRoundsNumber digits: these are the decimal digits of a number, without a leading zero.
abbrev pub IsRoundsNumber : List ℕ → Type 0
IsRoundsNumber [] = ⊥
IsRoundsNumber (d ∷ ds) = (49 ≤ d) × (d ≤ 57) × All (λ c. (48 ≤ c) × (c ≤ 57)) ds

-- rounds_field digits: `rounds=`, the digits of the number, and a `$`.
abbrev pub rounds_field : List ℕ → List ℕ
rounds_field digits = rounds_word ++ (digits ++ dollar ∷ [])

-- SpellsRounds rounds part after: this part, followed by `after`, spells these rounds.
--   with a field      the part is a `rounds=` field, and the rounds are its number, clamped
--   without a field   the part is empty, the rounds are the default, and no `rounds=` follows
abbrev pub SpellsRounds : Rounds → List ℕ → List ℕ → Type 0
SpellsRounds rounds part after = MatchBool rounds.is_written
    ((digits : List ℕ) × IsRoundsNumber digits × (part ≡ rounds_field digits) × (rounds.count ≡ clamped (digits_value 10 digits)))
    ((part ≡ []) × (rounds.count ≡ default_rounds) × ¬ BeginsWith after rounds_word)

-- scrypt_part cost: one character for log2 N, five for r and five for p. Each number has its lowest six bits first.
abbrev pub scrypt_part : ScryptParams → List ℕ
scrypt_part cost = numerals 1 cost.log_n ++ (numerals 5 cost.r ++ numerals 5 cost.p)

-- SpellsCost scheme part after: this part, followed by `after`, is a cost part that spells the scheme's rounds, or
-- scrypt's parameters. For scrypt, log2 N fits one character, and r and p fit five each.
abbrev pub SpellsCost : Scheme → List ℕ → List ℕ → Type 0
SpellsCost Md5crypt part after = part ≡ []
SpellsCost (Shacrypt sha rounds) part after = SpellsRounds rounds part after
SpellsCost (Scrypt params) part after = (part ≡ scrypt_part params) × (params.log_n < 64) × (params.r < 2 ^ 30) × (params.p < 2 ^ 30)

-- ---- the whole string

-- SpellsScheme text scheme after: the text is the prefix of the scheme's method, the scheme's cost part, and then
-- `after`.
abbrev pub SpellsScheme : List ℕ → Scheme → List ℕ → Type 0
SpellsScheme text scheme after =
    (part : List ℕ) × (text ≡ (method_row (method_of scheme)).prefix ++ (part ++ after)) × SpellsCost scheme part after

-- IsScryptSalt salt: the salt has no more characters than scrypt keeps, all of them in crypt's alphabet.
abbrev pub IsScryptSalt : List ℕ → Type 0
IsScryptSalt salt = (length salt ≤ (method_row methods.Scrypt).salt_limit) × All (Contains alphabet) salt

-- KeepsSalt scheme field salt: this is the salt that the scheme keeps of the field.
--   scrypt      its parameters are accepted, the field is a salt of scrypt, and all of it is kept
--   otherwise   as many bytes as the method keeps, or the whole field if it has fewer
abbrev pub KeepsSalt : Scheme → List ℕ → List ℕ → Type 0
KeepsSalt (Scrypt params) field salt = IsAccepted params × (salt ≡ field) × IsScryptSalt field
KeepsSalt scheme field salt = salt ≡ take (method_row (method_of scheme)).salt_limit field

-- Spells text kept: the text spells this setting. It has no more bytes than the limit, all of them setting bytes. It
-- begins with the prefix and the cost part of the scheme, then comes the field of the salt, and then a rest that is
-- ignored.
pub record Spells (text : List ℕ) (kept : SettingValue) : Type 0 where
  pub short : length text ≤ setting_limit
  pub bytes : All IsSettingByte text
  pub field : List ℕ
  pub rest : List ℕ
  pub is_field : IsField field rest
  pub scheme : SpellsScheme text kept.scheme (field ++ rest)
  pub salt : KeepsSalt kept.scheme field kept.salt

-- ---- the canonical form

-- cost_part scheme: the cost part of the scheme in canonical form: the rounds, or scrypt's parameters. SHA-crypt's
-- rounds appear only if the setting had a `rounds=` field.
abbrev pub cost_part : Scheme → List ℕ
cost_part Md5crypt = []
cost_part (Shacrypt sha rounds) = if rounds.is_written then rounds_field (decimal rounds.count) else []
cost_part (Scrypt params) = scrypt_part params

-- canonical_text kept: the setting in canonical form, which ends with its salt.
abbrev pub canonical_text : SettingValue → List ℕ
canonical_text kept = (method_row (method_of kept.scheme)).prefix ++ (cost_part kept.scheme ++ kept.salt)
