-- Settings made from a method, rounds and a salt, and the error if they make none. The rounds are the number that the
-- command takes as `-R`: SHA-crypt's own rounds, and log2 N - 7 for scrypt.
use Rattle.std.specs.Prelude.{◌≡◌, ℕ, ◌+◌, ◌-◌, ◌<◌, ◌≤◌, ◌⊎◌, ◌==◌, if◌then◌else◌, true, false, List, [], ◌∷◌, length, All, Contains, Option, Some, None}
use Rattle.prims_core.specs.Alphabet.{alphabet}
use Rattle.kdf_core.specs.Params.{ScryptParams}
use Rattle.crypt_core.specs.declared.method.Method.{Method}
use Rattle.crypt_core.specs.declared.method.Method.TheVariants as methods
use Rattle.crypt_core.specs.Rounds.{Rounds, default_rounds, clamped}
use Rattle.crypt_core.specs.Rules.{IsFirstBroken}
use Rattle.crypt_core.specs.Schemes.{method_of}
use Rattle.crypt_core.specs.declared.scheme.Scheme.{Scheme}
use Rattle.crypt_core.specs.declared.scheme.Scheme.TheVariants.{Md5crypt, Shacrypt, Scrypt}
use Rattle.crypt_core.specs.declared.scheme.Sha.TheVariants.{Sha256, Sha512}
use Rattle.crypt_core.specs.declared.setting.fault.MakeFault.{MakeFault}
use Rattle.crypt_core.specs.declared.setting.fault.MakeFault.TheVariants.{SaltLength, SaltCharacter, Cost}
use Rattle.crypt_core.specs.MadeSalts.{made_salt}
use Rattle.crypt_core.specs.Methods.{method_row}
use Rattle.crypt_core.specs.Settings.{SettingValue}

-- made_rounds rounds: the rounds of a SHA-crypt setting that is made with this number: for 0 the default rounds,
-- without a `rounds=` field, and otherwise the number, clamped, in a `rounds=` field.
abbrev pub made_rounds : ℕ → Rounds
made_rounds rounds = if rounds == 0 then record { count = default_rounds; is_written = false } else record { count = clamped rounds; is_written = true }

-- made_params rounds: scrypt's parameters N = 2 ^ (rounds + 7), r = 32 and p = 1. Rounds of 0 stand for 7.
abbrev pub made_params : ℕ → ScryptParams
made_params rounds = record { log_n = (if rounds == 0 then 7 else rounds) + 7; r = 32; p = 1 }

-- made_scheme method rounds: the scheme of a method with these rounds. md5crypt ignores them, since its number of
-- rounds is fixed.
abbrev pub made_scheme : Method → ℕ → Scheme
made_scheme methods.Md5crypt rounds = Md5crypt
made_scheme methods.Sha256crypt rounds = Shacrypt Sha256 (made_rounds rounds)
made_scheme methods.Sha512crypt rounds = Shacrypt Sha512 (made_rounds rounds)
made_scheme methods.Scrypt rounds = Scrypt (made_params rounds)

-- rounds_of scheme: the rounds from which `made_scheme` makes the scheme: SHA-crypt's own, log2 N - 7 for scrypt, and 0
-- for md5crypt, which ignores them.
abbrev pub rounds_of : Scheme → ℕ
rounds_of Md5crypt = 0
rounds_of (Shacrypt sha rounds) = rounds.count
rounds_of (Scrypt params) = params.log_n - 7

-- salted scheme numbers: the setting of a scheme with a new salt, generated from three random numbers.
abbrev pub salted : Scheme → List ℕ → SettingValue
salted scheme numbers = record { scheme = scheme; salt = made_salt numbers (method_row (method_of scheme)).made_salt_length }

-- TakesRounds method rounds: the method accepts these rounds. scrypt accepts 0 and 6 to 11, and the other methods
-- accept any.
abbrev pub TakesRounds : Method → ℕ → Type 0
TakesRounds methods.Scrypt rounds = (rounds ≡ 0) ⊎ ((6 ≤ rounds) × (rounds ≤ 11))
TakesRounds method rounds = Unit {0}

-- The errors of making a setting, in the order in which their rules are checked.
abbrev pub make_faults : List MakeFault
make_faults = SaltLength ∷ SaltCharacter ∷ Cost ∷ []

-- BreaksMake method rounds given fault: the method, the rounds, and the salt if one is given, break the rule of this
-- error. The rules:
--   Cost            the method accepts the rounds
--   SaltLength      the salt has at least one character, and no more than the method keeps
--   SaltCharacter   every character of the salt is in crypt's alphabet
abbrev pub BreaksMake : Method → ℕ → Option (List ℕ) → MakeFault → Type 0
BreaksMake method rounds given Cost = ¬ TakesRounds method rounds
BreaksMake method rounds None fault = ⊥
BreaksMake method rounds (Some salt) SaltLength = (length salt ≡ 0) ⊎ ((method_row method).salt_limit < length salt)
BreaksMake method rounds (Some salt) SaltCharacter = ¬ All (Contains alphabet) salt

-- IsMakeRefused method rounds given fault: `fault` is the error of the first rule that the method, the rounds and the
-- given salt break.
unfoldable pub IsMakeRefused : Method → ℕ → Option (List ℕ) → MakeFault → Type 0
IsMakeRefused method rounds given = IsFirstBroken make_faults (BreaksMake method rounds given)
