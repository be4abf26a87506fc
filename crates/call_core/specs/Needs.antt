-- The memory that a call needs for its hash. Only scrypt needs any (RFC 7914).
--
-- A password is the list of its bytes, and `kept` is the setting with which the call hashes it.
use Rattle.std.specs.Prelude.{◌≡◌, ◌⊎◌, ◌≤◌, ℕ, List, length}
use Rattle.crypt_core.specs.Needs.{bytes_by, words_by}
use Rattle.crypt_core.specs.Passwords.{IsPassword}
use Rattle.crypt_core.specs.Settings.{SettingValue, Spells}
use Rattle.crypt_core.specs.Work.{cost}
use Rattle.crypt_core.specs.declared.need.Need.{Need}
use Rattle.crypt_core.specs.declared.scheme.Scheme.{Scheme}
use Rattle.call_core.specs.Arguments.{IsSchemeMade, TakesNewRounds}
use Rattle.call_core.specs.Logins.{IsUncheckable, dummy}

-- HashesWith password text budget kept: a call that checks the password against `text`, or hashes it with the setting
-- in `text`, hashes it with the setting `kept`: the password is valid, the text spells the setting, and the budget
-- allows the hash.
abbrev pub HashesWith : List ℕ → List ℕ → ℕ → SettingValue → Type 0
HashesWith password text budget kept = IsPassword password × Spells text kept × (cost kept (length password) ≤ budget)

-- LoginHashesWith password field number rounds budget kept: with a valid password, method and rounds, a login hashes
-- the password with the setting `kept`: the stored one if it can be checked within the budget, and otherwise that of
-- the dummy hash if the budget allows this hash.
abbrev pub LoginHashesWith : List ℕ → List ℕ → ℕ → ℕ → ℕ → SettingValue → Type 0
LoginHashesWith password field number rounds budget kept =
    (scheme : Scheme) × IsSchemeMade TakesNewRounds number rounds scheme × IsPassword password
    × (Spells field kept ⊎ (IsUncheckable password field budget × (kept ≡ dummy scheme)))
    × (cost kept (length password) ≤ budget)

-- IsNeed Hashes need: `need` is the memory that a call needs, where `Hashes` holds of the setting with which the call
-- hashes. If `Hashes` holds of no setting, the call makes no hash and needs nothing.
abbrev pub IsNeed : (SettingValue → Type 0) → Need → Type 0
IsNeed Hashes need =
    ((kept : SettingValue) → Hashes kept → (need.words ≡ words_by kept.scheme) × (need.bytes ≡ bytes_by kept.scheme))
    × (((kept : SettingValue) → ¬ Hashes kept) → (need.words ≡ 0) × (need.bytes ≡ 0))
