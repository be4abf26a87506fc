-- How a password is checked against a stored hash, both for C and for web pages.
--
-- A password is the list of its bytes, `kept` is the setting that a text spells, and `hash_cost` is the cost of a hash:
-- the most bytes that it digests and mixes.
use Rattle.std.specs.Prelude.{◌≡◌, ◌⊎◌, ◌≤◌, if◌then◌else◌, ℕ, nat_lt, false, MatchBool, List, length}
use Rattle.std.specs.Str.{bytes_eq}
use Rattle.crypt_core.specs.Crypt.{allocates, crypt}
use Rattle.crypt_core.specs.Passwords.{IsPassword}
use Rattle.crypt_core.specs.Settings.{SettingValue, Spells}
use Rattle.crypt_core.specs.StoredFields.{IsWhole}
use Rattle.crypt_core.specs.Work.{cost, work}
use Rattle.call_core.specs.Arguments.{OnField, OnPassword, Refuses}
use Rattle.call_core.specs.Reports.{LacksMemory, failed, found, refused}
use Rattle.call_core.specs.declared.reason.Reason.{Reason}
use Rattle.call_core.specs.declared.reason.Reason.TheVariants.{OverBudget, WrongPassword}
use Rattle.call_core.specs.declared.report.Report.{Report}

-- Opens password stored budget: the password opens the stored hash: the password is valid, the stored hash spells a
-- setting and is the password's hash with this setting, and the cost of that hash is at most the budget.
abbrev pub Opens : List ℕ → List ℕ → ℕ → Type 0
Opens password stored budget =
    IsPassword password × ((kept : SettingValue) × Spells stored kept × (crypt password kept ≡ stored)
    × (cost kept (length password) ≤ budget))

-- NeedsNoMemory text: the text spells a setting whose hash needs no memory.
abbrev pub NeedsNoMemory : List ℕ → Type 0
NeedsNoMemory text = (kept : SettingValue) × Spells text kept × (allocates kept.scheme ≡ false)

-- IsDead text: the text is a dead hash: it spells a setting but is not whole, so no password matches it.
abbrev pub IsDead : List ℕ → Type 0
IsDead text = (kept : SettingValue) × Spells text kept × ¬ IsWhole text kept

-- Compares password kept stored outdated mismatch_reason report: the report of comparing the password's hash with the
-- stored one. If the two are equal, there is no error, and `outdated` is reported; otherwise the error is
-- `mismatch_reason`. If scrypt lacked memory for the hash, the report says that instead.
abbrev pub Compares : List ℕ → SettingValue → List ℕ → ℕ → Reason → Report → Type 0
Compares password kept stored outdated mismatch_reason report =
    let hash_cost = cost kept (length password) in
    (report ≡ (if bytes_eq (crypt password kept) stored then found outdated hash_cost (work password kept) else failed mismatch_reason hash_cost (work password kept)))
    ⊎ LacksMemory kept hash_cost report

-- Verifies password stored budget report: the report of mkpasswd_verify and web_verify.
--   a refused argument  the reason
--   above the budget    OverBudget and the cost, without work
--   otherwise           no error or WrongPassword, with the cost and the work of one hash; or scrypt lacked memory
abbrev pub Verifies : List ℕ → List ℕ → ℕ → Report → Type 0
Verifies password stored budget report =
    OnPassword password (Refuses report) (OnField stored (Refuses report) (λ kept.
    let hash_cost = cost kept (length password) in
    MatchBool (nat_lt budget hash_cost) (report ≡ refused OverBudget hash_cost) (Compares password kept stored 0 WrongPassword report)))
