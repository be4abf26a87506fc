-- The report of a call, and what the call writes to the caller's `out`.
use Rattle.std.specs.Prelude.{◌≡◌, ◌⊎◌, ◌↔◌, ◌<◌, ℕ, ℤ, pos, if◌then◌else◌, List, [], ◌∷◌, ◌++◌, length, take, drop, codes}
use Rattle.std.specs.Str.{bytes_eq}
use Rattle.prims_core.specs.Work.{no_work}
use Rattle.prims_core.specs.declared.meter.Work.{Work}
use Rattle.crypt_core.specs.Crypt.{IsAfterFailedAllocation}
use Rattle.crypt_core.specs.Settings.{SettingValue}
use Rattle.call_core.specs.Reasons.{reason_row}
use Rattle.call_core.specs.declared.reason.Reason.{Reason}
use Rattle.call_core.specs.declared.reason.Reason.TheVariants.{OutOfMemory}
use Rattle.call_core.specs.declared.report.Report.{Report}

-- succeeded len hash_cost counts: the report of a call that did what its name says: it wrote `len` bytes, the hash
-- costs at most `hash_cost`, and `counts` is its work. It has no rounds and no scheme, which only a few calls add:
-- those on a policy add rounds, and an audit adds both.
abbrev pub succeeded : ℕ → ℕ → Work → Report
succeeded len hash_cost counts =
    record { error = 0; outdated = 0; length = len; scheme = 0; rounds = 0; n = 0; r = 0; p = 0; cost = hash_cost; work = counts }

-- failed reason hash_cost counts: the report of a call that failed for this reason. The hash costs at most `hash_cost`,
-- and `counts` is the work of the call.
abbrev pub failed : Reason → ℕ → Work → Report
failed reason hash_cost counts = record (succeeded 0 hash_cost counts) { error = (reason_row reason).0 }

-- refused reason hash_cost: the report of a call that failed before it hashed; `hash_cost` is the cost, or 0 if that
-- isn't known yet.
abbrev pub refused : Reason → ℕ → Report
refused reason hash_cost = failed reason hash_cost no_work

-- found outdated hash_cost counts: the report of a call that found a stored hash, or found that the password matches
-- it. `outdated` is 1 if a new hash by the policy would replace the stored one, otherwise 0. A check without a policy
-- reports 0.
abbrev pub found : ℕ → ℕ → Work → Report
found outdated hash_cost counts = record (succeeded 0 hash_cost counts) { outdated = outdated }

-- LacksMemory kept hash_cost report: the report if scrypt lacked memory: an allocation failed, or the caller lent too
-- little. Its work is that of the allocations before the one that failed. No other scheme needs memory.
abbrev pub LacksMemory : SettingValue → ℕ → Report → Type 0
LacksMemory kept hash_cost report =
    (done : Work) × IsAfterFailedAllocation no_work kept.scheme done × (report ≡ failed OutOfMemory hash_cost done)

-- put text old: the caller's bytes after a call wrote a string to them: as much of it as fits before a zero byte, that
-- byte, and then the old bytes unchanged. If there are no bytes, nothing is written.
abbrev pub put : List ℕ → List ℕ → List ℕ
put text [] = []
put text (b ∷ rest) = let cut = take (length rest) text in cut ++ 0 ∷ drop (length cut) rest

-- PutsWhole text old result new: the effect of a call that only writes a string: it writes as much of the string as
-- fits, and returns 1 if that is the whole string, otherwise 0.
abbrev pub PutsWhole : List ℕ → List ℕ → ℤ → List ℕ → Type 0
PutsWhole text old result new =
    (new ≡ put text old) × ((result ≡ pos 1) ⊎ (result ≡ pos 0)) × (result ≡ pos 1 ↔ length text < length old)

-- token setting: the string that a call writes when it refuses, in place of a hash with this setting (crypt(3)). The
-- token never equals the setting, and it spells no setting.
abbrev pub token : List ℕ → List ℕ
token setting = if bytes_eq (take 2 setting) (codes "*0") then codes "*1" else codes "*0"

-- IsOneOrZero result: the call returns 1 or 0.
abbrev pub IsOneOrZero : ℤ → Type 0
IsOneOrZero result = (result ≡ pos 1) ⊎ (result ≡ pos 0)

-- Answers result report: the result of a call that makes something, or that asks whether a password matches: 1 if the
-- error is 0, otherwise 0.
abbrev pub Answers : ℤ → Report → Type 0
Answers result report = IsOneOrZero result × (result ≡ pos 1 ↔ report.error ≡ 0)

-- AnswersOutdated result report: the result of a call that asks whether a stored hash is outdated: 1 if it is,
-- otherwise 0.
abbrev pub AnswersOutdated : ℤ → Report → Type 0
AnswersOutdated result report = IsOneOrZero result × (result ≡ pos 1 ↔ report.outdated ≡ 1)

-- AnswersCurrent result report: the result of a call that asks whether a stored hash is current: 1 if the error is 0
-- and the hash is not outdated, otherwise 0.
abbrev pub AnswersCurrent : ℤ → Report → Type 0
AnswersCurrent result report = IsOneOrZero result × (result ≡ pos 1 ↔ (report.error ≡ 0) × (report.outdated ≡ 0))

-- Leaves wanted text old report new: the call reports `wanted` and writes the string `text` to the caller's bytes.
abbrev pub Leaves : Report → List ℕ → List ℕ → Report → List ℕ → Type 0
Leaves wanted text old report new = (report ≡ wanted) × (new ≡ put text old)
