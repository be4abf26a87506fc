-- The hash of a password with a given or a new setting, both for C and for web pages.
--
-- A password is the list of its bytes, `kept` is the setting that a text spells, and `hash_cost` is the cost of a hash:
-- the most bytes that it digests and mixes. `out` holds the bytes `old` before a call and `new` after it.
use Rattle.std.specs.Prelude.{◌⊎◌, ◌==◌, if◌then◌else◌, ℕ, nat_lt, MatchBool, MatchResult, List, [], ◌∷◌, length, Result, Ok, Err}
use Rattle.crypt_core.specs.Crypt.{crypt}
use Rattle.crypt_core.specs.MadeSettings.{salted}
use Rattle.crypt_core.specs.Settings.{SettingValue}
use Rattle.crypt_core.specs.Work.{cost, work}
use Rattle.call_core.specs.Arguments.{OnPassword, OnScheme, OnSetting, TakesNewRounds}
use Rattle.call_core.specs.Reports.{LacksMemory, Leaves, refused, succeeded, token}
use Rattle.call_core.specs.declared.reason.Reason.{Reason}
use Rattle.call_core.specs.declared.reason.Reason.TheVariants.{TooFewBytes, OverBudget, NoRandomNumbers}
use Rattle.call_core.specs.declared.report.Report.{Report}

-- admission budget room password kept: the cost of the hash, if the budget allows it and `room` bytes hold the hash and
-- a zero byte; otherwise the report of the refusal. The budget is tested first.
abbrev pub admission : ℕ → ℕ → List ℕ → SettingValue → Result ℕ Report
admission budget room password kept =
    let hash_cost = cost kept (length password) in
    if nat_lt budget hash_cost then Err (refused OverBudget hash_cost)
    else if nat_lt (length (crypt password kept)) room then Ok hash_cost
    else Err (refused TooFewBytes hash_cost)

-- PutsHash password kept budget lock old report new: the call reports the hash and writes it to `out`; or it reports
-- the first refusal in the order budget, capacity, memory, and writes `lock`.
abbrev pub PutsHash : List ℕ → SettingValue → ℕ → List ℕ → List ℕ → Report → List ℕ → Type 0
PutsHash password kept budget lock old report new =
    let text = crypt password kept in
    MatchResult (admission budget (length old) password kept)
    (λ hash_cost. Leaves (succeeded (length text) hash_cost (work password kept)) text old report new
    ⊎ (LacksMemory kept hash_cost report × Leaves report lock old report new))
    (λ refusal. Leaves refusal lock old report new)

-- Hashes password text budget old report new: the effect of mkpasswd_hash and web_hash, which write the hash, or the
-- token after the first refusal.
abbrev pub Hashes : List ℕ → List ℕ → ℕ → List ℕ → Report → List ℕ → Type 0
Hashes password text budget old report new =
    let Locks = λ (reason : Reason). Leaves (refused reason 0) (token text) old report new in
    OnPassword password Locks (OnSetting text Locks (λ kept. PutsHash password kept budget (token text) old report new))

-- HashesAnew password number rounds budget numbers old report new: the effect of mkpasswd_proved_new_from. With three
-- random numbers it hashes with the setting that they make. Otherwise it reports the first refusal by another check, or
-- NoRandomNumbers if the password, the method, the rounds, the budget and the capacity pass.
abbrev pub HashesAnew : List ℕ → ℕ → ℕ → ℕ → List ℕ → List ℕ → Report → List ℕ → Type 0
HashesAnew password number rounds budget numbers old report new =
    let Locks = λ (reason : Reason). Leaves (refused reason 0) (token []) old report new in
    OnPassword password Locks (OnScheme TakesNewRounds number rounds Locks (λ scheme.
    MatchBool (length numbers == 3)
    (PutsHash password (salted scheme numbers) budget (token []) old report new)
    (MatchResult (admission budget (length old) password (salted scheme (0 ∷ 0 ∷ 0 ∷ [])))
    (λ hash_cost. Leaves (refused NoRandomNumbers hash_cost) (token []) old report new)
    (λ refusal. Leaves refusal (token []) old report new))))
