-- What the private steps of hashing a password ensure. `made` is the result of such a step: a hash and its report, or
-- the report of a refusal.
use Rattle.std.specs.Prelude.{◌≡◌, ◌≢◌, ◌⊎◌, ◌<◌, ◌≤◌, ◌==◌, ℕ, List, [], ◌∷◌, length, MatchBool, MatchResult, Result, Ok, Err}
use Rattle.prims_core.specs.declared.meter.Work.{Work}
use Rattle.crypt_core.specs.Crypt.{crypt}
use Rattle.crypt_core.specs.MadeSettings.{salted}
use Rattle.crypt_core.specs.Settings.{SettingValue}
use Rattle.crypt_core.specs.Work.{work}
use Rattle.call_core.specs.Arguments.{OnPassword, OnScheme, OnSetting, Refuses, TakesNewRounds}
use Rattle.call_core.specs.Hashes.{admission}
use Rattle.call_core.specs.Reports.{LacksMemory, Leaves, refused, succeeded}
use Rattle.call_core.specs.declared.reason.Reason.{Reason}
use Rattle.call_core.specs.declared.reason.Reason.TheVariants.{NoRandomNumbers}
use Rattle.call_core.specs.declared.report.Report.{Report}

-- IsRequestRefused password number rounds report: the report of a login or a new hash whose password, method or rounds
-- are refused.
abbrev pub IsRequestRefused : List ℕ → ℕ → ℕ → Report → Type 0
IsRequestRefused password number rounds report =
    OnPassword password (Refuses report) (OnScheme TakesNewRounds number rounds (Refuses report) (λ scheme. ⊥))

-- MakesHash password kept budget room made: `made` is the hash and its report, or the report of the first refusal in
-- the order budget, capacity, memory. The hash and a zero byte fit into `room` bytes.
abbrev pub MakesHash : List ℕ → SettingValue → ℕ → ℕ → Result (List ℕ × Report) Report → Type 0
MakesHash password kept budget room made =
    let text = crypt password kept in
    MatchResult (admission budget room password kept)
    (λ hash_cost. (made ≡ Ok (text, succeeded (length text) hash_cost (work password kept)))
    ⊎ ((report : Report) × (made ≡ Err report) × LacksMemory kept hash_cost report))
    (λ refusal. made ≡ Err refusal)

-- MakesHashOf password text budget room made: `made` is the hash with the setting in `text`, or the report of the first
-- refusal.
abbrev pub MakesHashOf : List ℕ → List ℕ → ℕ → ℕ → Result (List ℕ × Report) Report → Type 0
MakesHashOf password text budget room made =
    let Fails = λ (reason : Reason). made ≡ Err (refused reason 0) in
    OnPassword password Fails (OnSetting text Fails (λ kept. MakesHash password kept budget room made))

-- MakesHashAnew password number rounds numbers budget room made: `made` is the hash with a new setting, or the report
-- of the first refusal. Without exactly three random numbers it is always a refusal.
abbrev pub MakesHashAnew : List ℕ → ℕ → ℕ → List ℕ → ℕ → ℕ → Result (List ℕ × Report) Report → Type 0
MakesHashAnew password number rounds numbers budget room made =
    let Fails = λ (reason : Reason). made ≡ Err (refused reason 0) in
    OnPassword password Fails (OnScheme TakesNewRounds number rounds Fails (λ scheme.
    MatchBool (length numbers == 3)
    (MakesHash password (salted scheme numbers) budget room made)
    (MatchResult (admission budget room password (salted scheme (0 ∷ 0 ∷ 0 ∷ [])))
    (λ hash_cost. made ≡ Err (refused NoRandomNumbers hash_cost))
    (λ refusal. made ≡ Err refusal))))

-- IsReported budget room done made: what the report in `made` says, where `done` is everything that the meter counted.
-- Either a hash was made that costs at most the budget and fits, with a zero byte, into `room` bytes; or no hash was
-- made, and the report has an error. The reported work is `done`.
abbrev pub IsReported : ℕ → ℕ → Work → Result (List ℕ × Report) Report → Type 0
IsReported budget room done (Ok (text, report)) =
    (report.error ≡ 0) × (report.length ≡ length text) × (length text < room) × (report.cost ≤ budget)
    × (done ≡ report.work)
IsReported budget room done (Err report) = (report.error ≢ 0) × (done ≡ report.work)

-- IsPut made lock old report new: the call returns the report in `made`, and writes the hash in it to `out`, or `lock`
-- after a refusal.
abbrev pub IsPut : Result (List ℕ × Report) Report → List ℕ → List ℕ → Report → List ℕ → Type 0
IsPut (Ok (text, reported)) lock old report new = Leaves reported text old report new
IsPut (Err refusal) lock old report new = Leaves refusal lock old report new
