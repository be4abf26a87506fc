-- The answer to a password or a line, and the hashes that are computed for it.
use Rattle.std.specs.Prelude.{◌≡◌, ◌==◌, ◌&&◌, Bool, ℕ, List, [], ◌∷◌, ◌++◌, length, fold, count_by, flat_map, decimal, codes, if◌then◌else◌, true, false, Result, Ok, Err}
use Rattle.rand_core.specs.Stream.{Stream}
use Rattle.prims_core.specs.Work.{no_work}
use Rattle.prims_core.specs.declared.meter.Work.{Work}
use Rattle.crypt_core.specs.Crypt.{IsAfterFailedAllocation, crypt}
use Rattle.crypt_core.specs.Settings.{SettingValue}
use Rattle.crypt_core.specs.Work.{raised_by, work}
use Rattle.crypt_core.specs.Findings.{needs_care}
use Rattle.run_core.specs.Audits.{finding_text}
use Rattle.run_core.specs.Makers.{next_setting, stream_after}
use Rattle.run_core.specs.Texts.{as_line, colon}
use Rattle.run_core.specs.declared.answer.Outcome.{Outcome}
use Rattle.run_core.specs.declared.answer.Outcome.TheVariants.{Hashed, Match, Rehashed, Misfit, NoHash, Locked, Audited}
use Rattle.run_core.specs.declared.job.Job.{Job}
use Rattle.run_core.specs.declared.line.LineFault.{LineFault}
use Rattle.run_core.specs.declared.tally.Tally.{Tally}

-- ---- the hashes for an answer

-- A `Hashing` is one hash that a run computes.
--   password  the password
--   setting   the setting of the hash
--   stream    the random numbers that are left when hashing begins
pub record Hashing : Type 0 where
  pub password : List ℕ
  pub setting : SettingValue
  pub stream : Stream

-- hashing password kept stream is the `Hashing` with these parts.
abbrev pub hashing : List ℕ → SettingValue → Stream → Hashing
hashing password kept stream = record { password = password; setting = kept; stream = stream }

-- after_work counts made is `counts` plus the work of the hashes `made`.
abbrev pub after_work : Work → List Hashing → Work
after_work counts made = fold (λ before next. raised_by before (work next.password next.setting)) counts made

-- stream_left stream made is what is left of the random numbers `stream` after the hashes `made`.
abbrev pub stream_left : Stream → List Hashing → Stream
stream_left stream made = fold (λ before next. next.stream) stream made

-- IsRefusedAmong before hashings after stream: these hashes were computed in order, up to one for which scrypt could
-- not allocate memory.
--   before, after  the counts before and after
--   stream         the random numbers that are left
abbrev pub IsRefusedAmong : Work → List Hashing → Work → Stream → Type 0
IsRefusedAmong before hashings after stream =
    (made : List Hashing) × (next : Hashing) × (others : List Hashing) × (hashings ≡ made ++ next ∷ others)
    × IsAfterFailedAllocation (after_work before made) next.setting.scheme after × (stream ≡ next.stream)

-- ---- answers

-- An `Answer` is what a run does for a password or a line.
--   text      the bytes that it writes
--   outcome   the outcome that these bytes show, or the reason why the line is refused
--   hashings  the hashes that it computes, in order
pub record Answer : Type 0 where
  pub text : List ℕ
  pub outcome : Result Outcome LineFault
  pub hashings : List Hashing

-- is_refusal outcome is true if the line is refused. The message about it goes to `faults`; every other text goes to
-- `out`.
abbrev pub is_refusal : Result Outcome LineFault → Bool
is_refusal (Ok outcome) = false
is_refusal (Err fault) = true

-- is_misfit outcome is true if the password does not match its stored hash, or the audited account needs care.
abbrev pub is_misfit : Result Outcome LineFault → Bool
is_misfit (Ok Misfit) = true
is_misfit (Ok (Audited finding)) = needs_care finding
is_misfit outcome = false

-- texts answers is what a run writes to `out` for these answers.
abbrev pub texts : List Answer → List ℕ
texts answers = flat_map (λ answer. if is_refusal answer.outcome then [] else answer.text) answers

-- fault_texts answers is what a run writes to `faults` for these answers.
abbrev pub fault_texts : List Answer → List ℕ
fault_texts answers = flat_map (λ answer. if is_refusal answer.outcome then answer.text else []) answers

-- hashings_of answers is the list of all hashes that are computed for these answers, in order.
abbrev pub hashings_of : List Answer → List Hashing
hashings_of answers = flat_map (λ answer. answer.hashings) answers

-- tally_of answers is the tally of these answers: their number, the number of refused lines, and the number of verdicts
-- `no` and of accounts that need care.
abbrev pub tally_of : List Answer → Tally
tally_of answers = record {
  lines = length answers;
  refused = count_by (λ answer. is_refusal answer.outcome) answers;
  misfits = count_by (λ answer. is_misfit answer.outcome) answers;
}

-- tally_status tally is the exit status: 1 if a line was refused or got the verdict `no`, or if an account needs care,
-- else 0.
abbrev pub tally_status : Tally → ℕ
tally_status tally = if tally.refused == 0 && tally.misfits == 0 then 0 else 1

-- ---- texts

-- rendered outcome is the outcome as it is printed, without name and counts.
abbrev pub rendered : Outcome → List ℕ
rendered (Hashed hash) = hash
rendered Match = codes "ok"
rendered (Rehashed hash) = codes "ok" ++ colon ∷ hash
rendered Misfit = codes "no"
rendered NoHash = codes "none"
rendered Locked = codes "locked"
rendered (Audited finding) = finding_text finding

-- work_text work is the text `:digests:bytes:mixes:table` with the counts of `work`.
abbrev pub work_text : Work → List ℕ
work_text work = flat_map (λ count. colon ∷ decimal count) (work.digests ∷ work.bytes ∷ work.mixes ∷ work.table ∷ [])

-- shows_work outcome wanted is true if the answer shows counts: they are wanted, and the outcome is not the finding of
-- an audit.
abbrev pub shows_work : Outcome → Bool → Bool
shows_work (Audited finding) wanted = false
shows_work outcome wanted = wanted

-- counts_text wanted made is the `work_text` of these hashes if `wanted` is true, else empty.
abbrev pub counts_text : Bool → List Hashing → List ℕ
counts_text wanted made = if wanted then work_text (after_work no_work made) else []

-- ---- the hash of a password

-- new_hash job password stream is the hash of the password, as crypt(3) computes it with the next setting of the job.
abbrev pub new_hash : Job → List ℕ → Stream → List ℕ
new_hash job password stream = crypt password (next_setting job.maker stream)

-- new_hashing job password stream is the hash of the password with the job's next setting, as a `Hashing`. If the
-- setting gets a new salt, its random numbers are drawn before hashing begins.
abbrev pub new_hashing : Job → List ℕ → Stream → Hashing
new_hashing job password stream = hashing password (next_setting job.maker stream) (stream_after job.maker stream)

-- password_answer job password stream is the answer to a single password: its hash, followed by the counts of the work
-- if the job asks for them.
abbrev pub password_answer : Job → List ℕ → Stream → Answer
password_answer job password stream =
    let hash = new_hash job password stream in
    let made = new_hashing job password stream ∷ [] in
    record { text = as_line (hash ++ counts_text job.work made); outcome = Ok (Hashed hash); hashings = made }
