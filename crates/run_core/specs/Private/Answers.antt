-- What the functions that find the outcome of a line return, the texts from which its answer is rendered, and its count
-- in the tally.
use Rattle.std.specs.Prelude.{◌≡◌, ◌≢◌, Bool, ℕ, ◌+◌, ◌<◌, true, false, List, [], ◌∷◌, ◌++◌, decimal, length, if◌then◌else◌, Option, Some, None, Result, Ok, Err}
use Rattle.rand_core.specs.Stream.{Stream}
use Rattle.prims_core.specs.Work.{no_work}
use Rattle.prims_core.specs.declared.meter.Work.{Work}
use Rattle.crypt_core.specs.Crypt.{crypt}
use Rattle.crypt_core.specs.declared.hash.HashFault.{HashFault}
use Rattle.crypt_core.specs.StoredFields.{StoredHash}
use Rattle.crypt_core.specs.declared.stored.StoredField.{StoredField}
use Rattle.crypt_core.specs.declared.stored.StoredField.TheVariants as fields
use Rattle.run_core.specs.Answers.{Answer, Hashing, IsRefusedAmong, after_work, hashing, is_misfit, is_refusal, new_hash, new_hashing, stream_left, work_text}
use Rattle.run_core.specs.DeviceCalls.{as_count}
use Rattle.run_core.specs.LineAnswers.{IsAnswer, answer_of, refusal}
use Rattle.run_core.specs.Makers.{made_cost_by}
use Rattle.run_core.specs.JobOptions.{check_cost, is_outdated}
use Rattle.run_core.specs.declared.answer.Answered.{Answered}
use Rattle.run_core.specs.declared.answer.Outcome.{Outcome}
use Rattle.run_core.specs.declared.answer.Outcome.TheVariants.{Hashed, Match, Rehashed, Misfit, NoHash, Locked}
use Rattle.run_core.specs.declared.job.Job.{Job}
use Rattle.run_core.specs.declared.line.Kind.{Kind}
use Rattle.run_core.specs.declared.line.LineFault.{LineFault}
use Rattle.run_core.specs.declared.line.LineFault.TheVariants.{OverBudget}
use Rattle.crypt_core.specs.Standings.{IsAbove}
use Rattle.run_core.specs.declared.tally.Tally.{Tally}
use Rattle.run_core.specs.Texts.{colon}

-- IsRaisedBelow limit before after: each count has grown by less than `limit`.
pub record IsRaisedBelow (limit : ℕ) (before after : Work) : Type 0 where
  pub digests : after.digests < before.digests + limit
  pub bytes : after.bytes < before.bytes + limit
  pub mixes : after.mixes < before.mixes + limit
  pub table : after.table < before.table + limit
  pub scratch : after.scratch < before.scratch + limit

-- field_cost job field password_length is the maximum cost of the hashes for a line with this field and a password of
-- this length.
abbrev pub field_cost : Job → Option StoredField → ℕ → ℕ
field_cost job None password_length = made_cost_by job.maker password_length
field_cost job (Some (fields.Hash stored)) password_length = check_cost job stored.setting password_length
field_cost job (Some other) password_length = 0

-- IsChecked job password stored stream hashings outcome: checking the password against its stored hash has this
-- outcome, for which these hashes are computed.
abbrev pub IsChecked : Job → List ℕ → StoredHash → Stream → List Hashing → Outcome → Type 0
IsChecked job password stored stream hashings Misfit =
    (crypt password stored.setting ≢ stored.text) × (hashings ≡ hashing password stored.setting stream ∷ [])
IsChecked job password stored stream hashings Match =
    (crypt password stored.setting ≡ stored.text) × (is_outdated job stored.setting ≡ false)
    × (hashings ≡ hashing password stored.setting stream ∷ [])
IsChecked job password stored stream hashings (Rehashed hash) =
    (crypt password stored.setting ≡ stored.text) × (is_outdated job stored.setting ≡ true) × (hash ≡ new_hash job password stream)
    × (hashings ≡ hashing password stored.setting stream ∷ new_hashing job password stream ∷ [])
IsChecked job password stored stream hashings outcome = ⊥

-- IsSettled job password field stream hashings outcome: a line with this password and this field has this outcome, for
-- which these hashes are computed.
abbrev pub IsSettled : Job → List ℕ → Option StoredField → Stream → List Hashing → Outcome → Type 0
IsSettled job password None stream hashings outcome =
    (outcome ≡ Hashed (new_hash job password stream)) × (hashings ≡ new_hashing job password stream ∷ [])
IsSettled job password (Some fields.Empty) stream hashings outcome = (outcome ≡ NoHash) × (hashings ≡ [])
IsSettled job password (Some fields.Locked) stream hashings outcome = (outcome ≡ Locked) × (hashings ≡ [])
IsSettled job password (Some (fields.Hash stored)) stream hashings outcome = IsChecked job password stored stream hashings outcome

-- Settles job password field stream before after new_stream result: for a line with this password and this field,
-- `hash_within_budget` or `check_within_budget` returned this result. It is an outcome, a refusal for the line's cost,
-- or an error because scrypt could not allocate memory. After such an error, `outcome` is what the outcome would have
-- been otherwise.
abbrev pub Settles : Job → List ℕ → Option StoredField → Stream → Work → Work → Stream → Result (Result Outcome LineFault) HashFault → Type 0
Settles job password field stream before after new_stream (Ok (Ok outcome)) =
    (¬ IsAbove job.budget (field_cost job field (length password)))
    × (hashings : List Hashing) × IsSettled job password field stream hashings outcome
    × (after ≡ after_work before hashings) × (new_stream ≡ stream_left stream hashings)
Settles job password field stream before after new_stream (Ok (Err fault)) =
    IsAbove job.budget (field_cost job field (length password)) × (fault ≡ OverBudget) × (after ≡ before) × (new_stream ≡ stream)
Settles job password field stream before after new_stream (Err fault) =
    (¬ IsAbove job.budget (field_cost job field (length password)))
    × (outcome : Outcome) × (hashings : List Hashing) × IsSettled job password field stream hashings outcome
    × IsRefusedAmong before hashings after new_stream

-- Concludes kind job line name stream before after new_stream result: `outcome_of` returned this result for a line with
-- this name, which breaks no rule. The result is right whatever the number of the line is. If scrypt could not allocate
-- memory, `outcome` is what the outcome would have been otherwise.
abbrev pub Concludes : Kind → Job → List ℕ → List ℕ → Stream → Work → Work → Stream → Result (Result Outcome LineFault) HashFault → Type 0
Concludes kind job line name stream before after new_stream (Ok (Ok outcome)) =
    (hashings : List Hashing) × ((number : ℕ) → IsAnswer kind job number line stream (answer_of job name outcome hashings))
    × (after ≡ after_work before hashings) × (new_stream ≡ stream_left stream hashings)
Concludes kind job line name stream before after new_stream (Ok (Err fault)) =
    ((number : ℕ) → IsAnswer kind job number line stream (refusal number fault)) × (after ≡ before) × (new_stream ≡ stream)
Concludes kind job line name stream before after new_stream (Err fault) =
    (outcome : Outcome) × (hashings : List Hashing) × ((number : ℕ) → IsAnswer kind job number line stream (answer_of job name outcome hashings))
    × IsRefusedAmong before hashings after new_stream

-- Renders job number answer next: `next` is the full answer to the line with this number, for which `answer` holds the
-- name, the outcome and the work, or the reason why the line is refused.
abbrev pub Renders : Job → ℕ → Result Answered LineFault → Answer → Type 0
Renders job number (Ok answered) next = (next ≡ answer_of job answered.name.now answered.outcome next.hashings)
    × (after_work no_work next.hashings ≡ answered.work)
Renders job number (Err fault) next = next ≡ refusal number fault

-- Decides kind job line stream before after new_stream result: `answer_line` returned this result for the line. The
-- result is right whatever the number of the line is. If scrypt could not allocate memory, `next` is what the answer
-- would have been otherwise.
abbrev pub Decides : Kind → Job → List ℕ → Stream → Work → Work → Stream → Result (Result Answered LineFault) HashFault → Type 0
Decides kind job line stream before after new_stream (Ok answer) = (number : ℕ) → (next : Answer)
    × IsAnswer kind job number line stream next × Renders job number answer next
    × (after ≡ after_work before next.hashings) × (new_stream ≡ stream_left stream next.hashings)
Decides kind job line stream before after new_stream (Err fault) = (number : ℕ) → (next : Answer)
    × IsAnswer kind job number line stream next × IsRefusedAmong before next.hashings after new_stream

-- ---- texts

-- front_by name is the name and a colon, or nothing for a single password, which has no name.
abbrev pub front_by : Option (List ℕ) → List ℕ
front_by None = []
front_by (Some name) = name ++ colon ∷ []

-- count_text count is a colon and the count in decimal.
abbrev pub count_text : ℕ → List ℕ
count_text count = colon ∷ decimal count

-- wanted_text wanted work is the `work_text` of this work if `wanted` is true, else empty.
abbrev pub wanted_text : Bool → Work → List ℕ
wanted_text wanted work = if wanted then work_text work else []

-- ---- the tally

-- counted tally outcome is the tally after one more line with this outcome.
abbrev pub counted : Tally → Result Outcome LineFault → Tally
counted tally outcome = record {
  lines = tally.lines + 1;
  refused = tally.refused + as_count (is_refusal outcome);
  misfits = tally.misfits + as_count (is_misfit outcome);
}

-- outcome_of answer is the outcome that the answer holds, or the reason why the line is refused.
abbrev pub outcome_of : Result Answered LineFault → Result Outcome LineFault
outcome_of (Ok answered) = Ok answered.outcome
outcome_of (Err fault) = Err fault
