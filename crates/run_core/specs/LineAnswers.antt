-- The outcome of a line, which follows from its parts, and the answers to the lines of an input.
use Rattle.std.specs.Prelude.{◌≡◌, ◌≢◌, ℕ, ◌+◌, ◌⊎◌, ⊤, List, [], ◌∷◌, ◌++◌, length, codes, decimal, true, false, Some, None, Ok, Err}
use Rattle.rand_core.specs.Stream.{Stream}
use Rattle.crypt_core.specs.Crypt.{crypt}
use Rattle.crypt_core.specs.Settings.{SettingValue, Spells}
use Rattle.crypt_core.specs.StoredFields.{IsLocked}
use Rattle.crypt_core.specs.Standings.{IsAbove}
use Rattle.run_core.specs.Answers.{Answer, Hashing, counts_text, hashing, new_hash, new_hashing, rendered, shows_work, stream_left}
use Rattle.crypt_core.specs.Findings.{Finds}
use Rattle.run_core.specs.JobOptions.{check_cost, given_budget, is_outdated}
use Rattle.run_core.specs.Faults.{line_fault_text}
use Rattle.run_core.specs.Lines.{Parts, HasParts, IsLineRefused, IsSound}
use Rattle.run_core.specs.Makers.{made_cost_by}
use Rattle.run_core.specs.Texts.{as_line, colon}
use Rattle.run_core.specs.declared.answer.Outcome.{Outcome}
use Rattle.run_core.specs.declared.answer.Outcome.TheVariants.{Hashed, Match, Rehashed, Misfit, NoHash, Locked, Audited}
use Rattle.run_core.specs.declared.job.Job.{Job}
use Rattle.crypt_core.specs.declared.finding.Finding.{Finding}
use Rattle.run_core.specs.declared.line.Kind.{Kind}
use Rattle.run_core.specs.declared.line.Kind.TheVariants.{Audit}
use Rattle.run_core.specs.declared.line.LineFault.{LineFault}
use Rattle.run_core.specs.declared.line.LineFault.TheVariants.{OverBudget}

-- ---- the outcome of a line

-- HasCost job parts number: a line with these parts costs at most `number`. Without a field, `number` is the cost of
-- hashing the password with a setting that the job makes. With a field that spells a setting, it is the cost of the
-- check with this setting. With any other field, the line has no cost: this holds for no number.
abbrev pub HasCost : Job → Parts → ℕ → Type 0
HasCost job parts number =
    ((parts.field ≡ None) × (number ≡ made_cost_by job.maker (length parts.password)))
    ⊎ ((field : List ℕ) × (kept : SettingValue) × (parts.field ≡ Some field) × Spells field kept
    × (number ≡ check_cost job kept (length parts.password)))

-- IsCostly kind job line: the line, which is to be hashed or checked, breaks no rule but can cost more than the budget.
pub record IsCostly (kind : Kind) (job : Job) (line : List ℕ) : Type 0 where
  pub parts : Parts
  pub sound : IsSound kind line
  pub cut : HasParts kind line parts
  pub number : ℕ
  pub cost : HasCost job parts number
  pub above : IsAbove job.budget number

-- HasSetting parts field kept: the line with these parts has this field, which spells the setting `kept`.
abbrev pub HasSetting : Parts → List ℕ → SettingValue → Type 0
HasSetting parts field kept = (parts.field ≡ Some field) × Spells field kept

-- ComesTo job parts stream outcome made: a line to hash or to check with these parts has this outcome, for which the
-- hashes `made` are computed in order.
--   Hashed    there is no field, and the password is hashed with a setting that the job makes
--   NoHash    the field is empty
--   Locked    the field begins with `!` or `*`
--   Match     hashing the password with the setting in the field reproduces the field, and the setting is not out of
--             date or the job asks for no rehashes
--   Rehashed  hashing the password with the setting in the field reproduces the field, but the setting is out of date
--             and the job asks for rehashes, so the password is hashed again
--   Misfit    hashing the password with the setting in the field does not reproduce the field
abbrev pub ComesTo : Job → Parts → Stream → Outcome → List Hashing → Type 0
ComesTo job parts stream (Hashed hash) made =
    (parts.field ≡ None) × (hash ≡ new_hash job parts.password stream) × (made ≡ new_hashing job parts.password stream ∷ [])
ComesTo job parts stream NoHash made = (parts.field ≡ Some []) × (made ≡ [])
ComesTo job parts stream Locked made = (field : List ℕ) × (parts.field ≡ Some field) × IsLocked field × (made ≡ [])
ComesTo job parts stream Match made = (field : List ℕ) × (kept : SettingValue) × HasSetting parts field kept
    × (crypt parts.password kept ≡ field) × (is_outdated job kept ≡ false) × (made ≡ hashing parts.password kept stream ∷ [])
ComesTo job parts stream (Rehashed hash) made = (field : List ℕ) × (kept : SettingValue) × HasSetting parts field kept
    × (crypt parts.password kept ≡ field) × (is_outdated job kept ≡ true) × (hash ≡ new_hash job parts.password stream)
    × (made ≡ hashing parts.password kept stream ∷ new_hashing job parts.password stream ∷ [])
ComesTo job parts stream Misfit made = (field : List ℕ) × (kept : SettingValue) × HasSetting parts field kept
    × (crypt parts.password kept ≢ field) × (made ≡ hashing parts.password kept stream ∷ [])
ComesTo job parts stream (Audited finding) made = ⊥

-- ---- answers

-- answer_of job name outcome made is the answer to a line with this name and this outcome, for which the hashes `made`
-- are computed. Its text is the name, the outcome, and the counts of the hashes' work if they are shown.
abbrev pub answer_of : Job → List ℕ → Outcome → List Hashing → Answer
answer_of job name outcome made = record {
  text = as_line (name ++ colon ∷ rendered outcome ++ counts_text (shows_work outcome job.work) made);
  outcome = Ok outcome;
  hashings = made;
}

-- refusal number fault is the answer to the line with this number if it is refused for `fault`. No hash is computed.
abbrev pub refusal : ℕ → LineFault → Answer
refusal number fault = record {
  text = as_line (codes "mkpasswd: line " ++ decimal number ++ codes ": " ++ line_fault_text fault);
  outcome = Err fault;
  hashings = [];
}

-- IsPasswordAnswer kind job number line stream answer: this is the answer to the line with this number, which is to be
-- hashed or checked. If the line breaks a rule, it is refused for the first rule that it breaks. If it breaks none but
-- can cost more than the budget, it is refused as `OverBudget`. Otherwise the answer is its name and its outcome.
abbrev pub IsPasswordAnswer : Kind → Job → ℕ → List ℕ → Stream → Answer → Type 0
IsPasswordAnswer kind job number line stream answer =
    ((fault : LineFault) × IsLineRefused kind line fault × (answer ≡ refusal number fault))
    ⊎ ((IsCostly kind job line × (answer ≡ refusal number OverBudget))
    ⊎ (IsSound kind line × (¬ IsCostly kind job line) × (parts : Parts) × HasParts kind line parts
    × (outcome : Outcome) × ComesTo job parts stream outcome answer.hashings
    × (answer ≡ answer_of job parts.name outcome answer.hashings)))

-- IsAuditAnswer job number line answer: this is the answer to the line with this number, which is to be audited. If the
-- line breaks a rule, it is refused for the first rule that it breaks. Otherwise the answer is its name and what an
-- audit finds in its field. No hash is computed.
abbrev pub IsAuditAnswer : Job → ℕ → List ℕ → Answer → Type 0
IsAuditAnswer job number line answer =
    ((fault : LineFault) × IsLineRefused Audit line fault × (answer ≡ refusal number fault))
    ⊎ (IsSound Audit line × (parts : Parts) × HasParts Audit line parts × (field : List ℕ) × (parts.field ≡ Some field)
    × (finding : Finding) × Finds job.maker.scheme (given_budget job) field finding × (answer ≡ answer_of job parts.name (Audited finding) []))

-- IsAnswer kind job number line stream answer: this is the answer to the line with this number.
--   stream  the random numbers that are left before it
abbrev pub IsAnswer : Kind → Job → ℕ → List ℕ → Stream → Answer → Type 0
IsAnswer Audit job number line stream answer = IsAuditAnswer job number line answer
IsAnswer kind job number line stream answer = IsPasswordAnswer kind job number line stream answer

-- AreAnswers kind job number lines stream answers: these are the answers to these lines, which are numbered from
-- `number` on. The random numbers for each answer are those that the answer before it left.
abbrev pub AreAnswers : Kind → Job → ℕ → List (List ℕ) → Stream → List Answer → Type 0
AreAnswers kind job number [] stream [] = ⊤
AreAnswers kind job number (line ∷ lines) stream (answer ∷ answers) =
    IsAnswer kind job number line stream answer
    × AreAnswers kind job (number + 1) lines (stream_left stream answer.hashings) answers
AreAnswers kind job number lines stream answers = ⊥
