-- What a budget and rehashes change in the answers to lines, and what they leave unchanged; and what an audit says
-- about later checks.
use Rattle.std.specs.Prelude.{◌≡◌, ◌≢◌, ◌≤◌, ℕ, ◌⊎◌, ◌↔◌, List, true, Some, Ok}
use Rattle.rand_core.specs.Stream.{Stream}
use Rattle.crypt_core.specs.Crypt.{crypt}
use Rattle.crypt_core.specs.Policies.{chosen_budget, policy_limit}
use Rattle.crypt_core.specs.Settings.{SettingValue, Spells}
use Rattle.crypt_core.specs.StoredFields.{IsStored}
use Rattle.crypt_core.specs.Work.{cost}
use Rattle.crypt_core.specs.declared.scheme.Scheme.{Scheme}
use Rattle.crypt_core.specs.declared.standing.Standing.{Standing}
use Rattle.crypt_core.specs.declared.standing.Standing.TheVariants.{OverBudget, Dead}
use Rattle.run_core.specs.Answers.{Answer}
use Rattle.crypt_core.specs.Findings.{Finds}
use Rattle.run_core.specs.JobOptions.{given_budget, is_outdated, without_budget, without_rehash}
use Rattle.run_core.specs.LineAnswers.{HasSetting, IsAnswer, IsCostly, refusal}
use Rattle.run_core.specs.Lines.{HasParts, IsSound, Parts}
use Rattle.run_core.specs.declared.answer.Outcome.TheVariants.{Misfit}
use Rattle.crypt_core.specs.declared.finding.Finding.TheVariants.{Hash}
use Rattle.run_core.specs.declared.job.Job.{Job}
use Rattle.run_core.specs.declared.line.Kind.{Kind}
use Rattle.run_core.specs.declared.line.Kind.TheVariants.{Check}
use Rattle.run_core.specs.declared.line.LineFault.TheVariants.{OverBudget}

-- ---- a budget

-- OnlyRefuses kind job: a budget changes only the answers to costly lines.
--   costly    a costly line is refused as `OverBudget`
--   others    every other line gets the answer that it gets without a budget
--   unhashed  a line whose field is empty or locked is not costly
pub record OnlyRefuses (kind : Kind) (job : Job) : Type 0 where
  pub costly : (number : ℕ) → (line : List ℕ) → (stream : Stream) → (answer : Answer) → IsCostly kind job line
      → IsAnswer kind job number line stream answer → answer ≡ refusal number OverBudget
  pub others : (number : ℕ) → (line : List ℕ) → (stream : Stream) → (answer : Answer) → ¬ IsCostly kind job line
      → IsAnswer kind job number line stream answer ↔ IsAnswer kind (without_budget job) number line stream answer
  pub unhashed : (line : List ℕ) → (parts : Parts) → (field : List ℕ) → HasParts kind line parts
      → parts.field ≡ Some field → ¬ IsStored field → ¬ IsCostly kind job line

-- ---- rehashes

-- IsRenewable kind job line: rehashes can change the answer to this line. It breaks no rule, its field spells a setting
-- that is out of date, and its password matches or the line is costly.
pub record IsRenewable (kind : Kind) (job : Job) (line : List ℕ) : Type 0 where
  pub parts : Parts
  pub field : List ℕ
  pub kept : SettingValue
  pub sound : IsSound kind line
  pub cut : HasParts kind line parts
  pub spelled : HasSetting parts field kept
  pub outdated : is_outdated job kept ≡ true
  pub fits_or_costly : (crypt parts.password kept ≡ field) ⊎ IsCostly kind job line

-- OnlyRenews kind job: every line that is not renewable gets the answer that it gets without rehashes.
abbrev pub OnlyRenews : Kind → Job → Type 0
OnlyRenews kind job = (number : ℕ) → (line : List ℕ) → (stream : Stream) → (answer : Answer) → ¬ IsRenewable kind job line
    → IsAnswer kind job number line stream answer ↔ IsAnswer kind (without_rehash job) number line stream answer

-- RenewsNone kind job: every line gets the answer that it gets without rehashes.
abbrev pub RenewsNone : Kind → Job → Type 0
RenewsNone kind job = (number : ℕ) → (line : List ℕ) → (stream : Stream) → (answer : Answer)
    → IsAnswer kind job number line stream answer ↔ IsAnswer kind (without_rehash job) number line stream answer

-- ---- audits

-- Foresees job: if an audit finds that a field is a hash within the audit's budget, then no line with this field is
-- over the same budget in a check without rehashes, whatever its password is.
abbrev pub Foresees : Job → Type 0
Foresees job = (field : List ℕ) → (scheme : Scheme) → (most : ℕ) → (standing : Standing)
    → Finds job.maker.scheme (given_budget job) field (Hash scheme most standing) → standing ≢ OverBudget
    → (checking : Job) → checking.budget ≡ Some (chosen_budget job.maker.scheme (given_budget job))
    → (line : List ℕ) → (parts : Parts) → HasParts Check line parts → parts.field ≡ Some field
    → ¬ IsCostly Check (without_rehash checking) line

-- HeedsLimit job: if an audit for which no budget is given finds that a field is a hash within its own budget, then a
-- login whose new hashes have the job's scheme can check this hash within the limit of the policy, at least for the
-- empty password.
abbrev pub HeedsLimit : Job → Type 0
HeedsLimit job = (field : List ℕ) → (scheme : Scheme) → (most : ℕ) → (standing : Standing)
    → Finds job.maker.scheme (given_budget job) field (Hash scheme most standing) → standing ≢ OverBudget → given_budget job ≡ 0
    → (kept : SettingValue) × Spells field kept × (cost kept 0 ≤ policy_limit job.maker.scheme)

-- Refutes job: if an audit finds that a field is a dead hash, then in any check every line with this field that breaks
-- no rule and is not costly gets the verdict `no`, whatever its password is.
abbrev pub Refutes : Job → Type 0
Refutes job = (field : List ℕ) → (scheme : Scheme) → (most : ℕ) → Finds job.maker.scheme (given_budget job) field (Hash scheme most Dead)
    → (checking : Job) → (line : List ℕ) → (parts : Parts) → HasParts Check line parts → parts.field ≡ Some field
    → IsSound Check line → ¬ IsCostly Check checking line
    → (number : ℕ) → (stream : Stream) → (answer : Answer) → IsAnswer Check checking number line stream answer
    → answer.outcome ≡ Ok Misfit
