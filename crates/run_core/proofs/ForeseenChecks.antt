-- Lemmas for the clauses `foresees`, `checked` and `refutes` of `run_audit`, which say what the finding of an audit
-- means for later checks. For `foresees`: without rehashes, a check of the longest password costs what the audit says,
-- and checks of shorter ones cost no more, so no line with a field within the budget is costly. For `checked`
-- (`heeds_limit`): without a given budget, an audit also compares the cost for the empty password with the limit of the
-- policy. For `refutes`: a field that is not whole is the hash of no password, so a line with this field that is not
-- refused has the outcome `Misfit`.
use Rattle.std.proofs.Common.{◌≡◌, ◌≤◌, ◌<◌, ℕ, List, [], Ok, inl, inr, refl, sym, ap, subst, ◌∙◌, arith, length, Some}
use Rattle.std.proofs.lemmas.Option.{none-some}
use Rattle.rand_core.specs.Stream.{Stream}
use Rattle.crypt_core.specs.Fits.{Fits}
use Rattle.crypt_core.specs.Policies.{policy_limit}
use Rattle.crypt_core.specs.Readings.{IsReadOneWay}
use Rattle.crypt_core.specs.Settings.{SettingValue, Spells}
use Rattle.crypt_core.specs.StoredFields.{IsLocked, IsWhole}
use Rattle.crypt_core.specs.Work.{cost}
use Rattle.crypt_core.proofs.Refusals.{one_reading}
use Rattle.crypt_core.proofs.WholeHashes.{IsWhole-from_Fits}
use Rattle.crypt_core.proofs.WorkBounds.{cost-le-longest_password}
use Rattle.crypt_core.specs.Standings.{IsAbove, IsOverBudget, greatest_cost}
use Rattle.run_core.specs.Answers.{Answer, Hashing}
use Rattle.run_core.specs.JobOptions.{given_budget, without_rehash}
use Rattle.run_core.specs.LineAnswers.{ComesTo, IsCostly, IsPasswordAnswer}
use Rattle.run_core.specs.LineOptions.{Foresees, HeedsLimit, Refutes}
use Rattle.run_core.specs.Lines.{HasParts, IsSound, Parts}
use Rattle.run_core.specs.declared.answer.Outcome.{Outcome}
use Rattle.run_core.specs.declared.answer.Outcome.TheVariants.{Hashed, Match, Rehashed, Misfit, NoHash, Locked, Audited}
use Rattle.crypt_core.specs.declared.scheme.Scheme.{Scheme}
use Rattle.crypt_core.specs.declared.standing.Standing.TheVariants.{OverBudget}
use Rattle.run_core.specs.declared.job.Job.{Job}
use Rattle.run_core.specs.declared.line.Kind.TheVariants.{Check}
use Rattle.run_core.specs.declared.line.LineFault.TheVariants.{OverBudget}
use Rattle.run_core.proofs.UniqueParts.{parts_unique}
use Rattle.run_core.proofs.LineOutcomes.{Spells-unique, IsStored_from_Spells}
use Rattle.run_core.proofs.LineRules.{sound_not_refused, length-password-le}
use Rattle.run_core.proofs.LineOptions.{IsAbove-le}

-- If the maximum cost of a stored hash is not above the budget, no line to check with this hash is costly without
-- rehashes.
not_IsCostly-greatest_cost : (job : Job) (field : List ℕ) (kept : SettingValue) (line : List ℕ) (parts : Parts) → Spells field kept → IsReadOneWay field
    → ¬ IsAbove job.budget (greatest_cost kept) → HasParts Check line parts → parts.field ≡ Some field → ¬ IsCostly Check (without_rehash job) line
not_IsCostly-greatest_cost job field kept line parts spells once within has is costly =
    let same = parts_unique Check line costly.parts parts costly.cut has in
    let other : costly.parts.field ≡ Some field = ap (λ (p : Parts). p.field) same ∙ is in
    elim costly.cost [
      | inl made ↦ absurd (none-some field (sym made.0 ∙ other))
      | inr (spelled, found, spelled_is, found_spells, number_is) ↦
          let fields : spelled ≡ field = cc (spelled_is, other) in
          let one : found ≡ kept = Spells-unique field found kept once (subst (λ (f : List ℕ). Spells f found) fields found_spells) spells in
          let most = cost-le-longest_password kept (length costly.parts.password) (length-password-le Check line costly.parts costly.sound costly.cut) in
          within (IsAbove-le job.budget costly.number (greatest_cost kept) (omega (arith, number_is, ap (λ (s : SettingValue). cost s (length costly.parts.password)) one, most)) costly.above)
    ]

-- A hash that an audit finds within its budget puts no line of a check without rehashes over this budget.
pub foresees : (job : Job) → Foresees job
foresees job field scheme most OverBudget finds other checking same line parts has is = absurd (other refl)
foresees job field scheme most standing (kept, spells, is_scheme, is_number, stands) other checking same line parts has is =
    not_IsCostly-greatest_cost checking field kept line parts spells (one_reading field) (rw same (λ above. stands.0 (inl above))) has is

-- If no budget is given, and a hash is within the audit's own budget, its cost for the empty password is within the
-- limit of the policy.
cost-le-policy_limit : (new : Scheme) (budget : ℕ) (kept : SettingValue) → ¬ IsOverBudget new budget kept → budget ≡ 0 → cost kept 0 ≤ policy_limit new
cost-le-policy_limit new budget kept within default =
    let never : ¬ (policy_limit new < cost kept 0) = λ above. within (inr (default, above)) in
    omega (arith, never)

-- If no budget is given, a login can check such a hash within the limit of the policy, at least for the empty password.
pub heeds_limit : (job : Job) → HeedsLimit job
heeds_limit job field scheme most OverBudget finds other default = absurd (other refl)
heeds_limit job field scheme most standing (kept, spells, is_scheme, is_number, stands) other default =
    (kept, spells, cost-le-policy_limit job.maker.scheme (given_budget job) kept stands.0 default)

-- If the field of a line spells a setting but is not whole, the outcome of the line is `Misfit`.
ComesTo-not_whole : (job : Job) (stream : Stream) (parts : Parts) (field : List ℕ) (kept : SettingValue) (outcome : Outcome) (made : List Hashing)
    → parts.field ≡ Some field → Spells field kept → ¬ IsWhole field kept → ComesTo job parts stream outcome made → outcome ≡ Misfit
ComesTo-not_whole job stream parts field kept (Hashed hash) made is spells dead comes = absurd (none-some field (sym comes.0 ∙ is))
ComesTo-not_whole job stream parts field kept NoHash made is spells dead comes =
    let empty : field ≡ [] = cc (is, comes.0) in
    absurd ((IsStored_from_Spells field kept spells).0 empty)
ComesTo-not_whole job stream parts field kept Locked made is spells dead (locked, is_locked, begins, none) =
    let same : locked ≡ field = cc (is, is_locked) in
    absurd ((IsStored_from_Spells field kept spells).1 (subst IsLocked same begins))
ComesTo-not_whole job stream parts field kept Match made is spells dead (found, other, (is_found, found_spells), fits, recent, is_made) =
    let same : found ≡ field = cc (is, is_found) in
    absurd (dead (IsWhole-from_Fits parts.password field kept spells (subst (Fits parts.password) same (other, found_spells, fits))))
ComesTo-not_whole job stream parts field kept (Rehashed hash) made is spells dead (found, other, (is_found, found_spells), fits, outdated, is_hash, is_made) =
    let same : found ≡ field = cc (is, is_found) in
    absurd (dead (IsWhole-from_Fits parts.password field kept spells (subst (Fits parts.password) same (other, found_spells, fits))))
ComesTo-not_whole job stream parts field kept Misfit made is spells dead comes = refl
ComesTo-not_whole job stream parts field kept (Audited finding) made is spells dead comes = absurd comes

-- If the field of a line spells a setting but is not whole, and the line breaks no rule and is not costly, then its
-- answer is the verdict `no`. The other cases of `IsPasswordAnswer`, that the line is refused or costly, are excluded.
outcome-not_whole : (job : Job) (field : List ℕ) (kept : SettingValue) (line : List ℕ) (parts : Parts) → Spells field kept → ¬ IsWhole field kept
    → HasParts Check line parts → parts.field ≡ Some field → IsSound Check line → ¬ IsCostly Check job line
    → (number : ℕ) (stream : Stream) (answer : Answer) → IsPasswordAnswer Check job number line stream answer → answer.outcome ≡ Ok Misfit
outcome-not_whole job field kept line parts spells dead has is sound cheap number stream answer (inl (fault, refused, refusal_is)) =
    absurd (sound_not_refused Check line fault sound refused)
outcome-not_whole job field kept line parts spells dead has is sound cheap number stream answer (inr (inl (costly, refusal_is))) = absurd (cheap costly)
outcome-not_whole job field kept line parts spells dead has is sound cheap number stream answer (inr (inr (also, within, cut, found, outcome, comes, answer_is))) =
    let same = ap (λ (p : Parts). p.field) (parts_unique Check line cut parts found has) in
    ap (λ (a : Answer). a.outcome) answer_is ∙ ap Ok (ComesTo-not_whole job stream cut field kept outcome answer.hashings (same ∙ is) spells dead comes)

-- Every line with a dead hash that breaks no rule and is not costly gets the verdict `no`.
pub refutes : (job : Job) → Refutes job
refutes job field scheme most (kept, spells, is_scheme, is_number, stands) checking line parts has is sound cheap =
    outcome-not_whole checking field kept line parts spells stands.1 has is sound cheap
