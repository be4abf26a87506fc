-- Lemmas for the clauses `budget` and `rehash` of `run_batch` and `run_check`, and for `options` of `RunsOne` in the
-- clause `runs` of `run_one`. A budget occurs in an answer only if the line is costly. For any other line,
-- `only_refuses` shows case by case that the answers with and without the budget are the same. Rehashes make a line
-- costly or change its outcome only if the setting in the field is out of date, and the password matches or the line is
-- costly. Such a line is renewable, and for any other line `only_renews` shows that the answers with and without
-- rehashes are the same. The run for a single password depends on neither option.
use Rattle.std.proofs.Common.{◌≡◌, ◌↔◌, ℕ, List, Result, inl, inr, refl, sym, ◌∙◌, arith, ◌≤◌, ◌⊎◌, Bool, true, false, true≢false, length, Option, None, Some}
use Rattle.std.specs.Prelude.{◌≢◌}
use Rattle.std.proofs.lemmas.Option.{none-some}
use Rattle.rand_core.specs.Stream.{Stream}
use Rattle.crypt_core.specs.Crypt.{crypt}
use Rattle.crypt_core.specs.Settings.{SettingValue}
use Rattle.crypt_core.specs.Standings.{IsAbove}
use Rattle.run_core.specs.Answers.{Answer, Hashing}
use Rattle.run_core.specs.JobOptions.{without_budget, without_rehash, check_cost, is_outdated}
use Rattle.run_core.specs.LineAnswers.{ComesTo, HasSetting, IsCostly, IsPasswordAnswer, refusal}
use Rattle.run_core.specs.LineOptions.{IsRenewable, OnlyRefuses, OnlyRenews, RenewsNone}
use Rattle.run_core.specs.Lines.{HasParts, IsSound, Parts}
use Rattle.run_core.specs.One.{EndsOne, RunsOne}
use Rattle.run_core.specs.Runs.{IsWithinTurns, RunState}
use Rattle.run_core.specs.declared.answer.Outcome.{Outcome}
use Rattle.run_core.specs.declared.answer.Outcome.TheVariants.{Hashed, Match, Rehashed, Misfit, NoHash, Locked, Audited}
use Rattle.crypt_core.specs.declared.standing.Standing.TheVariants.{OverBudget}
use Rattle.run_core.specs.declared.fault.RunFault.{RunFault}
use Rattle.run_core.specs.declared.job.Job.{Job}
use Rattle.run_core.specs.declared.job.PasswordFrom.{PasswordFrom}
use Rattle.run_core.specs.declared.job.PasswordFrom.TheVariants.{Word, Input}
use Rattle.run_core.specs.declared.line.Kind.{Kind}
use Rattle.run_core.specs.declared.line.Kind.TheVariants.{Batch, Audit}
use Rattle.run_core.specs.declared.line.LineFault.TheVariants.{OverBudget}
use Rattle.run_core.specs.declared.tally.Tally.{Tally}
use Rattle.run_core.proofs.LineOutcomes.{not_IsCostly-unstored}
use Rattle.run_core.proofs.LineRules.{sound_not_refused}

-- ---- a budget

-- Without a budget, no line is costly.
not_IsCostly-without_budget : (kind : Kind) (job : Job) (line : List ℕ) → ¬ IsCostly kind (without_budget job) line
not_IsCostly-without_budget kind job line costly = costly.above

-- A budget does not change the outcome of a line with these parts.
ComesTo-without_budget : (job : Job) (parts : Parts) (stream : Stream) (outcome : Outcome) (made : List Hashing)
    → ComesTo job parts stream outcome made ↔ ComesTo (without_budget job) parts stream outcome made
ComesTo-without_budget job parts stream (Hashed hash) made = ((λ comes. comes), λ comes. comes)
ComesTo-without_budget job parts stream outcome made = ((λ comes. comes), λ comes. comes)

-- In the patterns on `IsPasswordAnswer`, `inl ..` is a line that is refused because it breaks a rule, `inr (inl ..)`
-- one that is costly, and `inr (inr ..)` one with an outcome.

module _ (kind : Kind) (job : Job) (number : ℕ) (line : List ℕ) (stream : Stream) (answer : Answer) where
  -- If a line is not costly, an answer to it is also an answer without the budget.
  IsPasswordAnswer-drop_budget : ¬ IsCostly kind job line → IsPasswordAnswer kind job number line stream answer → IsPasswordAnswer kind (without_budget job) number line stream answer
  IsPasswordAnswer-drop_budget cheap (inl refused) = inl refused
  IsPasswordAnswer-drop_budget cheap (inr (inl (costly, is))) = absurd (cheap costly)
  IsPasswordAnswer-drop_budget cheap (inr (inr (sound, within, parts, cut, outcome, comes, is))) =
      inr (inr (sound, not_IsCostly-without_budget kind job line, parts, cut, outcome, (ComesTo-without_budget job parts stream outcome answer.hashings).0 comes, is))

  -- If a line is not costly, an answer to it without the budget is also an answer with the budget.
  IsPasswordAnswer-add_budget : ¬ IsCostly kind job line → IsPasswordAnswer kind (without_budget job) number line stream answer → IsPasswordAnswer kind job number line stream answer
  IsPasswordAnswer-add_budget cheap (inl refused) = inl refused
  IsPasswordAnswer-add_budget cheap (inr (inl (costly, is))) = absurd costly.above
  IsPasswordAnswer-add_budget cheap (inr (inr (sound, within, parts, cut, outcome, comes, is))) =
      inr (inr (sound, cheap, parts, cut, outcome, (ComesTo-without_budget job parts stream outcome answer.hashings).1 comes, is))

  -- A costly line is refused as `OverBudget`.
  costly-refused : IsCostly kind job line → IsPasswordAnswer kind job number line stream answer → answer ≡ refusal number OverBudget
  costly-refused costly (inl (fault, refused, is)) = absurd (sound_not_refused kind line fault costly.sound refused)
  costly-refused costly (inr (inl (other, is))) = is
  costly-refused costly (inr (inr (sound, cheap, parts, cut, outcome, comes, is))) = absurd (cheap costly)

-- A budget changes only the answers to costly lines.
pub only_refuses : (kind : Kind) (job : Job) → kind ≢ Audit → OnlyRefuses kind job
only_refuses Audit job unaudited = absurd (unaudited refl)
only_refuses kind job unaudited = record {
  costly = costly-refused kind job;
  others = λ number line stream answer cheap.
      (IsPasswordAnswer-drop_budget kind job number line stream answer cheap, IsPasswordAnswer-add_budget kind job number line stream answer cheap);
  unhashed = not_IsCostly-unstored kind job;
}

-- ---- a single password

-- A run for a single password ends in the same way without a budget and without rehashes.
EndsOne-without_options : {I O E : Type 0} (turns : ℕ) (job : Job) (from : PasswordFrom) (old new : RunState I O E) (result : Result Tally RunFault)
    → EndsOne turns job from old new result → EndsOne turns (without_rehash (without_budget job)) from old new result
EndsOne-without_options turns job (Word word) old new result ends = ends
EndsOne-without_options turns job Input old new result ends = ends

pub runs_one : {I O E : Type 0} (turns : ℕ) (job : Job) (from : PasswordFrom) (old new : RunState I O E) (result : Result Tally RunFault)
    → EndsOne turns job from old new result → IsWithinTurns turns old new → RunsOne turns job from old new result
runs_one turns job from old new result ends within = record {
  ends = ends;
  options = EndsOne-without_options turns job from old new result ends;
  within_turns = within;
}

-- ---- rehashes

-- A check with rehashes costs at least as much as one without.
check_cost-without_rehash-le : (job : Job) (kept : SettingValue) (password : ℕ)
    → check_cost (without_rehash job) kept password ≤ check_cost job kept password
check_cost-without_rehash-le job kept password = omega arith

-- If a cost is above the budget, so is any higher cost.
pub IsAbove-le : (budget : Option ℕ) (number more : ℕ) → number ≤ more → IsAbove budget number → IsAbove budget more
IsAbove-le None number more at_most above = above
IsAbove-le (Some budget) number more at_most above = omega (arith, at_most, above)

module _ (kind : Kind) (job : Job) (line : List ℕ) (stream : Stream) where
  -- A line that is costly without rehashes is costly with them. If it has no field, rehashes do not change its cost,
  -- which is that of hashing its password. If its field spells a setting, rehashes can only raise the cost of its
  -- check.
  IsCostly-add_rehash : IsCostly kind (without_rehash job) line → IsCostly kind job line
  IsCostly-add_rehash costly = elim costly.cost [
    | inl made ↦ record { parts = costly.parts; sound = costly.sound; cut = costly.cut; number = costly.number; cost = inl made; above = costly.above }
    | inr (field, kept, has, spells, is) ↦ record {
      parts = costly.parts;
      sound = costly.sound;
      cut = costly.cut;
      number = check_cost job kept (length costly.parts.password);
      cost = inr (field, kept, has, spells, refl);
      above = IsAbove-le job.budget costly.number _ (rw is (check_cost-without_rehash-le job kept (length costly.parts.password))) costly.above;
    }
  ]

  module _ (not_renewable : ¬ IsRenewable kind job line) where
    -- If a line breaks no rule and is not renewable, but its password matches or it is costly, then the setting in its
    -- field is not out of date.
    is_outdated-not_renewable : (parts : Parts) (field : List ℕ) (kept : SettingValue) → IsSound kind line → HasParts kind line parts → HasSetting parts field kept
        → (crypt parts.password kept ≡ field) ⊎ IsCostly kind job line → is_outdated job kept ≡ false
    is_outdated-not_renewable parts field kept sound cut spelled why = go (is_outdated job kept) refl
      where
        go : (outdated : Bool) → is_outdated job kept ≡ outdated → is_outdated job kept ≡ false
        go true is = absurd (not_renewable (record {
          parts = parts;
          field = field;
          kept = kept;
          sound = sound;
          cut = cut;
          spelled = spelled;
          outdated = is;
          fits_or_costly = why;
        }))
        go false is = is

    -- If the stored setting is not out of date, a check costs the same with and without rehashes.
    check_cost-not_outdated : (kept : SettingValue) (password : ℕ) → is_outdated job kept ≡ false
        → check_cost job kept password ≡ check_cost (without_rehash job) kept password
    check_cost-not_outdated kept password is = rw is refl

    -- If a line is not renewable but costly with rehashes, it is costly without them. Its cost is the same in both
    -- cases: that of hashing its password if it has no field, and else that of its check.
    IsCostly-drop_rehash : IsCostly kind job line → IsCostly kind (without_rehash job) line
    IsCostly-drop_rehash costly = record {
      parts = costly.parts;
      sound = costly.sound;
      cut = costly.cut;
      number = costly.number;
      cost = elim costly.cost [
        | inl made ↦ inl made
        | inr (field, kept, has, spells, is) ↦
            inr (field, kept, has, spells, is ∙ check_cost-not_outdated kept _ (is_outdated-not_renewable costly.parts field kept costly.sound costly.cut (has, spells) (inr costly)))
      ];
      above = costly.above;
    }

    -- A line that breaks no rule and is not renewable has the same outcome with and without rehashes. The outcome is
    -- never `Rehashed`.
    ComesTo-without_rehash : (parts : Parts) (outcome : Outcome) (made : List Hashing) → IsSound kind line → HasParts kind line parts
        → ComesTo job parts stream outcome made ↔ ComesTo (without_rehash job) parts stream outcome made
    ComesTo-without_rehash parts (Hashed hash) made sound cut = ((λ comes. comes), λ comes. comes)
    ComesTo-without_rehash parts NoHash made sound cut = ((λ comes. comes), λ comes. comes)
    ComesTo-without_rehash parts Locked made sound cut = ((λ comes. comes), λ comes. comes)
    ComesTo-without_rehash parts Match made sound cut = (
      (λ (field, kept, spelled, same, new, is). (field, kept, spelled, same, refl, is)),
      λ (field, kept, spelled, same, new, is). (field, kept, spelled, same, is_outdated-not_renewable parts field kept sound cut spelled (inl same), is),
    )
    ComesTo-without_rehash parts (Rehashed hash) made sound cut = (
      (λ (field, kept, spelled, same, outdated, is_new, is). absurd (true≢false (sym outdated ∙ is_outdated-not_renewable parts field kept sound cut spelled (inl same)))),
      λ (field, kept, spelled, same, outdated, is_new, is). absurd (true≢false (sym outdated)),
    )
    ComesTo-without_rehash parts Misfit made sound cut = ((λ comes. comes), λ comes. comes)
    ComesTo-without_rehash parts (Audited finding) made sound cut = ((λ comes. comes), λ comes. comes)

    IsPasswordAnswer-drop_rehash : (number : ℕ) (answer : Answer) → IsPasswordAnswer kind job number line stream answer → IsPasswordAnswer kind (without_rehash job) number line stream answer
    IsPasswordAnswer-drop_rehash number answer (inl refused) = inl refused
    IsPasswordAnswer-drop_rehash number answer (inr (inl (costly, is))) = inr (inl (IsCostly-drop_rehash costly, is))
    IsPasswordAnswer-drop_rehash number answer (inr (inr (sound, cheap, parts, cut, outcome, comes, is))) =
        inr (inr (sound, (λ costly. cheap (IsCostly-add_rehash costly)), parts, cut, outcome, (ComesTo-without_rehash parts outcome answer.hashings sound cut).0 comes, is))

    IsPasswordAnswer-add_rehash : (number : ℕ) (answer : Answer) → IsPasswordAnswer kind (without_rehash job) number line stream answer → IsPasswordAnswer kind job number line stream answer
    IsPasswordAnswer-add_rehash number answer (inl refused) = inl refused
    IsPasswordAnswer-add_rehash number answer (inr (inl (costly, is))) = inr (inl (IsCostly-add_rehash costly, is))
    IsPasswordAnswer-add_rehash number answer (inr (inr (sound, cheap, parts, cut, outcome, comes, is))) =
        inr (inr (sound, (λ costly. cheap (IsCostly-drop_rehash costly)), parts, cut, outcome, (ComesTo-without_rehash parts outcome answer.hashings sound cut).1 comes, is))

-- Rehashing changes only the answers to lines whose hash can be renewed.
pub only_renews : (kind : Kind) (job : Job) → kind ≢ Audit → OnlyRenews kind job
only_renews Audit job unaudited = absurd (unaudited refl)
only_renews kind job unaudited = λ number line stream answer not_renewable.
    (IsPasswordAnswer-drop_rehash kind job line stream not_renewable number answer, IsPasswordAnswer-add_rehash kind job line stream not_renewable number answer)

-- A line to hash is never renewable, because it has no field.
not_IsRenewable-batch : (job : Job) (line : List ℕ) → ¬ IsRenewable Batch job line
not_IsRenewable-batch job line renewable = none-some renewable.field (sym renewable.cut.1 ∙ renewable.spelled.0)

pub batch_renews_none : (job : Job) → RenewsNone Batch job
batch_renews_none job number line stream answer = only_renews Batch job (λ same. cc) number line stream answer (not_IsRenewable-batch job line)
