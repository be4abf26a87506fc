-- The clause of `given_setting` at each return: for a rule that `Setting::make` finds broken, for rounds that were
-- clamped, and for a setting. The lemmas of GivenSettings do the work. Here the rounds that the code's `chosen_rounds`
-- returned are rewritten as those of the definition.
use Rattle.std.proofs.Common.{◌≡◌, ◌∙◌, ℕ, List, Ok, Err, Some, inr, refl, subst, sym, ap, true≢false}
use Rattle.std.specs.Prelude.{IsErrAnd, Result}
use Rattle.crypt_core.specs.MadeSettings.{BreaksMake, IsMakeRefused, made_scheme}
use Rattle.crypt_core.specs.Policies.{chosen_rounds}
use Rattle.crypt_core.specs.Settings.{SettingValue}
use Rattle.crypt_core.specs.declared.method.Method.{Method}
use Rattle.crypt_core.specs.declared.scheme.Scheme.{Scheme as Made}
use Rattle.crypt_core.specs.declared.setting.fault.MakeFault.{MakeFault}
use Rattle.call_core.specs.Arguments.{IsGivenReading, IsGivenRefused, chosen_method}
use Rattle.call_core.specs.Private.Settings.{IsClamped}
use Rattle.call_core.specs.Reasons.{make_reason}
use Rattle.call_core.specs.declared.reason.Reason.{Reason}
use Rattle.call_core.proofs.GivenSettings.{IsGivenRefused-clamped, IsGivenRefused_from_IsMakeRefused, not_BreaksGiven}
use Rattle.call_core.proofs.reading.given_setting.Goals as goal

-- `IsGivenReading` holds of a result that is an error with the reason for the first broken rule.
IsGivenReading-refused : (number rounds : ℕ) (salt : List ℕ) (method : Method) (fault : MakeFault) (result : Result SettingValue Reason)
    → chosen_method number ≡ Some method → IsGivenRefused method rounds salt fault → IsErrAnd result (λ reason. reason ≡ make_reason fault)
    → IsGivenReading number rounds salt result
IsGivenReading-refused number rounds salt method fault (Ok kept) named first is = absurd is
IsGivenReading-refused number rounds salt method fault (Err reason) named first is = inr (method, fault, named, first, is)

pub returns-in_err-setting : goal.returns-in_err-setting
returns-in_err-setting c =
    let method = c.in-Some.method in
    let salt = c.args.salt.now in
    let fault = c.in_err-setting.field-0.0 in
    let first : IsMakeRefused method (chosen_rounds method c.args.rounds) (Some salt) fault =
    subst (λ (rounds : ℕ). IsMakeRefused method rounds (Some salt) fault) c.chosen_rounds.ensures c.in_err-setting.ensures.refused in
    IsGivenReading-refused c.args.number c.args.rounds salt method fault c.from_residual.result (sym c.in-Some.ensures)
    (IsGivenRefused_from_IsMakeRefused method c.args.rounds salt fault first) c.from_residual.ensures.1

-- A setting made with the rounds that the code's `chosen_rounds` returned is made with those of the definition.
made_setting-chosen_rounds : (method : Method) (chosen rounds : ℕ) (salt : List ℕ) (kept : SettingValue) → chosen ≡ chosen_rounds method rounds
    → kept ≡ record { scheme = made_scheme method chosen; salt = salt }
    → kept ≡ record { scheme = made_scheme method (chosen_rounds method rounds); salt = salt }
made_setting-chosen_rounds method chosen rounds salt kept same is = is ∙ ap (λ (n : ℕ). record { scheme = made_scheme method n; salt = salt }) same

-- If no rule is broken with the rounds that were chosen, none is broken with those that `chosen_rounds` gives, which
-- are the same.
not_BreaksMake-chosen_rounds : (method : Method) (chosen rounds : ℕ) (salt : List ℕ) → chosen ≡ chosen_rounds method rounds
    → ((fault : MakeFault) → ¬ BreaksMake method chosen (Some salt) fault)
    → (fault : MakeFault) → ¬ BreaksMake method (chosen_rounds method rounds) (Some salt) fault
not_BreaksMake-chosen_rounds method chosen rounds salt same none fault = subst (λ (n : ℕ). ¬ BreaksMake method n (Some salt) fault) same (none fault)

pub returns-then-is_clamped : goal.returns-then-is_clamped
returns-then-is_clamped c =
    let method = c.in-Some.method in
    let salt = c.args.salt.now in
    let made = made_setting-chosen_rounds method c.chosen_rounds.result c.args.rounds salt c.in_ok-setting.setting c.chosen_rounds.ensures c.in_ok-setting.ensures.made in
    let none = not_BreaksMake-chosen_rounds method c.chosen_rounds.result c.args.rounds salt c.chosen_rounds.ensures (c.in_ok-setting.ensures.accepted.0 refl) in
    let scheme = c.scheme.ensures ∙ ap (λ (kept : SettingValue). kept.scheme) made in
    inr (
      method,
      _,
      sym c.in-Some.ensures,
      IsGivenRefused-clamped method c.args.rounds salt none
          (subst (λ (own : Made). IsClamped own c.args.rounds) scheme (c.if-is_clamped.ensures.0 refl)),
      refl,
    )

pub returns : goal.returns
returns c =
    let method = c.in-Some.method in
    let salt = c.args.salt.now in
    let made = made_setting-chosen_rounds method c.chosen_rounds.result c.args.rounds salt c.in_ok-setting.setting c.chosen_rounds.ensures c.in_ok-setting.ensures.made in
    let none = not_BreaksMake-chosen_rounds method c.chosen_rounds.result c.args.rounds salt c.chosen_rounds.ensures (c.in_ok-setting.ensures.accepted.0 refl) in
    let scheme = c.scheme.ensures ∙ ap (λ (kept : SettingValue). kept.scheme) made in (
      method,
      sym c.in-Some.ensures,
      not_BreaksGiven method c.args.rounds salt none
          (λ is. true≢false (sym (c.if-is_clamped.ensures.1 (subst (λ (own : Made). IsClamped own c.args.rounds) (sym scheme) is)))),
      made,
    )
