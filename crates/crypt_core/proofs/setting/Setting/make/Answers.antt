-- Proves the invariant and the clauses of `Setting::make` for each of its results: the error for a bad salt, the error
-- for bad rounds, or a setting. The canonical form spells the setting. For a bad salt, `given_salt` returns the error
-- of the first broken rule; for a good salt with bad rounds, that error is `Cost`. The error of the first broken rule
-- is unique (MadeSettings), so `each_refusal` follows from `refused` and `accepted`.
use Rattle.std.proofs.Common.{◌≡◌, ◌∙◌, ap, rules, subst, sym}
use Rattle.std.specs.Prelude.{Err, Some}
use Rattle.crypt_core.specs.declared.setting.fault.MakeFault.{MakeFault}
use Rattle.crypt_core.specs.declared.setting.fault.MakeFault.TheVariants.{Cost}
use Rattle.crypt_core.specs.MadeSettings.{IsMakeRefused, TakesRounds}
use Rattle.crypt_core.specs.Private.Parts.{TakesSalt}
use Rattle.crypt_core.specs.Schemes.{method_of}
use Rattle.crypt_core.specs.declared.method.Method.{Method}
use Rattle.crypt_core.proofs.MadeSettings.{IsOk-iff_no_broken_rule, IsSetting-given_salt, method_of-made_scheme, make_refused_cost, make_refusal_unique, false-iff_no_broken_rule, Err-from_IsMakeRefused, not-BreaksMake}
use Rattle.crypt_core.proofs.setting.Setting.make.Goals as goal

pub invariant_of-result : goal.invariant_of-result
invariant_of-result c =
    let method_is : method_of c.in_ok-scheme-in-Ok.scheme ≡ c.args.method = ap method_of c.in_ok-scheme-in-Ok.ensures.made ∙ method_of-made_scheme c.args.method c.args.cost in
    let takes : TakesSalt (method_of c.in_ok-scheme-in-Ok.scheme) c.args.salt.now = subst (λ (m : Method). TakesSalt m c.args.salt.now) (sym method_is) c.in-Ok.ensures.ok in
    IsSetting-given_salt c.in_ok-scheme-in-Ok.scheme c.in-Ok.salt.items c.args.salt.now c.in_ok-scheme-in-Ok.ensures.in_range takes c.in-Ok.ensures.kept

pub returns-in-Err-clause-refused : goal.returns-in-Err-clause-refused
returns-in-Err-clause-refused c = c.in-Err.ensures.err c.args.cost

pub returns-in_err-scheme-in-Ok-clause-refused : goal.returns-in_err-scheme-in-Ok-clause-refused
returns-in_err-scheme-in-Ok-clause-refused c =
    let cost : TakesRounds c.args.method c.args.cost → ⊥ = search rules in
    let refused : IsMakeRefused c.args.method c.args.cost (Some c.args.salt.now) Cost = make_refused_cost c.args.method c.args.cost c.args.salt.now c.in-Ok.ensures.ok cost in
    search (rules, refused)

pub returns-in_err-scheme-in-Ok-clause-accepted : goal.returns-in_err-scheme-in-Ok-clause-accepted
returns-in_err-scheme-in-Ok-clause-accepted c =
    IsOk-iff_no_broken_rule c.args.method c.args.cost (Some c.args.salt.now) c.from_residual.result (search rules) (returns-in_err-scheme-in-Ok-clause-refused c)

pub returns-in_err-scheme-in-Ok-clause-each_refusal : goal.returns-in_err-scheme-in-Ok-clause-each_refusal
returns-in_err-scheme-in-Ok-clause-each_refusal c =
    Err-from_IsMakeRefused c.args.method c.args.cost (Some c.args.salt.now) c.from_residual.result (search rules) (returns-in_err-scheme-in-Ok-clause-refused c)

pub returns-in_ok-scheme-in-Ok-clause-each_refusal : goal.returns-in_ok-scheme-in-Ok-clause-each_refusal
returns-in_ok-scheme-in-Ok-clause-each_refusal c =
    let cost : TakesRounds c.args.method c.args.cost = search rules in
    Err-from_IsMakeRefused c.args.method c.args.cost (Some c.args.salt.now) _ (not-BreaksMake c.args.method c.args.cost c.args.salt.now c.in-Ok.ensures.ok cost) tt

pub returns-in-Err-clause-accepted : goal.returns-in-Err-clause-accepted
returns-in-Err-clause-accepted c = false-iff_no_broken_rule c.args.method c.args.cost (Some c.args.salt.now) c.in-Err.fault (c.in-Err.ensures.err c.args.cost)

-- If the method, the cost and the salt are refused for some error (`fault`, `refused`), this is the error returned.
pub returns-in-Err-clause-each_refusal : goal.returns-in-Err-clause-each_refusal
returns-in-Err-clause-each_refusal c = λ fault refused.
    ap (λ (f : MakeFault). Err f) (make_refusal_unique c.args.method c.args.cost (Some c.args.salt.now) c.in-Err.fault fault (c.in-Err.ensures.err c.args.cost) refused)
