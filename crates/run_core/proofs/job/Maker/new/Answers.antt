-- Proves the goals of `Maker::new` at its four returns. With a salt, its clauses are those of `Setting::make`, moved
-- from the salt in the branch to the argument (`accepted-same_salt`). Without a salt, they follow from what
-- `Scheme::made` returned, since only the rounds can be refused (`MakerCosts`).
use Rattle.std.proofs.Common.{◌≡◌, ℕ, List, ap, refl, subst, sym, ◌∙◌}
use Rattle.std.specs.Prelude.{◌↔◌, Err, None, Option, Some}
use Rattle.crypt_core.specs.MadeSettings.{BreaksMake, IsMakeRefused}
use Rattle.crypt_core.specs.declared.method.Method.{Method}
use Rattle.crypt_core.specs.declared.setting.fault.MakeFault.{MakeFault}
use Rattle.run_core.specs.Makers.{bytes_of}
use Rattle.run_core.proofs.MakerCosts.{IsMakeRefused-only_Cost, IsMakeRefused-not_accepted, not_accepted-BreaksMake}
use Rattle.run_core.proofs.job.Maker.new.Goals as goal

-- What holds for the salt in a branch of the code holds for the argument, since both are the same.
accepted-same_salt : (P : Type 0) (method : Method) (cost : ℕ) (given other : Option (List ℕ)) → given ≡ other
    → (P ↔ ((fault : MakeFault) → ¬ BreaksMake method cost other fault)) → P ↔ ((fault : MakeFault) → ¬ BreaksMake method cost given fault)
accepted-same_salt P method cost given other is accepted =
    subst (λ (salt : Option (List ℕ)). P ↔ ((fault : MakeFault) → ¬ BreaksMake method cost salt fault)) (sym is) accepted

pub returns-in-Ok-clause-accepted : goal.returns-in-Ok-clause-accepted
returns-in-Ok-clause-accepted c = accepted-same_salt _ c.args.method c.args.cost (bytes_of c.args.salt) (Some c.in-Some.salt.now) (ap bytes_of c.in-Some.is) c.in-Ok.ensures.accepted

pub returns-in-Err-clause-accepted : goal.returns-in-Err-clause-accepted
returns-in-Err-clause-accepted c = accepted-same_salt _ c.args.method c.args.cost (bytes_of c.args.salt) (Some c.in-Some.salt.now) (ap bytes_of c.in-Some.is) c.in-Err.ensures.accepted

pub returns-in-Err-made-clause-accepted : goal.returns-in-Err-made-clause-accepted
returns-in-Err-made-clause-accepted c =
    accepted-same_salt _ c.args.method c.args.cost (bytes_of c.args.salt) None (ap bytes_of c.in-None.is) (not_accepted-BreaksMake c.args.method c.args.cost c.in-Err-made.ensures.accepted)

pub returns-in-Err-made-clause-refused : goal.returns-in-Err-made-clause-refused
returns-in-Err-made-clause-refused c =
    subst (λ (salt : Option (List ℕ)). IsMakeRefused c.args.method c.args.cost salt c.in-Err-made.fault) (sym (ap bytes_of c.in-None.is))
    (IsMakeRefused-not_accepted c.args.method c.args.cost c.in-Err-made.fault c.in-Err-made.ensures.refused c.in-Err-made.ensures.accepted)

-- The clause `each_refusal`: if the method, the rounds and the salt are refused for some error (`fault`, `refused`),
-- this is the error returned. `alone` says the same of the case without a salt, where the error can only be `Cost`.
pub returns-in-Err-made-clause-each_refusal : goal.returns-in-Err-made-clause-each_refusal
returns-in-Err-made-clause-each_refusal c = λ fault refused.
    let alone : IsMakeRefused c.args.method c.args.cost None fault =
    subst (λ (salt : Option (List ℕ)). IsMakeRefused c.args.method c.args.cost salt fault) (ap bytes_of c.in-None.is) refused in
    ap (λ (f : MakeFault). Err f) (c.in-Err-made.ensures.refused ∙ sym (IsMakeRefused-only_Cost c.args.method c.args.cost fault alone).0)

-- If `Scheme::made` accepted the cost, nothing is refused without a salt.
pub returns-in-Ok-made-clause-each_refusal : goal.returns-in-Ok-made-clause-each_refusal
returns-in-Ok-made-clause-each_refusal c = λ fault refused.
    let alone : IsMakeRefused c.args.method c.args.cost None fault =
    subst (λ (salt : Option (List ℕ)). IsMakeRefused c.args.method c.args.cost salt fault) (ap bytes_of c.in-None.is) refused in
    absurd ((IsMakeRefused-only_Cost c.args.method c.args.cost fault alone).1 (c.in-Ok-made.ensures.accepted.0 refl))
