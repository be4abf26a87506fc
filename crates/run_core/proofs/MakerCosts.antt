-- Lemmas for the clauses of `Maker::new` if no salt is given, and for the clause `each` of `Maker::cost`. Without a
-- salt, only the rounds can be refused, so `IsMakeRefused` reduces to its last rule. The cost of hashing with a setting
-- depends on the salt only through its length. All salts that a method makes from random numbers have the same length,
-- so the cost is known before any number is drawn.
use Rattle.std.specs.Prelude.{◌↔◌}
use Rattle.std.proofs.Common.{◌≡◌, ℕ, true, false, List, Option, Some, None, inl, inr, refl, sym, ap, subst}
use Rattle.crypt_core.specs.MadeSettings.{BreaksMake, IsMakeRefused, TakesRounds}
use Rattle.crypt_core.specs.MethodLimits.{made_salt_length}
use Rattle.crypt_core.specs.Schemes.{method_of}
use Rattle.crypt_core.specs.Work.{cost, cost_by}
use Rattle.crypt_core.specs.declared.method.Method.{Method}
use Rattle.crypt_core.specs.declared.setting.fault.MakeFault.{MakeFault}
use Rattle.crypt_core.specs.declared.setting.fault.MakeFault.TheVariants.{Cost}
use Rattle.crypt_core.proofs.MadeSaltLemmas.{length-made_salt}
use Rattle.run_core.specs.Makers.{Recipe, made_cost_by, setting_by}

-- Without a salt, rounds that the method does not take are refused as `Cost`.
pub IsMakeRefused-Cost : (m : Method) (rounds : ℕ) → ¬ TakesRounds m rounds → IsMakeRefused m rounds None Cost
unfolding IsMakeRefused
IsMakeRefused-Cost m rounds bad = inr (λ b. b, inr (λ b. b, inl (refl, bad)))

-- Without a salt, nothing but rounds that the method does not take is refused.
pub IsMakeRefused-only_Cost : (m : Method) (rounds : ℕ) (f : MakeFault) → IsMakeRefused m rounds None f → (f ≡ Cost) × ¬ TakesRounds m rounds
unfolding IsMakeRefused
IsMakeRefused-only_Cost m rounds f (inl broken) = absurd broken.1
IsMakeRefused-only_Cost m rounds f (inr (_, inl broken)) = absurd broken.1
IsMakeRefused-only_Cost m rounds f (inr (_, inr (_, inl broken))) = broken
IsMakeRefused-only_Cost m rounds f (inr (_, inr (_, inr (_, none)))) = absurd none

-- If `Scheme::made` refused the rounds, the clauses `accepted` and `refused` of `Maker::new` hold without a salt.
pub not_accepted-BreaksMake : (m : Method) (rounds : ℕ) → (false ≡ true ↔ TakesRounds m rounds) → false ≡ true ↔ ((f : MakeFault) → ¬ BreaksMake m rounds None f)
not_accepted-BreaksMake m rounds takes = (λ e. absurd (cc e), λ none. absurd (none Cost (λ t. cc (takes.1 t))))

pub IsMakeRefused-not_accepted : (m : Method) (rounds : ℕ) (f : MakeFault) → f ≡ Cost → (false ≡ true ↔ TakesRounds m rounds) → IsMakeRefused m rounds None f
IsMakeRefused-not_accepted m rounds f is takes = subst (IsMakeRefused m rounds None) (sym is) (IsMakeRefused-Cost m rounds (λ t. cc (takes.1 t)))

-- Hashing with a setting of the maker has the cost `made_cost_by`, whatever random numbers the setting's salt is made
-- from.
pub cost-setting_by : (recipe : Recipe) (numbers : List ℕ) (password : ℕ) → cost (setting_by recipe numbers) password ≡ made_cost_by recipe password
cost-setting_by recipe numbers password = go recipe.salt where
  go : (salt : Option (List ℕ)) → cost (setting_by (record recipe { salt = salt }) numbers) password ≡ made_cost_by (record recipe { salt = salt }) password
  go None = ap (cost_by recipe.scheme password) (length-made_salt numbers (made_salt_length (method_of recipe.scheme)))
  go (Some salt) = refl
