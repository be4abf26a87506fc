-- If `Maker::new` refuses the method, the rounds and the salt, its error is what the arguments mean (`Means`). The
-- clause of `plan` needs this. The rules on these three come last in the order of the arguments' rules, and the rows
-- name the method that `plan` found, so the same rules are broken. The proof is by induction over the rules.
use Rattle.std.proofs.Common.{◌≡◌, List, [], ◌∷◌, map, Some, ap, subst, inl, inr}
use Rattle.clap.specs.Words.{Row}
use Rattle.crypt_core.specs.MadeSettings.{BreaksMake, IsMakeRefused, make_faults}
use Rattle.crypt_core.specs.Methods.{method_named}
use Rattle.crypt_core.specs.Rules.{IsFirstBroken}
use Rattle.crypt_core.specs.declared.method.Method.{Method}
use Rattle.crypt_core.specs.declared.setting.fault.MakeFault.{MakeFault}
use Rattle.mkpasswd.specs.Options.{BreaksUsage, given_salt, job_rounds, type_of}
use Rattle.mkpasswd.specs.declared.fault.UsageFault.TheVariants.{Make}

module _ (rows : List Row) (method : Method) (named : method_named (type_of rows) ≡ Some method) where
  -- If the method, the rounds and the salt do not break this rule, the arguments do not break it.
  not_BreaksUsage-Make : (fault : MakeFault) → ¬ BreaksMake method (job_rounds method rows) (given_salt rows) fault → ¬ BreaksUsage rows (Make fault)
  not_BreaksUsage-Make fault whole (own, own_named, breaks) =
      let same : own ≡ method = cc in
      whole (subst (λ (m : Method). BreaksMake m (job_rounds m rows) (given_salt rows) fault) same breaks)

  -- The first rule that the method, the rounds and the salt break is also the first such rule that the arguments break.
  pub IsFirstBroken-Make : (fault : MakeFault) → IsMakeRefused method (job_rounds method rows) (given_salt rows) fault
      → IsFirstBroken (map Make make_faults) (BreaksUsage rows) (Make fault)
  unfolding IsMakeRefused
  IsFirstBroken-Make fault refused = go make_faults refused where
    go : (faults : List MakeFault) → IsFirstBroken faults (BreaksMake method (job_rounds method rows) (given_salt rows)) fault
        → IsFirstBroken (map Make faults) (BreaksUsage rows) (Make fault)
    go [] broken = broken
    go (first ∷ others) (inl (is, breaks)) = inl (ap Make is, (method, named, breaks))
    go (first ∷ others) (inr (whole, broken)) = inr (not_BreaksUsage-Make first whole, go others broken)
