-- Proves the goal of `hash_within_budget` where scrypt could not allocate memory; the prover finds the other proofs.
-- With enough memory the outcome would have been `Hashed`, with this one hash. The line is within the budget, since the
-- cost that was compared with the budget is `field_cost`.
use Rattle.std.proofs.Common.{◌≡◌, [], ◌∷◌, None, length, refl, sym, subst, ◌∙◌, true≢false}
use Rattle.std.proofs.lemmas.Result.{err_from_is_err_and}
use Rattle.crypt_core.specs.Standings.{IsAbove}
use Rattle.run_core.specs.Answers.{new_hash, new_hashing}
use Rattle.run_core.specs.Private.Answers.{field_cost}
use Rattle.run_core.specs.declared.answer.Outcome.TheVariants.{Hashed}
use Rattle.run_core.proofs.answer.hash_within_budget.Goals as goal

pub returns-in_err-make_hash-clause-settles : goal.returns-in_err-make_hash-clause-settles
returns-in_err-make_hash-clause-settles g c =
    let job = c.args.job.now in
    let password = c.args.password.now in
    let stream = g.R.Rng.stream c.args.rng.now in
    let p = err_from_is_err_and c.from_residual.result c.from_residual.ensures.1 in
    let is : c.cost.result ≡ field_cost job None (length password) = cc c.cost.ensures.number in
    rw p.1 (
      (λ above. true≢false (sym (c.is_exceeded_by.ensures.1 (subst (IsAbove job.budget) (sym is) above)) ∙ c.if-is_exceeded_by.false)),
      Hashed (new_hash job password stream),
      new_hashing job password stream ∷ [],
      (refl, refl),
      ([], new_hashing job password stream, [], refl, c.in_err-make_hash.ensures.refused, c.make_hash.ensures.stream),
    )
