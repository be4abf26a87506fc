-- Proves the goals of `check_within_budget` where scrypt could not allocate memory; the prover finds the other proofs.
-- If there was no memory for the hash that is compared with the stored one, `would_check` gives the outcome that the
-- check would have had. If there was none for the new hash, the password had matched and the setting is out of date, so
-- the outcome would have been `Rehashed`.
use Rattle.std.proofs.Common.{◌≡◌, [], ◌∷◌, Some, true, length, refl, sym, subst, ◌∙◌, rules}
use Rattle.std.proofs.lemmas.Result.{err_from_is_err_and}
use Rattle.prims_core.specs.declared.meter.Work.{Work}
use Rattle.crypt_core.specs.Crypt.{IsAfterFailedAllocation, crypt}
use Rattle.crypt_core.specs.Standings.{IsAbove}
use Rattle.crypt_core.specs.declared.stored.StoredField.TheVariants.{Hash}
use Rattle.run_core.specs.Answers.{hashing, new_hash, new_hashing}
use Rattle.run_core.specs.JobOptions.{is_outdated}
use Rattle.run_core.specs.Makers.{next_setting}
use Rattle.run_core.specs.Private.Answers.{field_cost}
use Rattle.run_core.specs.declared.answer.Outcome.TheVariants.{Rehashed}
use Rattle.run_core.proofs.LineOutcomes.{would_check}
use Rattle.run_core.proofs.answer.check_within_budget.Goals as goal

pub returns-in_err-matches-clause-settles : goal.returns-in_err-matches-clause-settles
returns-in_err-matches-clause-settles g c =
    let job = c.args.job.now in
    let password = c.args.password.now in
    let stored = c.args.stored.now in
    let stream = g.R.Rng.stream c.args.rng.now in
    let within : ¬ IsAbove job.budget (field_cost job (Some (Hash stored)) (length password)) = search rules in
    let p = err_from_is_err_and c.from_residual.result c.from_residual.ensures.1 in
    let would = would_check job password stored stream in
    rw p.1 (
      within,
      would.outcome,
      hashing password stored.setting stream ∷ would.more,
      would.checked,
      ([], hashing password stored.setting stream, would.more, refl, c.in_err-matches.ensures.metered.refused, refl),
    )

pub returns-in_err-make_hash-clause-settles : goal.returns-in_err-make_hash-clause-settles
returns-in_err-make_hash-clause-settles g c =
    let job = c.args.job.now in
    let password = c.args.password.now in
    let stored = c.args.stored.now in
    let stream = g.R.Rng.stream c.args.rng.now in
    let within : ¬ IsAbove job.budget (field_cost job (Some (Hash stored)) (length password)) = search rules in
    let p = err_from_is_err_and c.from_residual-in_err-make_hash.result c.from_residual-in_err-make_hash.ensures.1 in
    let same : crypt password stored.setting ≡ stored.text = c.in_ok-matches.ensures.verdict.0 c.if-not-branch.false in
    let outdated : is_outdated job stored.setting ≡ true = sym c.is_outdated-is_outdated.ensures ∙ c.if-not-is_outdated.false in
    let refused = subst (λ (counts : Work). IsAfterFailedAllocation counts (next_setting job.maker stream).scheme c.make_hash.new.meter) c.in_ok-matches.ensures.metered.count c.in_err-make_hash.ensures.refused in
    rw p.1 (
      within,
      Rehashed (new_hash job password stream),
      hashing password stored.setting stream ∷ new_hashing job password stream ∷ [],
      (same, outdated, refl, refl),
      (hashing password stored.setting stream ∷ [], new_hashing job password stream, [], refl, refused, c.make_hash.ensures.stream),
    )
