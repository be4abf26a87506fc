-- Proves the clause `runs` of `run_one` at each of its returns, by the lemmas of `PasswordRunEnds`, and the
-- precondition of `work_since`. `as_line-password_answer` shows that the line to write is the text of the answer: the
-- work between the two readings of the meter is that of the one hash.
use Rattle.std.proofs.Common.{rules, ◌≡◌, ℕ, List, [], ◌∷◌, ◌++◌, ap, sym, ◌∙◌, arith}
use Rattle.rand_core.specs.Stream.{Stream}
use Rattle.prims_core.specs.Work.{no_work}
use Rattle.prims_core.specs.declared.meter.Work.{Work}
use Rattle.crypt_core.specs.Work.{raised_by, work, work_limit}
use Rattle.run_core.specs.Answers.{after_work, new_hash, new_hashing, password_answer, rendered}
use Rattle.run_core.specs.Makers.{next_setting}
use Rattle.run_core.specs.Private.Answers.{wanted_text}
use Rattle.run_core.specs.Texts.{as_line}
use Rattle.run_core.specs.declared.answer.Outcome.TheVariants.{Hashed}
use Rattle.run_core.specs.declared.job.Job.{Job}
use Rattle.std.proofs.lemmas.Result.{err_from_is_err_and}
use Rattle.run_core.specs.Runs.{run_state}
use Rattle.run_core.proofs.LineOptions.{runs_one}
use Rattle.run_core.proofs.PasswordRunEnds as ending
use Rattle.run_core.proofs.CountedWork.{after_work-raised_by, IsBelow-work_between}
use Rattle.run_core.proofs.one.run_one.Goals as goal

-- The output line that was rendered is the text of the answer.
as_line-password_answer : (job : Job) (password : List ℕ) (stream : Stream) (hash : List ℕ) (before after reading told : Work) → hash ≡ new_hash job password stream
    → after ≡ raised_by before (work password (next_setting job.maker stream)) → reading ≡ before
    → ((more : Work) → after ≡ raised_by reading more → told ≡ more)
    → as_line (rendered (Hashed hash) ++ wanted_text job.work told) ≡ (password_answer job password stream).text
as_line-password_answer job password stream hash before after reading told is counted read raised =
    let more = after_work no_work (new_hashing job password stream ∷ []) in
    let risen : after ≡ raised_by reading more = counted ∙ (after_work-raised_by before (new_hashing job password stream ∷ []) ∙ ap (λ (w : Work). raised_by w more) (sym read)) in
    ap (λ (h : List ℕ). as_line (h ++ wanted_text job.work told)) is
    ∙ ap (λ (w : Work). as_line (new_hash job password stream ++ wanted_text job.work w)) (raised more risen)

pub returns-in_err-password-clause-runs : goal.returns-in_err-password-clause-runs
returns-in_err-password-clause-runs g c =
    let p = err_from_is_err_and c.from_residual.result c.from_residual.ensures.1 in
    rw (p.1, p.2) (runs_one c.args.turns c.args.job.now c.args.from.now _ _ _ (ending.EndsOne-without_password c.args.turns c.args.job.now c.args.from.now
    (run_state c.args.input.now c.args.out.now c.args.faults.now (g.R.Rng.stream c.args.rng.now) c.args.meter.now)
    c.obtain.new.input c.obtain.new.left c.in_err-password.field-0.0 c.in_err-password.ensures.password c.obtain.ensures.turns) (search rules))

pub returns-in_err-hash-clause-runs : goal.returns-in_err-hash-clause-runs
returns-in_err-hash-clause-runs g c =
    let p = err_from_is_err_and c.from_residual-in_err-hash.result c.from_residual-in_err-hash.ensures.1 in
    rw (p.1, p.2) (runs_one c.args.turns c.args.job.now c.args.from.now _ _ _ (ending.EndsOne-out_of_memory c.args.turns c.args.job.now c.args.from.now c.in_ok-password.password
    (run_state c.args.input.now c.args.out.now c.args.faults.now (g.R.Rng.stream c.args.rng.now) c.args.meter.now)
    c.obtain.new.input (g.R.Rng.stream c.make_hash.new.rng) c.make_hash.new.meter c.obtain.new.left c.in_ok-password.ensures.password
    c.make_hash.ensures.stream c.in_err-hash.ensures.refused) (search rules))

pub work_since-work-requires : goal.work_since-work-requires
work_since-work-requires g c = record {
  earlier = rw c.reading-before.ensures c.make_hash.ensures.rises;
  small = rw c.reading-before.ensures (IsBelow-work_between work_limit c.args.meter.now c.make_hash.new.meter (omega arith) c.make_hash.ensures.small);
}

pub returns-in_err-send-clause-runs : goal.returns-in_err-send-clause-runs
returns-in_err-send-clause-runs g c =
    let old = run_state c.args.input.now c.args.out.now c.args.faults.now (g.R.Rng.stream c.args.rng.now) c.args.meter.now in
    let has = ending.HasHash-hashed c.args.turns c.args.job.now c.args.from.now c.in_ok-password.password c.as_slice.result.now old c.obtain.new.input (g.R.Rng.stream c.make_hash.new.rng) c.make_hash.new.meter
    c.obtain.new.left c.in_ok-password.ensures.password c.obtain.ensures.turns c.make_hash.ensures.stream
    c.in_ok-hash.ensures.count (c.as_slice.ensures.value ∙ (c.render-line.ensures ∙ as_line-password_answer c.args.job.now c.in_ok-password.password (g.R.Rng.stream c.args.rng.now) c.in_ok-hash.hash
    c.args.meter.now c.make_hash.new.meter c.reading-before.result c.work_since-work.result c.in_ok-hash.ensures.hash c.in_ok-hash.ensures.count c.reading-before.ensures c.work_since-work.ensures.raised)) in
    let p = err_from_is_err_and c.from_residual-in_err-send.result c.from_residual-in_err-send.ensures.1 in
    rw (p.1, p.2) (runs_one c.args.turns c.args.job.now c.args.from.now _ _ _ (ending.EndsOne-written_in_part c.args.turns c.args.job.now c.args.from.now c.in_ok-password.password c.as_slice.result.now old
    c.obtain.new.input c.send.new.out (g.R.Rng.stream c.make_hash.new.rng) c.make_hash.new.meter c.obtain.new.left c.in_err-send.field-0.0
    has c.in_err-send.ensures.delivers) (search rules))

pub returns-in_err-finish_both-clause-runs : goal.returns-in_err-finish_both-clause-runs
returns-in_err-finish_both-clause-runs g c =
    let old = run_state c.args.input.now c.args.out.now c.args.faults.now (g.R.Rng.stream c.args.rng.now) c.args.meter.now in
    let has = ending.HasHash-hashed c.args.turns c.args.job.now c.args.from.now c.in_ok-password.password c.as_slice.result.now old c.obtain.new.input (g.R.Rng.stream c.make_hash.new.rng) c.make_hash.new.meter
    c.obtain.new.left c.in_ok-password.ensures.password c.obtain.ensures.turns c.make_hash.ensures.stream
    c.in_ok-hash.ensures.count (c.as_slice.ensures.value ∙ (c.render-line.ensures ∙ as_line-password_answer c.args.job.now c.in_ok-password.password (g.R.Rng.stream c.args.rng.now) c.in_ok-hash.hash
    c.args.meter.now c.make_hash.new.meter c.reading-before.result c.work_since-work.result c.in_ok-hash.ensures.hash c.in_ok-hash.ensures.count c.reading-before.ensures c.work_since-work.ensures.raised)) in
    let p = err_from_is_err_and c.from_residual-in_err-finish_both.result c.from_residual-in_err-finish_both.ensures.1 in
    rw (p.1, p.2) (runs_one c.args.turns c.args.job.now c.args.from.now _ _ _ (ending.EndsOne-flush_failed c.args.turns c.args.job.now c.args.from.now c.in_ok-password.password c.as_slice.result.now old
    c.obtain.new.input c.send.new.out c.finish_both.new.out c.finish_both.new.faults
    (g.R.Rng.stream c.make_hash.new.rng) c.make_hash.new.meter c.obtain.new.left (Unit {0}) c.in_err-finish_both.field-0.0
    has c.in_ok-send.ensures.delivers c.in_err-finish_both.ensures.finishes) (search rules))

pub returns-clause-runs : goal.returns-clause-runs
returns-clause-runs g c =
    let old = run_state c.args.input.now c.args.out.now c.args.faults.now (g.R.Rng.stream c.args.rng.now) c.args.meter.now in
    let has = ending.HasHash-hashed c.args.turns c.args.job.now c.args.from.now c.in_ok-password.password c.as_slice.result.now old c.obtain.new.input (g.R.Rng.stream c.make_hash.new.rng) c.make_hash.new.meter
    c.obtain.new.left c.in_ok-password.ensures.password c.obtain.ensures.turns c.make_hash.ensures.stream
    c.in_ok-hash.ensures.count (c.as_slice.ensures.value ∙ (c.render-line.ensures ∙ as_line-password_answer c.args.job.now c.in_ok-password.password (g.R.Rng.stream c.args.rng.now) c.in_ok-hash.hash
    c.args.meter.now c.make_hash.new.meter c.reading-before.result c.work_since-work.result c.in_ok-hash.ensures.hash c.in_ok-hash.ensures.count c.reading-before.ensures c.work_since-work.ensures.raised)) in
    runs_one c.args.turns c.args.job.now c.args.from.now _ _ _ (ending.EndsOne-flushed c.args.turns c.args.job.now c.args.from.now c.in_ok-password.password c.as_slice.result.now old
    c.obtain.new.input c.send.new.out c.finish_both.new.out c.finish_both.new.faults
    (g.R.Rng.stream c.make_hash.new.rng) c.make_hash.new.meter c.obtain.new.left c.in_ok-finish_both.field-0
    has c.in_ok-send.ensures.delivers c.in_ok-finish_both.ensures.finishes) (search rules)
