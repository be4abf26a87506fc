-- Proves the clause `runs` of `run_plan` where a run over lines ends with an error. The error is that of the run, and
-- the plan does not lack a generator: a batch or a check has one, and an audit needs none.
use Rattle.std.proofs.Common.{◌≡◌, None, refl}
use Rattle.std.proofs.lemmas.Result.{err_from_is_err_and}
use Rattle.mkpasswd.proofs.command.run_plan.Goals as goal

pub returns-in_err-run_batch-in-Batch-Some-clause-runs : goal.returns-in_err-run_batch-in-Batch-Some-clause-runs
returns-in_err-run_batch-in-Batch-Some-clause-runs g c =
    let p = err_from_is_err_and c.from_residual-in_err-run_batch-in-Batch-Some.result c.from_residual-in_err-run_batch-in-Batch-Some.ensures.1 in
    let run = c.in_err-run_batch-in-Batch-Some.ensures in
    rw (p.1, p.2, c.in-Batch-Some.is-0, c.in-Batch-Some.is-1) (refl, run.runs)

pub returns-in_err-run_check-in-Check-Some-clause-runs : goal.returns-in_err-run_check-in-Check-Some-clause-runs
returns-in_err-run_check-in-Check-Some-clause-runs g c =
    let p = err_from_is_err_and c.from_residual-in_err-run_check-in-Check-Some.result c.from_residual-in_err-run_check-in-Check-Some.ensures.1 in
    let run = c.in_err-run_check-in-Check-Some.ensures in
    rw (p.1, p.2, c.in-Check-Some.is-0, c.in-Check-Some.is-1) (refl, run.runs)

pub returns-in_err-run_audit-in-Audit-default-clause-runs : goal.returns-in_err-run_audit-in-Audit-default-clause-runs
returns-in_err-run_audit-in-Audit-default-clause-runs g c =
    let p = err_from_is_err_and c.from_residual-in_err-run_audit-in-Audit-default.result c.from_residual-in_err-run_audit-in-Audit-default.ensures.1 in
    let run = c.in_err-run_audit-in-Audit-default.ensures in
    let none : c.args.generator.now ≡ None = c.requires.unwanted (rw c.in-Audit-default.is-0 refl) in
    rw (p.1, p.2, c.in-Audit-default.is-0, none) (refl, run.runs)
