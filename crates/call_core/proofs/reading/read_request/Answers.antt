-- `read_request` reports the refusal of a method or of rounds (clause `refused`): its report is the one that `?` makes
-- of the reason.
use Rattle.std.proofs.Common.{◌≡◌, Ok, Err, inl, refl}
use Rattle.std.specs.Prelude.{IfErr, IsErrAnd, Result}
use Rattle.call_core.specs.Arguments.{Refuses, TakesNewRounds}
use Rattle.call_core.specs.Reports.{refused}
use Rattle.call_core.specs.declared.report.Report.{Report}
use Rattle.call_core.proofs.MadeSchemes.{OnScheme-refused}
use Rattle.call_core.proofs.reading.read_request.Goals as goal

-- If an error equals a report, what holds of the report holds of the error.
IfErr-report : {A : Type 0} → (made : Result A Report) (report : Report) (P : Report → Type 0) → IsErrAnd made (λ reported. reported ≡ report) → P report → IfErr made P
IfErr-report (Ok a) report P is holds = tt
IfErr-report (Err reported) report P is holds = rw is holds

pub returns-in_err-scheme-clause-refused : goal.returns-in_err-scheme-clause-refused
returns-in_err-scheme-clause-refused c =
    let refusal = c.in_err-scheme.field-0.0 in
    IfErr-report c.from_residual-in_err-scheme.result (refused refusal 0) _ c.from_residual-in_err-scheme.ensures.1 (inl (
      c.in_ok-password.ensures.ok.1,
      OnScheme-refused TakesNewRounds c.args.number c.args.rounds refusal (Refuses (refused refusal 0)) _ c.in_err-scheme.ensures refl,
    ))
