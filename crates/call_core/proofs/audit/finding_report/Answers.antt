-- If the finding is a hash, its report has no work (clause `idle`), whatever the scheme and the standing of the hash.
use Rattle.std.proofs.Common.{◌∙◌, ap}
use Rattle.call_core.specs.declared.report.Report.{Report}
use Rattle.call_core.proofs.AuditReports.{work-with_scheme, work-standing_report}
use Rattle.call_core.proofs.audit.finding_report.Goals as goal

pub returns-in-Hash-clause-idle : goal.returns-in-Hash-clause-idle
returns-in-Hash-clause-idle c =
    ap (λ (report : Report). report.work) c.with_scheme.ensures ∙ work-with_scheme _ _ ∙ ap (λ (report : Report). report.work) c.standing_report.ensures
    ∙ work-standing_report _ _
