-- The clauses `current`, `passes` and `checked` of `report_audit` follow from what AuditReports says about the report
-- of a finding.
use Rattle.std.proofs.Common.{subst, sym}
use Rattle.call_core.specs.Audits.{ForeseesLogins, Passes}
use Rattle.call_core.proofs.AuditReports.{ForeseesLogins_from_Finds, IsCurrent_from_Passes, Passes_from_IsCurrent}
use Rattle.call_core.proofs.audit.report_audit.Goals as goal

pub returns-in-Ok-clause-current : goal.returns-in-Ok-clause-current
returns-in-Ok-clause-current c above =
    IsCurrent_from_Passes c.args.method c.args.rounds c.args.budget c.in-Ok.scheme c.args.field.now c.of.result c.in-Ok.ensures c.of.ensures.finds
    (subst Passes c.finding_report.ensures.report above)

pub returns-in-Ok-clause-passes : goal.returns-in-Ok-clause-passes
returns-in-Ok-clause-passes c is =
    subst Passes (sym c.finding_report.ensures.report)
    (Passes_from_IsCurrent c.args.method c.args.rounds c.args.budget c.in-Ok.scheme c.args.field.now c.of.result c.in-Ok.ensures c.of.ensures.judges is)

pub returns-in-Ok-clause-checked : goal.returns-in-Ok-clause-checked
returns-in-Ok-clause-checked c =
    subst (ForeseesLogins c.args.field.now c.args.method c.args.rounds c.args.budget) (sym c.finding_report.ensures.report)
    (ForeseesLogins_from_Finds c.args.method c.args.rounds c.args.budget c.in-Ok.scheme c.args.field.now c.of.result c.in-Ok.ensures c.of.ensures.finds)
