-- The clauses of `web_audit` follow from those of `report_audit`, which returns the report, and those of
-- `write_report_is_current`, whose result is 1 exactly if the report says that the stored hash is current.
use Rattle.std.proofs.Common.{rules}
use Rattle.crypt_web.proofs.web_audit.Goals as goal

pub returns-clause-audits : goal.returns-clause-audits
returns-clause-audits c = rw c.write_report_is_current.ensures.reported c.report_audit.ensures.audits

pub returns-clause-checked : goal.returns-clause-checked
returns-clause-checked c = rw c.write_report_is_current.ensures.reported c.report_audit.ensures.checked

pub returns-clause-current : goal.returns-clause-current
returns-clause-current c = (
  λ one. c.report_audit.ensures.current (c.write_report_is_current.ensures.answers.1.0 (search (rules, one))),
  λ is. search (rules, c.write_report_is_current.ensures.answers.1.1 (c.report_audit.ensures.passes is)),
)
