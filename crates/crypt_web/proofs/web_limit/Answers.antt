-- The clause `limits` of `web_limit` holds because the call's report is the one that `report_limit` returns for the
-- limit that the budget stands for.
use Rattle.crypt_web.proofs.web_limit.Goals as goal

pub returns-clause-limits : goal.returns-clause-limits
returns-clause-limits c = rw (c.write_report.ensures.reported, ← c.of.ensures) c.report_limit.ensures.limits
