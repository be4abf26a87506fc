-- The clause `limits` of `mkpasswd_limit_bytes` holds because the call's report is the one that `report_limit` returns
-- for the limit that the budget stands for.
use Rattle.crypt_c.proofs.mkpasswd_limit_bytes.Goals as goal

pub returns-clause-limits : goal.returns-clause-limits
returns-clause-limits c = rw (c.write_report.ensures.reported, ← c.of.ensures) c.report_limit.ensures.limits
