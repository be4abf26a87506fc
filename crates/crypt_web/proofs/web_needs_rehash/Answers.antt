-- The clause `rehashes` of `web_needs_rehash` holds because the call's report is the one that `report_rehash` returns.
use Rattle.crypt_web.proofs.web_needs_rehash.Goals as goal

pub returns-clause-rehashes : goal.returns-clause-rehashes
returns-clause-rehashes c = rw c.write_report_is_outdated.ensures.reported c.report_rehash.ensures.rehashes
