-- The clause `rehashes` of `mkpasswd_needs_rehash_bytes` holds because the call's report is the one that
-- `report_rehash` returns.
use Rattle.crypt_c.proofs.mkpasswd_needs_rehash_bytes.Goals as goal

pub returns-clause-rehashes : goal.returns-clause-rehashes
returns-clause-rehashes c = rw c.write_report_is_outdated.ensures.reported c.report_rehash.ensures.rehashes
