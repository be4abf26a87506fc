-- The clause `hashes` of `mkpasswd_proved_hash` holds because the call's report and `out` are those of `put_hash`.
use Rattle.crypt_c.proofs.mkpasswd_proved_hash.Goals as goal

pub returns-clause-hashes : goal.returns-clause-hashes
returns-clause-hashes c = rw c.write_report.ensures.reported c.put_hash-reported.ensures.hashes
