-- The clause `hashes` of `web_hash` holds because the call's report and `out` are those of `put_hash`. In `enough`, the
-- lent memory is enough for the hash, because `words` and `bytes` are at least as long as `need` says.
use Rattle.std.proofs.Common.{arith}
use Rattle.crypt_web.proofs.web_hash.Goals as goal

pub returns-clause-hashes : goal.returns-clause-hashes
returns-clause-hashes c = rw c.write_report.ensures.reported c.put_hash-reported.ensures.hashes

-- The clause `enough`: if `need` is what the call needs (`is`), and the lent `words` and `bytes` are at least as long,
-- the error is not `OutOfMemory`.
pub returns-clause-enough : goal.returns-clause-enough
returns-clause-enough c = λ need is words bytes.
    rw c.write_report.ensures.reported (c.put_hash-reported.ensures.enough (λ kept hashes.
    let needed = is.0 kept hashes in
    c.new-lent.ensures.enough kept.scheme (omega (arith, needed.0, words)) (omega (arith, needed.1, bytes))))
