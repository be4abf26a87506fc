-- Proves the clause `below` of `scrypt_bound`: each count is below `work_limit` for accepted parameters and lengths in
-- range (WorkBounds).
use Rattle.crypt_core.proofs.WorkBounds.{scrypt_work-below_limit}
use Rattle.crypt_core.proofs.work.scrypt_bound.Goals as goal

pub returns-clause-below : goal.returns-clause-below
returns-clause-below c =
    rw c.scrypt_work.ensures.work
    (scrypt_work-below_limit c.args.params.now 255 c.args.password c.args.salt c.scrypt_work.ensures.bounded c.requires.password c.requires.salt)
