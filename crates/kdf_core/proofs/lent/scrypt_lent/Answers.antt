-- The clause `specified` of `scrypt_lent`, which holds at each of its returns: the closed form of the work counts the
-- messages of scrypt (`HaveCountAndSum-scrypt_messages`).
use Rattle.std.proofs.Common.{length}
use Rattle.kdf_core.proofs.MessageCounts.{HaveCountAndSum-scrypt_messages}
use Rattle.kdf_core.proofs.lent.scrypt_lent.Goals as goal

pub returns-then-words-words_needed-clause-specified : goal.returns-then-words-words_needed-clause-specified
returns-then-words-words_needed-clause-specified c =
    HaveCountAndSum-scrypt_messages c.args.password.now c.args.salt.now c.args.params.now (length c.args.out.now)

pub returns-then-bytes-bytes_needed-clause-specified : goal.returns-then-bytes-bytes_needed-clause-specified
returns-then-bytes-bytes_needed-clause-specified c =
    HaveCountAndSum-scrypt_messages c.args.password.now c.args.salt.now c.args.params.now (length c.args.out.now)

pub returns-clause-specified : goal.returns-clause-specified
returns-clause-specified c = HaveCountAndSum-scrypt_messages c.args.password.now c.args.salt.now c.args.params.now (length c.args.out.now)
