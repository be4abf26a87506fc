-- Proves the clause `each` of `hash_len`: the lengths of the canonical setting, the `$` and the packed digest add up to
-- the length of the hash of every password (HashedTexts).
use Rattle.crypt_core.proofs.HashedTexts.{length-crypt}
use Rattle.crypt_core.proofs.hash.hash_len.Goals as goal

pub returns-clause-each : goal.returns-clause-each
returns-clause-each c password =
    rw (c.row.ensures.packed, c.method.ensures.method, c.scheme.ensures, c.len.ensures.value, c.text.ensures.canonical) (length-crypt password c.args.setting.now)
