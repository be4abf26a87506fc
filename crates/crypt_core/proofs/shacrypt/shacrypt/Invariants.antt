-- In the loop of `shacrypt`, the digest is the one before round i, and the meter has counted the messages so far, whose
-- bytes are bounded.
use Rattle.std.proofs.Common.{◌≡◌, ◌+◌, ◌*◌, ◌≤◌, length}
use Rattle.crypt_core.specs.Messages.{sha_digest_before, shacrypt_message}
use Rattle.crypt_core.proofs.CountSums.{with_digests}
use Rattle.crypt_core.proofs.MessageLists.{messages_to, round_limit}
use Rattle.crypt_core.proofs.ShaCryptLemmas.{start_limit}
use Rattle.crypt_core.proofs.shacrypt.shacrypt.Given as goal

abbrev pub invariant-rounds : goal.invariant-rounds
invariant-rounds g l =
    (l.digest.items ≡ sha_digest_before g.H.Counted.digest l.password l.salt l.i)
    × (length l.digest.items ≡ g.H.Counted.LEN)
    × (l.meter ≡ with_digests l.fn.meter (messages_to (shacrypt_message g.H.Counted.digest l.password l.salt) (l.i + 4)))
    × (l.meter.bytes ≤ l.fn.meter.bytes + start_limit + round_limit * l.i)
