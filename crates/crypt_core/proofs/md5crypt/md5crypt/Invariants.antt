-- The two nested loops of `md5crypt` run through the same rounds, so both keep `IsAfter` for the number of rounds done.
use Rattle.crypt_core.proofs.Md5cryptLemmas.{message_limit}
use Rattle.std.proofs.Common.{◌≡◌, ℕ, List, ◌+◌, ◌*◌, ◌≤◌, length}
use Rattle.prims_core.specs.Digests.{md5}
use Rattle.prims_core.specs.declared.meter.Work.{Work}
use Rattle.crypt_core.specs.Md5crypt.{md5crypt_opening}
use Rattle.crypt_core.specs.Messages.{md5crypt_message}
use Rattle.crypt_core.specs.RoundMessage.{digest_after}
use Rattle.crypt_core.proofs.CountSums.{with_digests}
use Rattle.crypt_core.proofs.MessageLists.{messages_to}
use Rattle.crypt_core.proofs.md5crypt.md5crypt.Given as goal

-- IsAfter password salt before digest meter rounds: after this number of rounds, `digest` is the digest of the last
-- round, of 16 bytes, and the meter has counted the messages so far in addition to `before`. Their bytes are bounded.
abbrev IsAfter : List ℕ → List ℕ → Work → List ℕ → Work → ℕ → Type 0
IsAfter password salt before digest meter rounds =
    (digest ≡ digest_after md5 (md5crypt_opening password salt) password salt rounds)
    × (length digest ≡ 16)
    × (meter ≡ with_digests before (messages_to (md5crypt_message password salt) (rounds + 2)))
    × (meter.bytes ≤ before.bytes + message_limit * (rounds + 2))

abbrev pub invariant-parts : goal.invariant-parts
invariant-parts l = IsAfter l.password l.salt l.fn.meter l.digest l.meter (50 * l.part)

abbrev pub invariant-rounds : goal.invariant-rounds
invariant-rounds l = IsAfter l.password l.salt l.fn.meter l.digest l.meter l.i
