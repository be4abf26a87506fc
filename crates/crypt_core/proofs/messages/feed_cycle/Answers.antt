-- Proves the clause `message` of `feed_cycle`: if the running digest held the message `m` before (`h`), it then holds
-- `m` and the first `len` bytes of the repeated digest. These are the whole copies and the beginning of one more
-- (CycleLemmas).
use Rattle.std.proofs.Common.{◌≡◌, ◌+◌, ◌*◌, ◌/◌, ◌%◌, ◌≤◌, length, arith, refl, sym, append_assoc}
use Rattle.std.proofs.lemmas.Nat.{div-add-mod'}
use Rattle.std.proofs.Math.Nat.{mod-lt}
use Rattle.crypt_core.proofs.CycleLemmas.{cycle-mul-add, cycle-mul-length}
use Rattle.crypt_core.proofs.messages.feed_cycle.Goals as goal

pub returns-clause-message : goal.returns-clause-message
returns-clause-message g c = λ m h.
    let d = c.args.digest.now in
    let w = length d in
    let k = c.args.len / w in
    let split : c.args.len ≡ k * w + c.args.len % w = sym (div-add-mod' c.args.len w) in
    let within : c.args.len % w ≤ w = omega (arith, mod-lt c.args.len c.requires.some) in
    rw (split, cycle-mul-add d w k (c.args.len % w) refl within, cycle-mul-length d k, ← append_assoc)
    (c.feed.ensures.message _ (c.feed_repeated.ensures.message m h))
