-- Each iteration of the loop of `feed_repeated` feeds one more copy of the piece and counts its bytes.
use Rattle.std.proofs.Common.{◌≡◌, ◌+◌, ◌*◌, length, arith, append_assoc}
use Rattle.std.proofs.lemmas.List.{append-nil}
use Rattle.crypt_core.proofs.CycleLemmas.{repeat-more}
use Rattle.crypt_core.proofs.CountSums.{bytes-add_add, bytes-add_zero}
use Rattle.crypt_core.proofs.messages.feed_repeated.Goals as goal

pub turns-init : goal.turns-init
turns-init g c =
    let none : 0 * length c.args.piece.now ≡ 0 = omega arith in
    (λ m h. rw append-nil h, rw none (bytes-add_zero c.args.meter.now))

pub turns-preserved : goal.turns-preserved
turns-preserved g c =
    let piece = c.args.piece.now in
    let k = c.turns.counter in
    let turn : c.turns.counter * length c.args.piece.now + length c.args.piece.now ≡ (c.turns.counter + 1) * length c.args.piece.now = omega arith in (
      λ m h. rw (repeat-more k piece, ← append_assoc) (c.feed.ensures.message _ (c.turns.invariant.0 m h)),
      bytes-add_add c.args.meter.now c.turns.meter c.feed.new.meter _ _ _ c.turns.invariant.1 c.feed.ensures.count turn,
    )
