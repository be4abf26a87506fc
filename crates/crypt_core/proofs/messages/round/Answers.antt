-- The two calls of `feed` in `round` don't overflow the count of bytes: what they feed is the round's message, whose
-- length the precondition `bytes_room` bounds.
use Rattle.std.proofs.Common.{◌≡◌, ◌+◌, ◌*◌, ◌≤◌, ◌++◌, List, ℕ, length, arith, ap}
use Rattle.std.proofs.lemmas.List.{length-append}
use Rattle.crypt_core.specs.RoundMessage.{round_message}
use Rattle.crypt_core.specs.Private.Messages.{Strings}
use Rattle.crypt_core.proofs.MessageLists.{length-round_message, round_length-le}
use Rattle.crypt_core.proofs.messages.round.Goals as goal

-- The two pieces of a round's message have no more bytes than a digest, two passwords and a salt.
length-pieces-le : (i : ℕ) (x : List ℕ) (strings : Strings) (first second : List ℕ)
    → first ++ second ≡ round_message i x strings.password strings.salt
    → length first + length second ≤ length x + 2 * length strings.password + length strings.salt
length-pieces-le i x strings first second e =
    omega (
      arith,
      ap length e,
      length-append first second,
      length-round_message i x strings.password strings.salt,
      round_length-le i (length x) (length strings.password) (length strings.salt),
    )

pub feed-requires : goal.feed-requires
feed-requires g c =
    let small = length-pieces-le c.args.i c.args.digest.now c.args.strings.now c.pieces.result.0.now c.pieces.result.1.now c.pieces.ensures in
    omega (arith, small, c.requires.bytes_room)

pub feed-requires-2 : goal.feed-requires-2
feed-requires-2 g c =
    let small = length-pieces-le c.args.i c.args.digest.now c.args.strings.now c.pieces.result.0.now c.pieces.result.1.now c.pieces.ensures in
    omega (arith, small, c.requires.bytes_room, ap (λ m. m.bytes) c.feed.ensures.count)
