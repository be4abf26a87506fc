-- In the loop of `RoundStrings::new`, the joined string so far consists of the strings appended so far.
use Rattle.std.proofs.Common.{◌≡◌, flat_map, take}
use Rattle.crypt_core.proofs.messages.RoundStrings.new.Given as goal

abbrev pub invariant-loop-piece : goal.invariant-loop-piece
invariant-loop-piece l = l.joined.items ≡ flat_map (λ piece. piece.now) (take l.piece-index l.piece-items)
