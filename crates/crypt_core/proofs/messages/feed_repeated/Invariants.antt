-- In the loop of `feed_repeated`, as many copies of the piece have been fed and counted as there were iterations.
use Rattle.std.proofs.Common.{◌≡◌, ℕ, ◌+◌, ◌*◌, List, ◌++◌, length}
use Rattle.std.specs.List.{repeat}
use Rattle.crypt_core.proofs.messages.feed_repeated.Given as goal

abbrev pub invariant-turns : goal.invariant-turns
invariant-turns g l =
    ((m : List ℕ) → g.C.Counted.holds l.fn.running m → g.C.Counted.holds l.running (m ++ repeat l.counter l.piece))
    × (l.meter ≡ record l.fn.meter { bytes = l.fn.meter.bytes + l.counter * length l.piece })
