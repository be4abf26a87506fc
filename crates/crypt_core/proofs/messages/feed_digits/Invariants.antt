-- The loop of `feed_digits` halves the number until it is 0.
use Rattle.std.proofs.Common.{◌≡◌, ℕ, ◌+◌, List, ◌++◌, length}
use Rattle.crypt_core.specs.Cycle.{digit_pieces}
use Rattle.crypt_core.proofs.messages.feed_digits.Given as goal

abbrev pub decreases-digits : goal.decreases-digits
decreases-digits g l = l.rest

-- Some bytes `fed` have been fed and counted. Followed by the pieces for the digits that are left, they are the pieces
-- for all digits of the number.
abbrev pub invariant-digits : goal.invariant-digits
invariant-digits g l =
    (fed : List ℕ)
    × ((m : List ℕ) → g.C.Counted.holds l.fn.running m → g.C.Counted.holds l.running (m ++ fed))
    × (fed ++ digit_pieces l.one l.other l.rest ≡ digit_pieces l.one l.other l.number)
    × (l.meter ≡ record l.fn.meter { bytes = l.fn.meter.bytes + length fed })
