-- The loop of `digit_bytes` halves the number until it is 0.
use Rattle.std.proofs.Common.{◌≡◌, ◌+◌}
use Rattle.crypt_core.specs.Cycle.{digit_bytes}
use Rattle.crypt_core.proofs.work.digit_bytes.Given as goal

abbrev pub decreases-digits : goal.decreases-digits
decreases-digits l = l.rest

-- The bytes so far and those for the digits that are left add up to the bytes for all digits.
abbrev pub invariant-digits : goal.invariant-digits
invariant-digits l = l.bytes + digit_bytes l.one l.other l.rest ≡ digit_bytes l.one l.other l.number
