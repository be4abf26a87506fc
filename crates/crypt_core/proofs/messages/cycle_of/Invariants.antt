-- In the loop of `cycle_of`, the bytes so far are the first i bytes of the repeated digest.
use Rattle.std.proofs.Common.{◌≡◌}
use Rattle.crypt_core.specs.Cycle.{cycle}
use Rattle.crypt_core.proofs.messages.cycle_of.Given as goal

abbrev pub invariant-loop-i : goal.invariant-loop-i
invariant-loop-i l = l.bytes.items ≡ cycle l.digest l.i
