-- The loop of `xor_into`: in `sum`, the places below the index hold the XOR of the two bytes, and those from the index
-- on are as at the start.
use Rattle.std.proofs.Common.{◌≡◌, ℕ, ◌<◌, ◌≤◌, bit_xor, get_or}
use Rattle.kdf_core.proofs.hmac.xor_into.Given as goal

abbrev pub invariant-places : goal.invariant-places
invariant-places l = record {
  added : (k : ℕ) → k < l.i → get_or l.sum k 0 ≡ bit_xor (get_or l.fn.sum k 0) (get_or l.bytes k 0);
  to_come : (k : ℕ) → l.i ≤ k → get_or l.sum k 0 ≡ get_or l.fn.sum k 0;
}
