-- The loop of `pbkdf2`: before block i + 1 is written, `out` begins with the first i blocks, as far as they fit, and
-- their work is counted.
use Rattle.std.proofs.Common.{◌≡◌, ℕ, ◌*◌, List, length, take}
use Rattle.std.specs.List.{flat_map, range_with_len}
use Rattle.prims_core.specs.Meter.{with_work}
use Rattle.kdf_core.specs.HmacMessages.{IsKeyOf}
use Rattle.kdf_core.specs.Pbkdf2.{block}
use Rattle.kdf_core.specs.Pbkdf2Messages.{block_bytes}
use Rattle.kdf_core.proofs.pbkdf2.pbkdf2.Given as goal

abbrev pub invariant-filling : goal.invariant-filling
invariant-filling l = record {
  front : (password : List ℕ) → IsKeyOf l.key password
      → take (32 * l.i) l.out ≡ take (length l.fn.out) (flat_map (block password l.salt l.rounds) (range_with_len 1 l.i));
  count : l.meter ≡ with_work l.fn.meter (2 * l.rounds * l.i) (l.i * block_bytes (length l.salt) l.rounds);
}
