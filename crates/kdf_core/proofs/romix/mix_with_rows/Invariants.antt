-- The loop of `mix_with_rows`: after n iterations x has gone through 2n steps of ROMix's second loop, and the mixings
-- are counted.
use Rattle.std.proofs.Common.{◌≡◌, ℕ, ◌+◌, ◌*◌, List, length}
use Rattle.std.specs.Fn.{iterate}
use Rattle.prims_core.specs.Diagonals.{in_rows}
use Rattle.prims_core.specs.Memory.{rows_of, HoldsMixings}
use Rattle.kdf_core.specs.Scrypt.{mixed_back}
use Rattle.kdf_core.proofs.romix.mix_with_rows.Given as goal

abbrev pub invariant-mixing : goal.invariant-mixing
invariant-mixing l = record {
  mixed : (start : List ℕ) → HoldsMixings (rows_of l.row_count (length l.fn.x) l.table) l.row_count start
      → in_rows l.x ≡ iterate (mixed_back l.row_count start) (2 * l.counter) (in_rows l.fn.x);
  count : l.meter ≡ record l.fn.meter { mixes = l.fn.meter.mixes + 2 * l.counter };
}
