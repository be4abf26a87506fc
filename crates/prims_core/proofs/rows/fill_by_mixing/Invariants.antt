-- The loop of `fill_by_mixing`: after n iterations there are 2n rows, and row i is the start after i mixings. x is the
-- start after 2n mixings, and the 2n mixings are counted.
use Rattle.std.proofs.Common.{◌≡◌, ◌+◌, ◌*◌, length}
use Rattle.std.specs.Fn.{iterate}
use Rattle.prims_core.specs.BlockMix.{block_mix}
use Rattle.prims_core.specs.Diagonals.{in_rows}
use Rattle.prims_core.proofs.FilledTable.{HasMixings}
use Rattle.prims_core.proofs.rows.fill_by_mixing.Given as goal

abbrev pub invariant-filling : goal.invariant-filling
invariant-filling g l = record {
  filled : HasMixings (g.R.Rows.words l.rows) (length l.fn.x) (2 * l.counter) (in_rows l.fn.x);
  kept : g.R.Rows.room l.rows ≡ g.R.Rows.room l.fn.rows;
  mixed : in_rows l.x ≡ iterate block_mix (2 * l.counter) (in_rows l.fn.x);
  count : l.meter ≡ record l.fn.meter { mixes = l.fn.meter.mixes + 2 * l.counter };
}
