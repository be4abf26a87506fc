-- The loop of `mix_parts`: the parts before part i are replaced by their ROMix, the parts from i on are as at the
-- start, the memory for rows has kept its size, and the mixings are counted.
use Rattle.std.proofs.Common.{◌≡◌, ◌+◌, ◌*◌, take, drop}
use Rattle.kdf_core.proofs.MixedParts.{first_parts}
use Rattle.kdf_core.proofs.romix.mix_parts.Given as goal

abbrev pub invariant-parts : goal.invariant-parts
invariant-parts g l = record {
  done : take (l.size * l.i) l.parts ≡ first_parts l.row_count l.size l.fn.parts l.i;
  to_come : drop (l.size * l.i) l.parts ≡ drop (l.size * l.i) l.fn.parts;
  kept : g.M.Rows.room l.rows ≡ g.M.Rows.room l.fn.rows;
  count : l.meter ≡ record l.fn.meter { mixes = l.fn.meter.mixes + 2 * l.row_count * l.i };
}
