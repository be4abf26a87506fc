-- The clauses of `mix_back`. The slice that it takes of the table is row j (`row_slice-get_or`), which holds the start
-- after j mixings. So mixing the XOR of this row and x is one step of ROMix's second loop.
use Rattle.std.proofs.Common.{ℕ, ◌<◌, length, ap, ◌∙◌, arith}
use Rattle.std.specs.Fn.{iterate}
use Rattle.prims_core.specs.BlockMix.{block_mix}
use Rattle.prims_core.specs.Diagonals.{in_rows}
use Rattle.prims_core.specs.Words.{xor_lists}
use Rattle.kdf_core.specs.Scrypt.{mixed_back}
use Rattle.kdf_core.proofs.ScryptBounds.{IsPower-pos}
use Rattle.kdf_core.proofs.TableRows.{length-row_slice, row_slice-get_or}
use Rattle.kdf_core.proofs.romix.mix_back.Goals as goal

pub mix_xor_diagonals-requires-clause-blocks : goal.mix_xor_diagonals-requires-clause-blocks
mix_xor_diagonals-requires-clause-blocks c =
    let half = c.requires.halves.1 in
    let below : c.row_number.result < c.args.row_count = omega (arith, IsPower-pos c.args.row_count c.requires.power.0 c.requires.power.1) in (
      c.requires.halves.0,
      half.some_block,
      half.first,
      length-row_slice c.args.row_count (length c.args.x.now) c.row_number.result c.args.table.now below c.requires.whole ∙ half.first,
      half.second,
    )

pub returns-clause-mixed : goal.returns-clause-mixed
unfolding mixed_back
returns-clause-mixed c start holds =
    let i : ℕ = c.row_number.result in
    let below : i < c.args.row_count = omega (arith, IsPower-pos c.args.row_count c.requires.power.0 c.requires.power.1) in
    c.mix_xor_diagonals.ensures.mixed
    ∙ ap (λ v. block_mix (xor_lists (in_rows c.args.x.now) v)) (ap in_rows (row_slice-get_or c.args.row_count (length c.args.x.now) i c.args.table.now below)
    ∙ (holds i below ∙ ap (λ j. iterate block_mix j start) c.row_number.ensures))
