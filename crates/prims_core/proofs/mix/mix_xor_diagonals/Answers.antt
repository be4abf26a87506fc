-- The precondition of `mix_blocks` in `mix_xor_diagonals`: `src` and `row` have 32r words each, so their XOR has 32r
-- words.
use Rattle.std.proofs.Common.{◌≡◌, length, arith}
use Rattle.prims_core.specs.Diagonals.{in_rows}
use Rattle.prims_core.proofs.BlockFacts.{length-in_rows}
use Rattle.prims_core.proofs.WordFacts.{length-xor_lists}
use Rattle.prims_core.proofs.mix.mix_xor_diagonals.Goals as goal

pub mix_blocks-requires : goal.mix_blocks-requires
mix_blocks-requires c =
    let src = in_rows c.args.src.now in
    let row = in_rows c.args.row.now in
    let same_length : length row ≡ length src =
    omega (arith, c.requires.blocks, length-in_rows c.args.src.now, length-in_rows c.args.row.now) in (
      omega (arith, c.requires.blocks),
      omega (arith, c.requires.blocks, length-xor_lists src row same_length, length-in_rows c.args.src.now),
      omega (arith, c.requires.blocks),
    )
