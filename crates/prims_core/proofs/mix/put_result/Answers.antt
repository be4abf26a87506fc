-- The clause of `put_result`: one more result is in its place, and the others stay in theirs (`ArePlaced-put_mid`).
use Rattle.std.proofs.Common.{◌∙◌, arith}
use Rattle.prims_core.proofs.MixedBlocks.{ArePlaced-put_mid}
use Rattle.prims_core.proofs.mix.put_result.Goals as goal

pub returns : goal.returns
returns c y before is =
    ArePlaced-put_mid c.args.r c.args.i _ y c.args.dst.now c.store_diagonals.new.words c.requires.1 c.requires.0 (omega arith)
    (omega arith) (c.store_diagonals.ensures ∙ is) before
