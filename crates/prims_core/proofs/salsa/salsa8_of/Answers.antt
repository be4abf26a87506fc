-- The clause of `salsa8_of`: the sixteen words after the double rounds are the four rows joined
-- (`concat-chunks_exact`), and the block is added to them.
use Rattle.std.proofs.Common.{ap, ◌∙◌, sym, arith}
use Rattle.std.specs.Simd.Lanes.{zip2}
use Rattle.std.specs.List.{concat}
use Rattle.prims_core.specs.Salsa.{sum_of_words, salsa20_8}
use Rattle.prims_core.proofs.ChunkFacts.{concat-chunks_exact}
use Rattle.prims_core.proofs.salsa.salsa8_of.Goals as goal

pub returns : goal.returns
unfolding salsa20_8
returns c =
    let mixed = c.four_double_rounds.result in
    c.sum.ensures
    ∙ ap (zip2 sum_of_words c.args.block.now)
    (sym (concat-chunks_exact mixed 4 4 (omega arith) c.four_double_rounds.ensures.words) ∙ ap concat c.four_double_rounds.ensures.rows)
