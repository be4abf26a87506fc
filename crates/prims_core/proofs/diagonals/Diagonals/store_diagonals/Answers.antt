-- The clause of `store_diagonals`: the shuffles arrange the words in diagonal order (`words_on-stored_by_diagonals`),
-- and the copy replaces all sixteen words.
use Rattle.std.proofs.Common.{arith, ap, ◌∙◌}
use Rattle.std.proofs.lemmas.Simd.{put_chunk_whole}
use Rattle.prims_core.specs.Diagonals.{block_in_rows}
use Rattle.prims_core.proofs.FourDiagonals.{words_on-stored_by_diagonals}
use Rattle.prims_core.proofs.diagonals.Diagonals.store_diagonals.Goals as goal

pub returns : goal.returns
returns c =
    ap block_in_rows (put_chunk_whole c.args.words.now _ (omega arith))
    ∙ words_on-stored_by_diagonals c.self.inside.first c.self.inside.second c.self.inside.third c.self.inside.fourth
    c.self.invariant.0 c.self.invariant.2
    ∙ c.self.view_is
