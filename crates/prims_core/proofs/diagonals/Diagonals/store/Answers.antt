-- The clause of `store`: the shuffles arrange the words in row order (`words_on-stored_in_rows`), and the copy replaces
-- all sixteen words.
use Rattle.std.proofs.Common.{arith, ◌∙◌}
use Rattle.std.proofs.lemmas.Simd.{put_chunk_whole}
use Rattle.prims_core.proofs.FourDiagonals.{words_on-stored_in_rows}
use Rattle.prims_core.proofs.diagonals.Diagonals.store.Goals as goal

pub returns : goal.returns
returns c =
    put_chunk_whole c.args.words.now _ (omega arith)
    ∙ words_on-stored_in_rows c.self.inside.first c.self.inside.second c.self.inside.third c.self.inside.fourth
    c.self.invariant.0 c.self.invariant.2
    ∙ c.self.view_is
