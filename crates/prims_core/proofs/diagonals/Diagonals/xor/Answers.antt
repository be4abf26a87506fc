-- The clause of `xor`: XORing the diagonals XORs the words of the blocks (`words_on-zip2`), and each diagonal of the
-- result has four words (`HaveFourWords-zip2`).
use Rattle.std.proofs.Common.{◌∙◌, ap₂}
use Rattle.std.specs.Simd.Lanes.{zip2}
use Rattle.prims_core.specs.Words.{xor_lists}
use Rattle.prims_core.proofs.FourDiagonals.{words_on-zip2, HaveFourWords-zip2}
use Rattle.prims_core.proofs.diagonals.Diagonals.xor.Goals as goal

pub invariant_of-result : goal.invariant_of-result
invariant_of-result c = HaveFourWords-zip2 _ _ _ _ _ _ _ _ _ c.self.invariant c.other.invariant

pub returns : goal.returns
unfolding xor_lists
returns c =
    words_on-zip2 _ _ _ _ _ _ _ _ _ c.self.invariant c.other.invariant ∙ ap₂ (zip2 _) c.self.view_is c.other.view_is
