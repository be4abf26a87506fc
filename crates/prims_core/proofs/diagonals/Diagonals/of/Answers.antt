-- The clause of `of`: the words that the four swizzles pick make up the block (`words_on-loaded_from_rows`).
use Rattle.std.proofs.Common.{arith}
use Rattle.std.proofs.lemmas.List.{take_all}
use Rattle.prims_core.proofs.FourDiagonals.{words_on-loaded_from_rows}
use Rattle.prims_core.proofs.diagonals.Diagonals.of.Goals as goal

pub returns : goal.returns
returns c = rw (take_all 16 c.args.words.now (omega arith)) (words_on-loaded_from_rows c.args.words.now c.requires)
