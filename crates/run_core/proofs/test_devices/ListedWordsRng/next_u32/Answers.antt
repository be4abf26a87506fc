-- Proves the goal of `ListedWords::next_u32`: it returns the next number of the stream of the generator, by
-- rand_core's lemma on generators that return one word after another.
use Rattle.std.proofs.Common.{rules}
use Rattle.rand_core.proofs.StepsLemmas.{meets_next_u32}
use Rattle.run_core.proofs.test_devices.ListedWordsRng.next_u32.Goals as goal

pub returns : goal.returns
returns c = meets_next_u32 _ _ _ _ (search rules)
