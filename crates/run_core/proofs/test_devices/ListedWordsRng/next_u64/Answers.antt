-- Proves the goal of `ListedWords::next_u64`: it returns the next number of the stream of the generator, by
-- rand_core's lemma on generators that return one word after another.
use Rattle.std.proofs.Common.{rules}
use Rattle.rand_core.proofs.StepsLemmas.{meets_next_u64}
use Rattle.run_core.proofs.test_devices.ListedWordsRng.next_u64.Goals as goal

pub returns : goal.returns
returns c = meets_next_u64 _ _ _ _ (search rules)
