-- Proves the goal of `ListedWords::fill_bytes`: it fills the buffer with bytes of the generator's stream, by
-- rand_core's lemma on generators that return one word after another.
use Rattle.std.proofs.Common.{rules}
use Rattle.rand_core.proofs.StepsLemmas.{meets_fill_bytes}
use Rattle.run_core.proofs.test_devices.ListedWordsRng.fill_bytes.Goals as goal

pub returns : goal.returns
returns c = meets_fill_bytes _ _ _ _ _ (search rules)
