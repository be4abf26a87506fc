-- The clause of `store_words` is what `write_u32_into` ensures.
use Rattle.std.proofs.Common.{rules}
use Rattle.prims_core.specs.Words.{bytes_of_words}
use Rattle.prims_core.proofs.words.store_words.Goals as goal

pub returns : goal.returns
unfolding bytes_of_words
returns c = search rules
