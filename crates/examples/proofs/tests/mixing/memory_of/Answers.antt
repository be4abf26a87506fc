-- The memory of a table of two rows of 32 words has capacity for 64 words, as `into_words` ensures for a table of this
-- shape.
use Rattle.examples.proofs.tests.mixing.memory_of.Goals as goal

pub returns : goal.returns
returns c = c.into_words.ensures.room 2 32 c.requires.shape
