-- The clause of `load_words`, from the clause of `read_u32_into`, which gives each word by its four bytes
-- (`words_of-from_places`).
use Rattle.std.proofs.Common.{arith}
use Rattle.prims_core.proofs.WordFacts.{words_of-from_places}
use Rattle.prims_core.proofs.words.load_words.Goals as goal

pub returns : goal.returns
returns c =
    words_of-from_places c.args.bytes.now c.read_u32_into.new.dst (omega arith) c.read_u32_into.ensures
