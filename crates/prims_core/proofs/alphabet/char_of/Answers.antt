-- The clause of `char_of`: the array in the code is the alphabet of the definition, so both sides compute to the same
-- character.
use Rattle.std.proofs.Common.{refl}
use Rattle.prims_core.specs.Alphabet.{alphabet}
use Rattle.prims_core.proofs.alphabet.char_of.Goals as goal

pub returns : goal.returns
unfolding alphabet
returns c = refl
