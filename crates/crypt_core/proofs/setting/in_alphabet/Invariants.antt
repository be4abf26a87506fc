-- In the loop of `in_alphabet`, the bytes seen so far are characters of the alphabet.
use Rattle.std.specs.Prelude.{Contains}
use Rattle.prims_core.specs.Alphabet.{alphabet}
use Rattle.std.proofs.Common.{All, take}
use Rattle.crypt_core.proofs.setting.in_alphabet.Given as goal

abbrev pub invariant-loop-byte : goal.invariant-loop-byte
invariant-loop-byte l = All (Contains alphabet) (take l.byte-index l.bytes)
