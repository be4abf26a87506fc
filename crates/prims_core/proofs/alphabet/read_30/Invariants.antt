-- The loop of `read_30`: the unread digits, followed by the numeral of the number so far, are the digits of the
-- argument.
use Rattle.std.proofs.Common.{◌≡◌, ◌^◌, ◌++◌, ◌<◌, length}
use Rattle.prims_core.specs.Alphabet.{numerals}
use Rattle.prims_core.proofs.alphabet.read_30.Given as goal

abbrev pub invariant-digits : goal.invariant-digits
invariant-digits l = record {
  split : l.digit-iterator.iter.rest.now ++ numerals (length l.yielded) l.number ≡ l.digits;
  small : l.number < 64 ^ length l.yielded;
}
