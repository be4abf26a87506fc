-- The loop of `put_group`: the characters written so far, followed by the numeral of the rest of the value, are the
-- numeral of the whole value.
use Rattle.std.proofs.Common.{◌≡◌, ◌+◌, ◌-◌, ◌++◌, length}
use Rattle.prims_core.specs.Alphabet.{numerals}
use Rattle.prims_core.proofs.alphabet.put_group.Given as goal

abbrev pub invariant-characters : goal.invariant-characters
invariant-characters l = record {
  group : l.out.items ++ numerals (l.chars - l.counter) l.rest ≡ l.fn.out.items ++ numerals l.chars l.value;
  written : length l.out.items ≡ length l.fn.out.items + l.counter;
}
