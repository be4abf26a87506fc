-- The clauses of `put_group`, from the invariant of its loop. Each iteration writes one character of the numeral
-- (`numerals-character_written`), and after the last iteration the numeral is complete (`numerals-all_written`).
use Rattle.std.proofs.Common.{arith}
use Rattle.prims_core.proofs.NumeralFacts.{numerals-character_written, numerals-all_written}
use Rattle.prims_core.proofs.alphabet.put_group.Goals as goal

pub characters-preserved : goal.characters-preserved
characters-preserved c = record {
  group = numerals-character_written c.characters.out.items c.push.new.self.items _ c.char_of.result c.args.chars
      c.characters.counter c.characters.rest c.push.ensures.items c.char_of.ensures (omega arith)
      c.characters.invariant.group;
  written = omega (arith, c.push.ensures.len);
}

pub returns-clause-items : goal.returns-clause-items
returns-clause-items c = numerals-all_written c.characters.out.items _ c.args.chars c.characters.counter
    c.characters.rest (omega arith) c.characters.invariant.group
