-- Each iteration of the loop of `salt_of` appends the next character of `made_salt`, whose characters are all in the
-- alphabet (clause `characters`).
use Rattle.std.proofs.Common.{arith, rules, refl}
use Rattle.std.proofs.lemmas.Nat.{and_mask}
use Rattle.crypt_core.specs.MadeSalts.{made_salt}
use Rattle.crypt_core.proofs.MadeSaltLemmas.{made_salt-more, in_alphabet-made_salt}
use Rattle.crypt_core.proofs.made_salt.salt_of.Goals as goal

pub characters-init : goal.characters-init
unfolding made_salt
characters-init c = search rules

pub characters-preserved : goal.characters-preserved
characters-preserved c = record {
  items = rw (c.push.ensures.items, c.characters.invariant.items, made_salt-more, c.char_of.ensures, and_mask _ 6) refl;
  len = omega arith;
}

pub returns-clause-characters : goal.returns-clause-characters
returns-clause-characters c = rw c.characters.invariant.items (in_alphabet-made_salt c.args.words c.characters.i)
