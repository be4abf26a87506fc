-- In the loop of `salt_of`, the salt so far is the generated salt of i characters.
use Rattle.std.proofs.Common.{◌≡◌}
use Rattle.arrayvec.specs.ArrayVec.{array_vec_len}
use Rattle.crypt_core.specs.MadeSalts.{made_salt}
use Rattle.crypt_core.proofs.made_salt.salt_of.Given as goal

abbrev pub invariant-characters : goal.invariant-characters
invariant-characters l = record {
  items : l.salt.items ≡ made_salt l.words l.i;
  len : array_vec_len l.salt ≡ l.i;
}
