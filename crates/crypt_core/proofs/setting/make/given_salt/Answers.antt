-- Proves the clause `err` of `given_salt`: a salt of the wrong length breaks the rule of `SaltLength`, and one of the
-- right length with a character outside the alphabet breaks that of `SaltCharacter` (MadeSettings). Both rules come
-- before the one on the cost, so the error is the same for any `cost`.
use Rattle.std.proofs.Common.{◌≤◌, ◌<◌, inl, inr, length, All, Contains, arith, rules}
use Rattle.prims_core.specs.Alphabet.{alphabet}
use Rattle.crypt_core.specs.MethodLimits.{salt_limit}
use Rattle.crypt_core.proofs.MadeSettings.{make_refused_character, make_refused_length}
use Rattle.crypt_core.proofs.setting.make.given_salt.Goals.{then-is_empty-via-then-is_empty, then-is_empty-via-else-is_empty+then-salt-row}
use Rattle.crypt_core.proofs.setting.make.given_salt.Goals as goal

pub returns-then-is_empty-clause-err : goal.returns-then-is_empty-clause-err
returns-then-is_empty-clause-err c = λ cost.
    elim c.then-is_empty.branch [
      | then-is_empty-via-then-is_empty w ↦ make_refused_length c.args.method cost c.args.salt.now (inl (search rules))
      | then-is_empty-via-else-is_empty+then-salt-row w ↦
          let long : salt_limit c.args.method < length c.args.salt.now = omega arith in
          make_refused_length c.args.method cost c.args.salt.now (inr long)
    ]

pub returns-then-not-in_alphabet-clause-err : goal.returns-then-not-in_alphabet-clause-err
returns-then-not-in_alphabet-clause-err c = λ cost.
    let some : 0 < length c.args.salt.now = search rules in
    let short : length c.args.salt.now ≤ salt_limit c.args.method = omega arith in
    let bad : All (Contains alphabet) c.args.salt.now → ⊥ = search rules in
    make_refused_character c.args.method cost c.args.salt.now some short bad
