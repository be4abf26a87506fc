-- The loop of `digit_bytes` in src/work.rt adds the bytes for the lowest binary digit and halves the number, as the
-- definition `digit_bytes` does. The sum is at most the number times `password_limit`, which bounds `one` and `other`,
-- so nothing overflows (CycleLemmas).
use Rattle.std.proofs.Common.{◌≡◌, ℕ, arith, ap, ◌∙◌}
use Rattle.crypt_core.specs.Passwords.{password_limit}
use Rattle.crypt_core.specs.Cycle.{digit_bytes}
use Rattle.crypt_core.proofs.CycleLemmas.{digit_bytes-le-mul, digit_bytes-zero, digit_bytes-step}
use Rattle.crypt_core.proofs.work.digit_bytes.Goals as goal

pub overflow_add-bytes : goal.overflow_add-bytes
overflow_add-bytes c =
    let step = digit_bytes-step c.args.one c.args.other c.digits.rest c.digits-test.true in
    let few = digit_bytes-le-mul c.args.one c.args.other password_limit c.args.number c.requires.one c.requires.other in
    omega (arith, c.piece_bytes-bytes.ensures, step, few, c.digits.invariant)

pub digits-preserved : goal.digits-preserved
digits-preserved c =
    omega (arith, c.piece_bytes-bytes.ensures, digit_bytes-step c.args.one c.args.other c.digits.rest c.digits-test.true, c.digits.invariant)

-- The number 0 has no binary digits, so there are no bytes for them.
digit_bytes-none_left : (one other n : ℕ) → n ≡ 0 → digit_bytes one other n ≡ 0
digit_bytes-none_left one other n none = ap (digit_bytes one other) none ∙ digit_bytes-zero one other

pub returns-clause-bytes : goal.returns-clause-bytes
returns-clause-bytes c = omega (arith, digit_bytes-none_left c.args.one c.args.other c.digits.rest (omega arith), c.digits.invariant)

pub returns-clause-few : goal.returns-clause-few
returns-clause-few c =
    omega (arith, digit_bytes-le-mul c.args.one c.args.other password_limit c.args.number c.requires.one c.requires.other, returns-clause-bytes c)
