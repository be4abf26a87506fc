-- The clauses of `read_30`. Each iteration puts the last unread digit in front of the numeral of the number so far
-- (`numerals-digit_read`), so at the end this numeral is all digits. If the loop stops early, it found a digit outside
-- the alphabet, so the digits are not the numeral of any number.
use Rattle.std.proofs.Common.{◌≡◌, ℕ, List, [], ◌∷◌, ◌++◌, ◌+◌, ◌<◌, ◌^◌, length, true, false, Some, refl, sym, ap, ◌∙◌, subst, arith, length-append}
use Rattle.std.specs.Prelude.{Contains, All}
use Rattle.prims_core.specs.Alphabet.{alphabet, numerals}
use Rattle.prims_core.proofs.NumeralFacts.{All-numerals, length-numerals, numerals-injective, mul-add-lt_pow, numerals-none_read, numerals-digit_read, length-all_read, numerals-all_read, not_All-with_outside}
use Rattle.prims_core.proofs.alphabet.read_30.Goals as goal

pub returns-then-digits-ne5-clause-inverse : goal.returns-then-digits-ne5-clause-inverse
returns-then-digits-ne5-clause-inverse c n small is =
    absurd (c.if-digits-ne5.true (sym (ap length is) ∙ length-numerals 5 n))

pub digits-init : goal.digits-init
digits-init c = record {
  split = numerals-none_read _ _ (cc);
  small = omega arith;
}

-- If the call returns `None` at a digit, that digit is not in the alphabet, so not all digits are in the alphabet.
digits-not_All_Contains : (c : goal.After-from_residual) → All (Contains alphabet) c.args.digits.now → ⊥
digits-not_All_Contains c all =
    let digit_outside : Contains alphabet c.in-Some.digit.now → ⊥ = λ inside. (let no : false ≡ true = c.in_err-value_of.ensures.accepts.1 inside in cc) in
    not_All-with_outside c.next.new.self.iter.rest.now (numerals (length c.digits.yielded) c.digits.number)
    c.args.digits.now c.in-Some.digit.now
    (ap (λ (xs : List ℕ). xs ++ numerals (length c.digits.yielded) c.digits.number) (sym c.in-Some.ensures.steps)
    ∙ c.digits.invariant.split) digit_outside all

pub returns-in_err-value_of-clause-accepts : goal.returns-in_err-value_of-clause-accepts
returns-in_err-value_of-clause-accepts c =
    ((λ some. (let no : false ≡ true = rw c.from_residual.ensures at some in cc)), λ both. absurd (digits-not_All_Contains c both.1))

pub returns-in_err-value_of-clause-inverse : goal.returns-in_err-value_of-clause-inverse
returns-in_err-value_of-clause-inverse c n small is =
    absurd (digits-not_All_Contains c (All-numerals 5 n c.args.digits.now is))

pub digits-preserved : goal.digits-preserved
digits-preserved c =
    let one_more : length (c.digits.yielded ++ c.in-Some.digit ∷ []) ≡ length c.digits.yielded + 1 =
    length-append c.digits.yielded (c.in-Some.digit ∷ []) in
    record {
      split = rw (one_more, c.from.ensures) (numerals-digit_read _ _ _ _ _ _ _ c.in-Some.ensures.steps
          c.in_ok-value_of.ensures.value.0 c.in_ok-value_of.ensures.value.1 c.digits.invariant.split);
      small = rw (one_more, c.from.ensures) (mul-add-lt_pow _ _ _ c.digits.invariant.small c.in_ok-value_of.ensures.value.0);
    }

-- At the end all digits are read, so the digits are the numeral of the number, which is below 64 ^ 5.
numeral-of_whole_digits : (c : goal.In-None)
    → (numerals 5 c.digits.number ≡ c.args.digits.now) × (c.digits.number < 64 ^ 5)
numeral-of_whole_digits c =
    let none_left : length c.digits.digit-iterator.iter.rest.now ≡ 0 = c.in-None.ensures.steps.0 in
    let five_read : length c.digits.yielded ≡ 5 =
    sym (length-all_read _ _ _ _ none_left c.digits.invariant.split) ∙ c.if-digits-ne5.false in (
      ap (λ (n : ℕ). numerals n c.digits.number) (sym five_read) ∙ numerals-all_read _ _ _ _ none_left c.digits.invariant.split,
      subst (λ (n : ℕ). c.digits.number < 64 ^ n) five_read c.digits.invariant.small,
    )

pub returns-clause-accepts : goal.returns-clause-accepts
returns-clause-accepts c =
    ((λ _. (c.if-digits-ne5.false, All-numerals 5 c.digits.number c.args.digits.now (numeral-of_whole_digits c).0)), λ _. refl)

pub returns-clause-inverse : goal.returns-clause-inverse
returns-clause-inverse c n small is =
    ap Some (numerals-injective 5 c.digits.number n (numeral-of_whole_digits c).1 small ((numeral-of_whole_digits c).0 ∙ sym is))
