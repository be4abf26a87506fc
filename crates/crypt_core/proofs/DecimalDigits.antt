-- Lemmas for `append_decimal` in src/setting/text.rt, which first calls itself for a tenth of the number and then
-- writes the last digit. `decimal` has one digit for a number below 10, and otherwise the digits of the tenth and then
-- the last one. The lemmas say this of the length of `decimal`, and of the text to which it is appended.
use Rattle.std.proofs.Common.{◌≡◌, ℕ, ◌+◌, ◌/◌, ◌%◌, ◌≤◌, ◌<◌, ◌^◌, List, [], ◌∷◌, ◌++◌, length, length-append, append_assoc, sym, ap, ◌∙◌}
use Rattle.std.specs.Prelude.{decimal}
use Rattle.std.proofs.lemmas.Fmt.{decimal_digit, decimal_step}

pub length-decimal_digit : (n : ℕ) → n < 10 → length (decimal n) ≡ 1
length-decimal_digit n small = ap length (decimal_digit n small)

pub length-decimal_step : (n : ℕ) → 10 ≤ n → n < 2 ^ 64 → length (decimal n) ≡ length (decimal (n / 10)) + 1
length-decimal_step n large below = ap length (decimal_step n large below) ∙ length-append (decimal (n / 10)) ((48 + n % 10) ∷ [])

pub append-decimal_digit : (old new : List ℕ) (n : ℕ) → n < 10 → new ≡ old ++ ((48 + n) ∷ []) → new ≡ old ++ decimal n
append-decimal_digit old new n small e = e ∙ ap (λ (x : List ℕ). old ++ x) (sym (decimal_digit n small))

pub append-decimal_step : (old front new : List ℕ) (n : ℕ) → 10 ≤ n → n < 2 ^ 64 → front ≡ old ++ decimal (n / 10) → new ≡ front ++ ((48 + n % 10) ∷ []) → new ≡ old ++ decimal n
append-decimal_step old front new n large below e f =
    f ∙ ap (λ (x : List ℕ). x ++ ((48 + n % 10) ∷ [])) e ∙ append_assoc old (decimal (n / 10)) ((48 + n % 10) ∷ [])
    ∙ ap (λ (x : List ℕ). old ++ x) (sym (decimal_step n large below))
