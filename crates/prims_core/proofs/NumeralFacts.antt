-- Numbers and their numerals, for `put_group` and `read_30`: each number below 64 ^ n has exactly one numeral of n
-- characters. `put_group` writes a numeral from its first character on, and `read_30` reads one from its last character
-- on. The lemmas whose names end in `_written` and `_read` are the first, middle and last steps of their loops. By
-- `numerals-injective`, the number that `read_30` returns is the only one with that numeral.
use Rattle.std.proofs.Common.{◌≡◌, ℕ, zero, suc, ◌+◌, ◌-◌, ◌*◌, ◌/◌, ◌%◌, ◌^◌, ◌<◌, ◌≤◌, List, [], ◌∷◌, ◌++◌, length, get_or, refl, sym, ◌∙◌, ap, subst, add-one, append_assoc, append-nil, length-append, arith}
use Rattle.std.specs.Prelude.{Contains, All}
use Rattle.std.proofs.Math.Nat.{pow-suc}
use Rattle.std.proofs.Math.Seq.{get_or-append_seam}
use Rattle.std.proofs.lemmas.Nat.{mod-mul-add, div-mul-add}
use Rattle.prims_core.specs.Alphabet.{alphabet, character_of, numerals}
use Rattle.prims_core.proofs.AlphabetFacts.{Contains-character_of, character_of-injective}

-- A numeral of n characters is the character of the lowest six bits, followed by the numeral of the other bits.
pub numerals-add_one : (n m value : ℕ) → n ≡ m + 1
    → numerals n value ≡ character_of (value % 64) ∷ numerals m (value / 64)
unfolding numerals
numerals-add_one n m value n_is = rw (n_is, add-one) refl

pub numerals-zero : (value : ℕ) → numerals 0 value ≡ []
unfolding numerals
numerals-zero value = refl

pub length-numerals : (n value : ℕ) → length (numerals n value) ≡ n
unfolding numerals
length-numerals zero value = refl
length-numerals (suc n) value = ap suc (length-numerals n (value / 64))

-- One iteration of `put_group`: the characters written, followed by the numeral of the rest, are still the whole
-- numeral.
pub numerals-character_written : (out more whole : List ℕ) (character chars count rest : ℕ)
    → more ≡ out ++ character ∷ [] → character ≡ character_of (rest % 64) → count < chars
    → out ++ numerals (chars - count) rest ≡ whole
    → more ++ numerals (chars - (count + 1)) (rest / 64) ≡ whole
numerals-character_written out more whole character chars count rest more_is character_is some_left so_far =
    let numeral_split : numerals (chars - count) rest ≡ character ∷ numerals (chars - (count + 1)) (rest / 64) =
    rw character_is (numerals-add_one (chars - count) (chars - (count + 1)) rest (omega arith)) in
    rw (more_is, append_assoc) (ap (λ (xs : List ℕ). out ++ xs) (sym numeral_split) ∙ so_far)

-- The end of `put_group`: when all characters are written, they are the whole numeral.
pub numerals-all_written : (out whole : List ℕ) (chars count rest : ℕ) → chars ≤ count
    → out ++ numerals (chars - count) rest ≡ whole → out ≡ whole
numerals-all_written out whole chars count rest none so_far =
    let none_left : chars - count ≡ 0 = omega arith in
    let last : out ++ [] ≡ whole =
    subst (λ (xs : List ℕ). out ++ xs ≡ whole) (ap (λ (n : ℕ). numerals n rest) none_left ∙ numerals-zero rest) so_far in
    sym (append-nil out) ∙ last

-- The numeral of number * 64 + v, with v below 64, is the character of v followed by the numeral of the number.
pub numerals-mul-add : (n number v c : ℕ) → v < 64 → character_of v ≡ c
    → numerals (n + 1) (number * 64 + v) ≡ c ∷ numerals n number
numerals-mul-add n number v c below spells_c =
    rw (numerals-add_one (n + 1) n (number * 64 + v) refl, mod-mul-add number 64 v below, div-mul-add number 64 v below)
    (ap (λ (d : ℕ). d ∷ numerals n number) spells_c)

-- If a number is below 64 ^ n and v is below 64, number * 64 + v is below 64 ^ (n + 1).
pub mul-add-lt_pow : (n number v : ℕ) → number < 64 ^ n → v < 64 → number * 64 + v < 64 ^ (n + 1)
mul-add-lt_pow n number v small below =
    let power : 64 ^ (n + 1) ≡ 64 ^ n * 64 = rw add-one (pow-suc 64 n) in
    omega arith

-- Each character of a numeral is in the alphabet.
pub Contains-numerals : (n value i d : ℕ) → i < n → Contains alphabet (get_or (numerals n value) i d)
unfolding numerals
Contains-numerals zero value i d inside = absurd (omega arith)
Contains-numerals (suc n) value zero d inside =
    Contains-character_of (character_of (value % 64)) (value % 64) (omega arith) refl
Contains-numerals (suc n) value (suc i) d inside = Contains-numerals n (value / 64) i d (omega arith)

pub All-numerals : (n value : ℕ) (digits : List ℕ) → numerals n value ≡ digits → All (Contains alphabet) digits
All-numerals n value digits is i d inside =
    subst (λ (xs : List ℕ). Contains alphabet (get_or xs i d)) is
    (Contains-numerals n value i d (omega (arith, ap length is, length-numerals n value)))

-- No two numbers below 64 ^ n have the same numeral of n characters. The proof goes by induction over n.
pub numerals-injective : (n a b : ℕ) → a < 64 ^ n → b < 64 ^ n → numerals n a ≡ numerals n b → a ≡ b
unfolding numerals
numerals-injective zero a b small_a small_b same = omega arith
numerals-injective (suc n) a b small_a small_b same =
    let power : 64 ^ suc n ≡ 64 ^ n * 64 = pow-suc 64 n in
    let same_first : character_of (a % 64) ≡ character_of (b % 64) = cc in
    let same_rest : numerals n (a / 64) ≡ numerals n (b / 64) = cc in
    let same_remainder : a % 64 ≡ b % 64 = character_of-injective (a % 64) (b % 64) (omega arith) (omega arith) same_first in
    let same_quotient : a / 64 ≡ b / 64 = numerals-injective n (a / 64) (b / 64) (omega arith) (omega arith) same_rest in
    omega arith

-- If a list has a character c that is not in the alphabet, not all its characters are in the alphabet.
pub not_All-with_outside : (front back digits : List ℕ) (c : ℕ) → (front ++ c ∷ []) ++ back ≡ digits
    → (Contains alphabet c → ⊥) → All (Contains alphabet) digits → ⊥
not_All-with_outside front back digits c digits_are c_outside all =
    let digits_split : front ++ c ∷ back ≡ digits = sym (append_assoc front (c ∷ []) back) ∙ digits_are in
    let digit_is_c : get_or digits (length front) 0 ≡ c =
    subst (λ (xs : List ℕ). get_or xs (length front) 0 ≡ c) digits_split (get_or-append_seam front c back 0) in
    let inside : length front < length digits =
    omega (arith, simp length-append at (ap length digits_are)) in
    c_outside (subst (Contains alphabet) digit_is_c (all (length front) 0 inside))

-- `read_30` reads from the last digit to the first. The lemmas are its loop before any digit is read, after one more
-- digit, and at the end.
pub numerals-none_read : (rest digits : List ℕ) → rest ≡ digits → rest ++ numerals 0 0 ≡ digits
numerals-none_read rest digits rest_is = rw numerals-zero (append-nil rest ∙ rest_is)

-- After one more digit is read from the end, the digits that are left and the numerals of the new number are still all
-- digits.
pub numerals-digit_read : (rest fewer digits : List ℕ) (digit v n number : ℕ) → rest ≡ fewer ++ digit ∷ []
    → v < 64 → character_of v ≡ digit → rest ++ numerals n number ≡ digits
    → fewer ++ numerals (n + 1) (number * 64 + v) ≡ digits
numerals-digit_read rest fewer digits digit v n number rest_is below spells_digit so_far =
    rw (numerals-mul-add n number v digit below spells_digit)
    (sym (append_assoc fewer (digit ∷ []) (numerals n number))
    ∙ ap (λ (xs : List ℕ). xs ++ numerals n number) (sym rest_is) ∙ so_far)

pub length-all_read : (rest digits : List ℕ) (n number : ℕ) → length rest ≡ 0
    → rest ++ numerals n number ≡ digits → length digits ≡ n
length-all_read rest digits n number none so_far =
    omega (arith, simp (length-append, length-numerals) at (ap length so_far))

-- Once no digit is left, the numerals of the number are all digits.
pub numerals-all_read : (rest digits : List ℕ) (n number : ℕ) → length rest ≡ 0
    → rest ++ numerals n number ≡ digits → numerals n number ≡ digits
numerals-all_read [] digits n number none so_far = so_far
numerals-all_read (x ∷ rest) digits n number none so_far = absurd (omega arith)
