-- Lemmas for the parsing functions in src/setting/read.rt: `field_len`, `number_at`, `capped_number`, `numbers_at` and
-- `scheme_at`. `HasField-first_dollar` shows that the field ends before the first `$`. Since a text has only one such
-- field, the text lacks a number if this field isn't one. Capping the number at each digit equals capping it at the
-- end. The characters of scrypt's cost part are cut at fixed places into three numbers.
use Rattle.std.proofs.Common.{◌≡◌, ◌≢◌, ℕ, zero, suc, ◌+◌, ◌-◌, ◌*◌, ◌≤◌, ◌<◌, ◌^◌, Bool, true, false, cond, not, eqb, nat_lt, List, [], ◌∷◌, ◌++◌, length, take, drop, get_or, All, Contains, Option, Some, None, refl, sym, ap, subst, ◌∙◌, append_assoc, add-one, arith}
use Rattle.std.specs.Prelude.{IfNone, min}
use Rattle.std.specs.List.{position, position_or_len}
use Rattle.std.specs.Option.{unwrap_or}
use Rattle.std.specs.Str.Parse.{digits_value}
use Rattle.std.proofs.Math.Seq.{drop-cons, drop-nil, take-length}
use Rattle.std.proofs.lemmas.Bool.{eqb-true, eqb-false, ltb-false}
use Rattle.std.proofs.lemmas.List.{append_cancel_left, take-append-drop, take-append-le, drop-append-le, get_or-take, get_or_append_left, length-append, length-take, length-drop}
use Rattle.std.proofs.lemmas.List.Sums.{fails_before_first, passes_at_first, prefix_len-le-length}
use Rattle.std.proofs.lemmas.List.Elements.{All-from_get_or, All-get_or, All-take, All-drop}
use Rattle.std.proofs.lemmas.Int.Digits.{digits_value_more}
use Rattle.std.proofs.lemmas.Str.{digit_value_digit}
use Rattle.prims_core.specs.Alphabet.{alphabet, character_of, numerals}
use Rattle.kdf_core.specs.Params.{scrypt_params}
use Rattle.crypt_core.specs.Private.Parts.{HasField, HasNumerals, LacksCharacters, LacksNumber}
use Rattle.crypt_core.specs.Settings.{dollar, IsRoundsNumber, scrypt_part}
use Rattle.crypt_core.specs.Rounds.{max_rounds}
use Rattle.crypt_core.specs.TextLimits.{scrypt_part_len}
use Rattle.crypt_core.proofs.DollarFields.{IsEndOfField, IsEndOfField-from_cases, end_of_field-cases, field_unique}
use Rattle.crypt_core.proofs.SpelledRounds.{IsField-rounds_number}

-- `IfNone r P` follows from P.
pub IfNone-always : {A : Type 0} (r : Option A) (P : Type 0) → P → IfNone r P
IfNone-always None P h = h
IfNone-always (Some x) P h = tt

-- ---- fields

abbrev pub is_dollar : ℕ → Bool
is_dollar b = eqb b dollar

-- `position`, with the length in place of None, is the first index whose item passes the test, or the length if no item
-- does.
unwrap_or-position : (p : ℕ → Bool) (xs : List ℕ) → unwrap_or (position p xs) (length xs) ≡ position_or_len p xs
unwrap_or-position p xs = by_test (nat_lt (position_or_len p xs) (length xs)) refl
  where
    by_test : (b : Bool) → nat_lt (position_or_len p xs) (length xs) ≡ b → unwrap_or (cond b (Some (position_or_len p xs)) None) (length xs) ≡ position_or_len p xs
    by_test true e = refl
    by_test false e = omega (arith, ltb-false _ _ e, prefix_len-le-length (λ x. not (p x)) xs)

-- A rest of a list that is empty or begins with `$` can follow a field.
IsEndOfField-drop : (xs : List ℕ) (n : ℕ) → (n < length xs → get_or xs n 0 ≡ dollar) → IsEndOfField (drop n xs)
IsEndOfField-drop [] n here = subst IsEndOfField (sym (drop-nil n)) tt
IsEndOfField-drop (x ∷ xs) zero here = here (omega arith)
IsEndOfField-drop (x ∷ xs) (suc n) here = IsEndOfField-drop xs n (λ below. here (omega arith))

-- The field at the front of a text ends before the first `$`, or at the end of the text.
pub HasField-first_dollar : (xs : List ℕ) (n : ℕ) → n ≡ unwrap_or (position is_dollar xs) (length xs) → HasField xs (take n xs)
HasField-first_dollar xs n found =
    let n_is_position : n ≡ position_or_len is_dollar xs = found ∙ unwrap_or-position is_dollar xs in (
      drop n xs,
      sym (take-append-drop n xs),
      (
        All-from_get_or (λ b. b ≢ dollar) (take n xs) 0 (λ i lt same.
            let below : i < n = omega (arith, lt, length-take n xs) in
            eqb-false _ _ (fails_before_first is_dollar xs i 0 (omega (arith, below, n_is_position))) (sym (get_or-take n xs i 0 below) ∙ same)),
        end_of_field-cases (drop n xs) (IsEndOfField-drop xs n (λ below. eqb-true _ _ (ap (λ (k : ℕ). is_dollar (get_or xs k 0)) n_is_position ∙ passes_at_first is_dollar xs 0 (omega (arith, below, n_is_position))))),
      ),
    )

-- ---- numbers of rounds

-- If the bytes up to the first `$` are not a number, the text does not begin with a number and a `$`.
pub LacksNumber-bad_digits : (xs : List ℕ) (n : ℕ) → HasField xs (take n xs) → (IsRoundsNumber (take n xs) → ⊥) → LacksNumber xs
LacksNumber-bad_digits xs n h not_number other rest number parts =
    let same = field_unique (take n xs) other h.0 (dollar ∷ rest) h.2 (IsField-rounds_number other rest number) (sym h.1 ∙ parts) in
    not_number (subst IsRoundsNumber (sym same.0) number)

-- If the text has no `$`, it does not begin with a number and a `$`.
pub LacksNumber-no_dollar : (xs : List ℕ) (n : ℕ) → HasField xs (take n xs) → n ≡ length xs → LacksNumber xs
LacksNumber-no_dollar xs n h whole other rest number parts =
    let same = field_unique (take n xs) other h.0 (dollar ∷ rest) h.2 (IsField-rounds_number other rest number) (sym h.1 ∙ parts) in
    omega (arith, whole, ap length h.1, length-append (take n xs) h.0, length-take n xs, ap length same.1)

-- After the first k items of a list, `length xs - k` are left, so taking that many takes all.
pub take-drop_rest : (xs : List ℕ) (k : ℕ) → take (length xs - k) (drop k xs) ≡ drop k xs
take-drop_rest xs k = ap (λ (n : ℕ). take n (drop k xs)) (sym (length-drop k xs)) ∙ take-length (drop k xs)

-- If the field does not reach the end of the text, the text is the field, a `$`, and what follows. In `h`, `.0` is what
-- follows the field, and `.2.1` that it is empty or begins with a `$`.
pub append-number_dollar_rest : (xs : List ℕ) (n : ℕ) → HasField xs (take n xs) → n < length xs → xs ≡ take n xs ++ (dollar ∷ take (length xs - (n + 1)) (drop (n + 1) xs))
append-number_dollar_rest xs n h below =
    let rest_is : h.0 ≡ drop n xs = append_cancel_left (take n xs) h.0 (drop n xs) (sym h.1 ∙ sym (take-append-drop n xs)) in
    let drop_is : drop n xs ≡ get_or xs n 0 ∷ drop (suc n) xs = drop-cons xs n 0 below in
    let dollar_here : get_or xs n 0 ≡ dollar = subst IsEndOfField (rest_is ∙ drop_is) (IsEndOfField-from_cases h.0 h.2.1) in
    sym (take-append-drop n xs)
    ∙ ap (λ (t : List ℕ). take n xs ++ t)
    (drop_is ∙ ap (λ (c : ℕ). c ∷ drop (suc n) xs) dollar_here ∙ ap (λ (k : ℕ). dollar ∷ drop k xs) (sym (add-one n)) ∙ ap (λ (t : List ℕ). dollar ∷ t) (sym (take-drop_rest xs (n + 1))))

pub digit_range : (ds : List ℕ) (i : ℕ) → IsRoundsNumber ds → i < length ds → (48 ≤ get_or ds i 0) × (get_or ds i 0 ≤ 57)
digit_range [] i number lt = absurd number
digit_range (d ∷ ds) zero number lt = (omega (arith, number.0), number.1)
digit_range (d ∷ ds) (suc i) number lt = number.2 i 0 (omega arith)

-- If a number is the value of the first i digits, capped, then appending digit i to it and capping again gives the
-- value of the first i + 1 digits, capped.
pub capped_value-more : (ds : List ℕ) (i number digit : ℕ) → i < length ds → IsRoundsNumber ds → digit ≡ get_or ds i 0 → number ≡ min (digits_value 10 (take i ds)) max_rounds → min (number * 10 + (digit - 48)) max_rounds ≡ min (digits_value 10 (take (i + 1) ds)) max_rounds
capped_value-more ds i number digit lt is_number digit_is so_far =
    let range = digit_range ds i is_number lt in
    omega (arith, digits_value_more 10 ds i lt, digit_value_digit (get_or ds i 0) range, range, digit_is, so_far)

-- ---- the characters of scrypt's cost part

-- If the first byte is outside the alphabet, the text lacks the characters of scrypt's cost part.
pub LacksCharacters-first : (after : List ℕ) → (Contains alphabet (get_or after 0 0) → ⊥) → LacksCharacters after
LacksCharacters-first after outside part rest len all parts =
    outside (subst (λ (xs : List ℕ). Contains alphabet (get_or xs 0 0)) (sym parts)
    (rw (get_or_append_left part rest 0 0 (omega arith)) (All-get_or (Contains alphabet) part 0 0 (omega arith) all)))

-- If five characters of scrypt's cost part are not all there or not all of the alphabet, the text lacks the characters
-- of the cost part.
pub LacksCharacters-group : (after : List ℕ) (i : ℕ) → i + 5 ≤ scrypt_part_len → ((length (take 5 (drop i after)) ≡ 5) × All (Contains alphabet) (take 5 (drop i after)) → ⊥) → LacksCharacters after
LacksCharacters-group after i within outside part rest len all parts =
    let group : take 5 (drop i after) ≡ take 5 (drop i part) =
    ap (λ (xs : List ℕ). take 5 (drop i xs)) parts
    ∙ ap (λ (xs : List ℕ). take 5 xs) (drop-append-le i part rest (omega arith))
    ∙ take-append-le 5 (drop i part) rest (rw length-drop (omega arith)) in
    outside (
      ap length group ∙ rw (length-take, length-drop) (omega arith),
      subst (All (Contains alphabet)) (sym group) (All-take (Contains alphabet) 5 (drop i part) (All-drop (Contains alphabet) i part all)),
    )

numerals-one : (v : ℕ) → v < 64 → numerals 1 v ≡ character_of v ∷ []
unfolding numerals
numerals-one v below = ap (λ (w : ℕ). character_of w ∷ []) (omega arith)

-- If the first character has the value v, and the two groups of five after it are the numerals of r and p, the text
-- begins with scrypt's cost part for these numbers.
pub scrypt_part-from_numerals : (after : List ℕ) (v r p : ℕ) → scrypt_part_len ≤ length after → v < 64 → character_of v ≡ get_or after 0 0 → r < 2 ^ 30 → numerals 5 r ≡ take 5 (drop 1 after) → p < 2 ^ 30 → numerals 5 p ≡ take 5 (drop 6 after) → (rest : List ℕ) × (after ≡ scrypt_part (scrypt_params v r p) ++ rest) × HasNumerals (scrypt_params v r p)
scrypt_part-from_numerals [] v r p long vs v_is rs r_is ps p_is = absurd (omega arith)
scrypt_part-from_numerals (x ∷ xs) v r p long vs v_is rs r_is ps p_is =
    let first : numerals 1 v ≡ x ∷ [] = numerals-one v vs ∙ ap (λ (c : ℕ). c ∷ []) v_is in
    let split : xs ≡ take 5 xs ++ (take 5 (drop 5 xs) ++ drop 5 (drop 5 xs)) =
    sym (take-append-drop 5 xs) ∙ ap (λ (t : List ℕ). take 5 xs ++ t) (sym (take-append-drop 5 (drop 5 xs))) in
    let parts : x ∷ xs ≡ (x ∷ []) ++ (take 5 xs ++ (take 5 (drop 5 xs) ++ drop 5 (drop 5 xs))) = ap (λ (t : List ℕ). x ∷ t) split in
    let named : (x ∷ []) ++ (take 5 xs ++ (take 5 (drop 5 xs) ++ drop 5 (drop 5 xs))) ≡ numerals 1 v ++ (numerals 5 r ++ (numerals 5 p ++ drop 5 (drop 5 xs))) =
    ap (λ (t : List ℕ). t ++ (take 5 xs ++ (take 5 (drop 5 xs) ++ drop 5 (drop 5 xs)))) (sym first)
    ∙ ap (λ (t : List ℕ). numerals 1 v ++ (t ++ (take 5 (drop 5 xs) ++ drop 5 (drop 5 xs)))) (sym r_is)
    ∙ ap (λ (t : List ℕ). numerals 1 v ++ (numerals 5 r ++ (t ++ drop 5 (drop 5 xs)))) (sym p_is) in
    let joined : numerals 1 v ++ (numerals 5 r ++ (numerals 5 p ++ drop 5 (drop 5 xs))) ≡ scrypt_part (scrypt_params v r p) ++ drop 5 (drop 5 xs) =
    sym (append_assoc (numerals 1 v) (numerals 5 r ++ numerals 5 p) (drop 5 (drop 5 xs)) ∙ ap (λ (t : List ℕ). numerals 1 v ++ t) (append_assoc (numerals 5 r) (numerals 5 p) (drop 5 (drop 5 xs)))) in
    (drop 5 (drop 5 xs), parts ∙ named ∙ joined, (vs, rs, ps))
