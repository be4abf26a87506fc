-- Shows how a text spells the rounds of SHA-crypt, for `number_at` and `shacrypt_at` in src/setting/read.rt, and that
-- it spells them in one way only (`rounds_unique`), for `Setting::read`. Two `rounds=` fields at the front of one text
-- have the same digits, because digits end at the `$`; a field and no field exclude each other, because without a field
-- no `rounds=` may follow.
use Rattle.std.proofs.Common.{◌≡◌, ◌≢◌, ℕ, ◌≤◌, Bool, true, false, List, [], ◌∷◌, ◌++◌, refl, sym, ap, subst, ◌∙◌, append_assoc, arith}
use Rattle.std.specs.Prelude.{min}
use Rattle.std.specs.Str.Parse.{digits_value}
use Rattle.std.proofs.lemmas.List.{append_cancel_left}
use Rattle.std.proofs.lemmas.List.Elements.{All-cons, All-weaker}
use Rattle.crypt_core.specs.Rounds.{Rounds, clamped}
use Rattle.crypt_core.specs.Rounds.{max_rounds}
use Rattle.crypt_core.specs.Settings.{dollar, IsField, rounds_word, rounds_field, IsRoundsNumber, SpellsRounds}
use Rattle.crypt_core.proofs.DollarFields.{end_of_field-cases, field_unique}

-- The digits of a number, followed by a `$`, are a field, since they have no `$`.
pub IsField-rounds_number : (digits rest : List ℕ) → IsRoundsNumber digits → IsField digits (dollar ∷ rest)
IsField-rounds_number [] rest number = absurd number
IsField-rounds_number (d ∷ ds) rest number = (
  All-cons (λ b. b ≢ dollar) d ds (λ e. omega (arith, number.0)) (All-weaker (λ c. (48 ≤ c) × (c ≤ 57)) (λ b. b ≢ dollar) (λ c range e. omega (arith, range)) ds number.2),
  end_of_field-cases (dollar ∷ rest) refl,
)

-- A `rounds=` field and the rest after it are `rounds=`, the digits, a `$` and the rest.
pub rounds_field-append : (digits rest : List ℕ) → rounds_field digits ++ rest ≡ rounds_word ++ (digits ++ (dollar ∷ rest))
rounds_field-append digits rest = rw (append_assoc, append_assoc) refl

-- Two texts that begin with `rounds=` fields are the same only if the fields and what follows them are.
pub rounds_field-injective : (d e x y : List ℕ) → IsRoundsNumber d → IsRoundsNumber e → rounds_field d ++ x ≡ rounds_field e ++ y → (d ≡ e) × (x ≡ y)
rounds_field-injective d e x y nd ne same =
    let inner : d ++ (dollar ∷ x) ≡ e ++ (dollar ∷ y) = append_cancel_left rounds_word _ _ (sym (rounds_field-append d x) ∙ same ∙ rounds_field-append e y) in
    let both = field_unique d e (dollar ∷ x) (dollar ∷ y) (IsField-rounds_number d x nd) (IsField-rounds_number e y ne) inner in
    (both.0, cc (both.1))

-- The next lemma for rounds in parts: a number, and whether it is written.
rounds_unique-by_parts : (m n : ℕ) (f g : Bool) (p q x y : List ℕ) → SpellsRounds (record { count = m; is_written = f }) p x → SpellsRounds (record { count = n; is_written = g }) q y → p ++ x ≡ q ++ y → (m ≡ n) × (f ≡ g) × (x ≡ y)
rounds_unique-by_parts m n true true p q x y a b e =
    let same : rounds_field a.0 ++ x ≡ rounds_field b.0 ++ y = sym (ap (λ (z : List ℕ). z ++ x) a.2) ∙ e ∙ ap (λ (z : List ℕ). z ++ y) b.2 in
    let both = rounds_field-injective a.0 b.0 x y a.1 b.1 same in
    (a.3 ∙ ap (λ (ds : List ℕ). clamped (digits_value 10 ds)) both.0 ∙ sym b.3, refl, both.1)
rounds_unique-by_parts m n true false p q x y a b e =
    let y_is : y ≡ rounds_word ++ (a.0 ++ (dollar ∷ x)) = sym (ap (λ (z : List ℕ). z ++ y) b.0) ∙ sym e ∙ ap (λ (z : List ℕ). z ++ x) a.2 ∙ rounds_field-append a.0 x in
    absurd (b.2 (a.0 ++ (dollar ∷ x), y_is))
rounds_unique-by_parts m n false true p q x y a b e =
    let x_is : x ≡ rounds_word ++ (b.0 ++ (dollar ∷ y)) = sym (ap (λ (z : List ℕ). z ++ x) a.0) ∙ e ∙ ap (λ (z : List ℕ). z ++ y) b.2 ∙ rounds_field-append b.0 y in
    absurd (a.2 (b.0 ++ (dollar ∷ y), x_is))
rounds_unique-by_parts m n false false p q x y a b e =
    (a.1 ∙ sym b.1, refl, sym (ap (λ (z : List ℕ). z ++ x) a.0) ∙ e ∙ ap (λ (z : List ℕ). z ++ y) b.0)

abbrev rounds_of : ℕ → Bool → Rounds
rounds_of n f = record { count = n; is_written = f }

-- What follows SHA-crypt's prefix spells rounds in one way only.
pub rounds_unique : (a b : Rounds) (p q x y : List ℕ) → SpellsRounds a p x → SpellsRounds b q y → p ++ x ≡ q ++ y → (a ≡ b) × (x ≡ y)
rounds_unique a b p q x y ra rb e =
    let all = rounds_unique-by_parts a.count b.count a.is_written b.is_written p q x y ra rb e in
    let count : a.count ≡ b.count = all.0 in
    let flag : a.is_written ≡ b.is_written = all.1 in
    (ap (λ (n : ℕ). rounds_of n a.is_written) count ∙ ap (rounds_of b.count) flag, all.2)

-- Capping a number at `max_rounds` before it is clamped makes no difference.
clamped-min : (n : ℕ) → clamped (min n max_rounds) ≡ clamped n
clamped-min n = omega arith

-- A well-formed `rounds=` field spells the rounds of its number, clamped.
pub SpellsRounds-written_field : (after field digits rest : List ℕ) (number : ℕ) (r : Rounds) → after ≡ rounds_word ++ field → IsRoundsNumber digits → field ≡ digits ++ (dollar ∷ rest) → number ≡ min (digits_value 10 digits) max_rounds → r ≡ record { count = clamped number; is_written = true } → (part : List ℕ) × (after ≡ part ++ rest) × SpellsRounds r part rest
SpellsRounds-written_field after field digits rest number r begins is_number parts number_is rounds_are = (
  rounds_field digits,
  begins ∙ ap (λ (x : List ℕ). rounds_word ++ x) parts ∙ sym (rounds_field-append digits rest),
  subst (λ (s : Rounds). SpellsRounds s (rounds_field digits) rest) (sym rounds_are) (digits, is_number, refl, ap clamped number_is ∙ clamped-min (digits_value 10 digits)),
)
