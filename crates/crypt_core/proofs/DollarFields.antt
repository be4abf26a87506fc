-- Lemmas on fields that end at the next `$`, for the functions of src/setting/read.rt and src/setting/text.rt.
-- `field_unique` shows by induction over both fields that a text splits into a field and a rest in one way only:
-- neither field has a `$`, and each rest is empty or begins with one.
use Rattle.std.proofs.Common.{◌≡◌, ◌≢◌, ◌⊎◌, ℕ, inl, inr, List, [], ◌∷◌, ◌++◌, length, refl, sym, ap, subst, arith}
use Rattle.std.specs.List.{AllByRecursion}
use Rattle.std.proofs.lemmas.List.Elements.{recursion_from_All}
use Rattle.crypt_core.specs.Settings.{dollar, BeginsWith, IsField}

-- IsEndOfField rest: the list is empty or begins with `$`, so a field can end before it.
abbrev pub IsEndOfField : List ℕ → Type 0
IsEndOfField [] = Unit {0}
IsEndOfField (b ∷ rest) = b ≡ dollar

-- A list for which `IsEndOfField` holds is empty, or begins with `$` in the sense of `BeginsWith`.
pub end_of_field-cases : (rest : List ℕ) → IsEndOfField rest → (rest ≡ []) ⊎ BeginsWith rest (dollar ∷ [])
end_of_field-cases [] end = inl refl
end_of_field-cases (b ∷ rest) end = inr (rest, ap (λ (c : ℕ). c ∷ rest) end)

pub IsEndOfField-from_cases : (rest : List ℕ) → (rest ≡ []) ⊎ BeginsWith rest (dollar ∷ []) → IsEndOfField rest
IsEndOfField-from_cases [] end = tt
IsEndOfField-from_cases (b ∷ rest) (inl none) = absurd (cc none)
IsEndOfField-from_cases (b ∷ rest) (inr begins) = cc (begins.1)

-- If a ++ x and b ++ y are equal, and a is as long as b, then a equals b and x equals y.
pub append-injective : (a b x y : List ℕ) → length a ≡ length b → a ++ x ≡ b ++ y → (a ≡ b) × (x ≡ y)
append-injective [] [] x y same e = (refl, e)
append-injective [] (d ∷ b) x y same e = absurd (omega arith)
append-injective (c ∷ a) [] x y same e = absurd (omega arith)
append-injective (c ∷ a) (d ∷ b) x y same e =
    let heads : c ≡ d = cc in
    let tails : a ++ x ≡ b ++ y = cc in
    let rest = append-injective a b x y (omega arith) tails in
    ((cc (heads, rest.0)), rest.1)

field_unique-by_recursion : (f g r s : List ℕ) → AllByRecursion (λ b. b ≢ dollar) f → AllByRecursion (λ b. b ≢ dollar) g → IsEndOfField r → IsEndOfField s → f ++ r ≡ g ++ s → (f ≡ g) × (r ≡ s)
field_unique-by_recursion [] [] r s hf hg er es e = (refl, e)
field_unique-by_recursion [] (y ∷ g) r s hf hg er es e = absurd (hg.0 (subst IsEndOfField e er))
field_unique-by_recursion (x ∷ f) [] r s hf hg er es e = absurd (hf.0 (subst IsEndOfField (sym e) es))
field_unique-by_recursion (x ∷ f) (y ∷ g) r s hf hg er es e =
    let heads : x ≡ y = cc in
    let tails : f ++ r ≡ g ++ s = cc in
    let rest = field_unique-by_recursion f g r s hf.1 hg.1 er es tails in
    ((cc (heads, rest.0)), rest.1)

-- A list splits into a field and a rest in one way only.
pub field_unique : (f g r s : List ℕ) → IsField f r → IsField g s → f ++ r ≡ g ++ s → (f ≡ g) × (r ≡ s)
field_unique f g r s a b e =
    field_unique-by_recursion f g r s (recursion_from_All _ f a.0) (recursion_from_All _ g b.0) (IsEndOfField-from_cases r a.1) (IsEndOfField-from_cases s b.1) e
