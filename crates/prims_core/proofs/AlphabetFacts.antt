-- The characters of crypt's alphabet, for `value_of`, `read_30` and the packing of digests in crypt_core: the character
-- of each value below 64, that no two values have the same character, and which bytes are not in the alphabet. The
-- three ranges of characters are found by computing all their values with `true_below-from_list_all`. The other facts
-- follow by arithmetic from the three cases of `character_of-ranges`.
use Rattle.std.proofs.Common.{◌≡◌, ℕ, ◌+◌, ◌-◌, ◌<◌, ◌≤◌, Bool, true, ◌⊎◌, inl, inr, eqb, length, get_or, refl, sym, ◌∙◌, ap, subst, arith}
use Rattle.std.specs.Prelude.{Contains}
use Rattle.std.specs.List.{list_all, range_with_len}
use Rattle.std.proofs.lemmas.List.Sums.{AllPass-from_list_all}
use Rattle.std.proofs.lemmas.List.FromFn.{get_or-range_with_len, length-range_with_len}
use Rattle.std.proofs.lemmas.Bool.{eqb-true, cases_lt}
use Rattle.std.proofs.lemmas.Grind.{get_or_default_zero}
use Rattle.prims_core.specs.Alphabet.{alphabet, character_of}

-- If `list_all` says that a test is true for all numbers below n, the test is true for each number below n.
pub true_below-from_list_all : (p : ℕ → Bool) (n : ℕ) → list_all p (range_with_len 0 n) ≡ true
    → (v : ℕ) → v < n → p v ≡ true
true_below-from_list_all p n all v below =
    let passes : p (get_or (range_with_len 0 n) v 0) ≡ true =
    AllPass-from_list_all p (range_with_len 0 n) all v 0 (rw length-range_with_len below) in
    let place : get_or (range_with_len 0 n) v 0 ≡ v =
    get_or-range_with_len 0 n v 0 below ∙ omega arith in
    subst (λ (w : ℕ). p w ≡ true) place passes

pub length-alphabet : length alphabet ≡ 64
unfolding alphabet
length-alphabet = refl

-- The bytes of the three ranges of characters: `.` to `9`, then `A` to `Z`, then `a` to `z`.
pub character_of-dot_to_nine : (v : ℕ) → v < 12 → character_of v ≡ v + 46
unfolding alphabet
character_of-dot_to_nine v below =
    eqb-true _ _ (true_below-from_list_all (λ w. eqb (character_of w) (w + 46)) 12 refl v below)

pub character_of-upper_case : (v : ℕ) → v < 26 → character_of (v + 12) ≡ v + 65
unfolding alphabet
character_of-upper_case v below =
    eqb-true _ _ (true_below-from_list_all (λ w. eqb (character_of (w + 12)) (w + 65)) 26 refl v below)

pub character_of-lower_case : (v : ℕ) → v < 26 → character_of (v + 38) ≡ v + 97
unfolding alphabet
character_of-lower_case v below =
    eqb-true _ _ (true_below-from_list_all (λ w. eqb (character_of (w + 38)) (w + 97)) 26 refl v below)

-- Each value below 64 is in one of the three ranges, and its character is the value plus a number that the range gives.
pub character_of-ranges : (v : ℕ) → v < 64
    → ((v < 12) × (character_of v ≡ v + 46))
    ⊎ (((12 ≤ v) × (v < 38) × (character_of v ≡ v + 53)) ⊎ ((38 ≤ v) × (character_of v ≡ v + 59)))
character_of-ranges v below = elim (cases_lt v 12) [
  | inl first ↦ inl (first, character_of-dot_to_nine v first)
  | inr past ↦ elim (cases_lt v 38) [
    | inl upper ↦ inr (inl (
      past,
      upper,
      ap character_of (omega arith) ∙ character_of-upper_case (v - 12) (omega arith) ∙ omega arith,
    ))
    | inr lower ↦ inr (inr (
      lower,
      ap character_of (omega arith) ∙ character_of-lower_case (v - 38) (omega arith) ∙ omega arith,
    ))
  ]
]

-- The alphabet contains exactly the characters of the values below 64.
pub Contains-character_of : (c v : ℕ) → v < 64 → character_of v ≡ c → Contains alphabet c
Contains-character_of c v below spells_c =
    let inside : v < length alphabet = rw length-alphabet below in
    (v, inside, get_or_default_zero alphabet v c inside ∙ spells_c)

pub value-from_Contains : (c : ℕ) → Contains alphabet c → (v : ℕ) × (v < 64) × (character_of v ≡ c)
value-from_Contains c (k, inside, spells_c) =
    (k, rw length-alphabet at inside, sym (get_or_default_zero alphabet k c inside) ∙ spells_c)

-- No two values have the same character.
pub character_of-injective : (v w : ℕ) → v < 64 → w < 64 → character_of v ≡ character_of w → v ≡ w
character_of-injective v w vs ws same =
    omega (arith, character_of-ranges v vs, character_of-ranges w ws)

-- IsOutside c: the byte c is outside the three ranges of characters. Such a byte is the character of no value.
abbrev pub IsOutside : ℕ → Type 0
IsOutside c = (c < 46) ⊎ (((57 < c) × (c < 65)) ⊎ (((90 < c) × (c < 97)) ⊎ (122 < c)))

pub character_of-not_outside : (c : ℕ) → IsOutside c → (v : ℕ) → v < 64 → character_of v ≡ c → ⊥
character_of-not_outside c outside v below spells_c = omega (arith, outside, character_of-ranges v below)

-- The alphabet doesn't contain a byte outside the three ranges.
pub Contains-not_outside : (c : ℕ) → IsOutside c → Contains alphabet c → ⊥
Contains-not_outside c outside contained =
    let found : (v : ℕ) × (v < 64) × (character_of v ≡ c) = value-from_Contains c contained in
    character_of-not_outside c outside found.0 found.1 found.2
