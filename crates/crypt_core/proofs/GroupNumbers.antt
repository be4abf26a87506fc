-- Lemmas for `is_packed` in src/pack.rt, which decides by the last character whether characters spell a number of k
-- bytes. `number-from_characters` reads characters as a number in base 64, and `bytes_of` writes a number in base 256.
-- `number_below-iff-last_value_below` joins the two: the last character holds the highest bits of the number, so k + 1
-- characters spell a number below 256^k exactly if that character's value is below 4^k.
use Rattle.std.proofs.Common.{◌≡◌, ◌↔◌, ℕ, zero, suc, ◌+◌, ◌*◌, ◌/◌, ◌%◌, ◌^◌, ◌<◌, ◌≤◌, inl, inr, List, [], ◌∷◌, ◌++◌, length, get_or, arith, refl, ap, ◌∙◌}
use Rattle.std.specs.Prelude.{All, Contains, fold, slice_index}
use Rattle.std.proofs.Math.Nat.{mul-le-mul_left, pow-suc}
use Rattle.std.proofs.lemmas.Bool.{cases_lt}
use Rattle.std.proofs.lemmas.List.{length-append}
use Rattle.std.proofs.lemmas.List.Elements.{All-append, All-cons, All-head, All-nil, All-tail}
use Rattle.std.proofs.lemmas.List.Sums.{fold-append}
use Rattle.std.proofs.lemmas.Nat.{mul-pow}
use Rattle.prims_core.specs.Alphabet.{alphabet, character_of, numerals}
use Rattle.prims_core.proofs.AlphabetFacts.{value-from_Contains}
use Rattle.prims_core.proofs.NumeralFacts.{mul-add-lt_pow, numerals-mul-add, numerals-zero, numerals-add_one}

-- ---- the characters of a number

-- Characters of the alphabet are the numerals of some number.
pub number-from_characters : (text : List ℕ) → All (Contains alphabet) text → (n : ℕ) × (n < 64 ^ length text) × (numerals (length text) n ≡ text)
number-from_characters [] all = (0, omega arith, numerals-zero 0)
number-from_characters (c ∷ text) all =
    let found = value-from_Contains c (All-head (Contains alphabet) c text all) in
    let rest = number-from_characters text (All-tail (Contains alphabet) c text all) in
    let one : suc (length text) ≡ length text + 1 = omega arith in (
      rest.0 * 64 + found.0,
      rw one (mul-add-lt_pow (length text) rest.0 found.0 rest.1 found.1),
      rw one (numerals-mul-add (length text) rest.0 found.0 c found.1 found.2) ∙ ap (λ (cs : List ℕ). c ∷ cs) rest.2,
    )

-- Takes one factor out of a product.
mul-factor_out : (power more base v : ℕ) → more ≡ power * base → more * v ≡ base * (power * v)
mul-factor_out power more base v is = rw is (grind arith)

-- If n has k + 1 numerals, the last one is the character of the highest bits of n, n / 64 ^ k.
numerals-last : (k n : ℕ) → n < 64 ^ (k + 1)
    → (v : ℕ) × (v < 64) × (64 ^ k * v ≤ n) × (n < 64 ^ k * (v + 1)) × (get_or (numerals (k + 1) n) k 0 ≡ character_of v)
numerals-last zero n small =
    (n, omega arith, omega arith, omega arith, ap (λ (cs : List ℕ). get_or cs 0 0) (numerals-add_one 1 0 n refl) ∙ ap character_of (omega arith))
numerals-last (suc k) n small =
    let power : 64 ^ suc k ≡ 64 ^ k * 64 = pow-suc 64 k in
    let next : suc k + 1 ≡ suc (k + 1) = omega arith in
    let more : 64 ^ (suc k + 1) ≡ 64 ^ (k + 1) * 64 = rw next (pow-suc 64 (k + 1)) in
    let rest = numerals-last k (n / 64) (omega arith) in
    let low_bound = mul-factor_out (64 ^ k) (64 ^ suc k) 64 rest.0 power in
    let high_bound = mul-factor_out (64 ^ k) (64 ^ suc k) 64 (rest.0 + 1) power in (
      rest.0,
      rest.1,
      omega (arith, low_bound, rest.2),
      omega (arith, high_bound, rest.3),
      ap (λ (cs : List ℕ). get_or cs (suc k) 0) (numerals-add_one (suc k + 1) (k + 1) n (omega arith)) ∙ rest.4,
    )

-- A number of k + 1 characters is below 256 ^ k, so it fits k bytes, exactly if the value of its last character is
-- below 4 ^ k.
pub number_below-iff-last_value_below : (k n : ℕ) → n < 64 ^ (k + 1)
    → (v : ℕ) × (v < 64) × (n < 256 ^ k ↔ v < 4 ^ k) × (get_or (numerals (k + 1) n) k 0 ≡ character_of v)
number_below-iff-last_value_below k n small =
    let last = numerals-last k n small in
    let power : 256 ^ k ≡ 64 ^ k * 4 ^ k = mul-pow 64 4 k in
    let below : n < 256 ^ k → last.0 < 4 ^ k = λ less.
    elim (cases_lt last.0 (4 ^ k)) [
      | inl low ↦ low
      | inr high ↦ let up : 64 ^ k * 4 ^ k ≤ 64 ^ k * last.0 = mul-le-mul_left (64 ^ k) high in omega arith
    ] in
    let fits : last.0 < 4 ^ k → n < 256 ^ k = λ less.
    let up : 64 ^ k * (last.0 + 1) ≤ 64 ^ k * 4 ^ k = mul-le-mul_left (64 ^ k) (omega arith) in omega arith in
    (last.0, last.1, (below, fits), last.4)

-- ---- the bytes of a number

-- bytes_of k n: the k lowest bytes of n, highest first.
unfoldable pub bytes_of : ℕ → ℕ → List ℕ
bytes_of zero n = []
bytes_of (suc k) n = bytes_of k (n / 256) ++ (n % 256) ∷ []

-- joined bytes: the number that has these bytes, highest first.
unfoldable pub joined : List ℕ → ℕ
joined bytes = fold (λ number byte. number * 256 + byte) 0 bytes

pub length-bytes_of : (k n : ℕ) → length (bytes_of k n) ≡ k
unfolding bytes_of
length-bytes_of zero n = refl
length-bytes_of (suc k) n = omega (arith, length-append (bytes_of k (n / 256)) ((n % 256) ∷ []), length-bytes_of k (n / 256))

pub All-bytes_of : (k n : ℕ) → All (λ b. b < 256) (bytes_of k n)
unfolding bytes_of
All-bytes_of zero n = All-nil (λ b. b < 256)
All-bytes_of (suc k) n =
    All-append (λ b. b < 256) (bytes_of k (n / 256)) ((n % 256) ∷ []) (All-bytes_of k (n / 256))
    (All-cons (λ b. b < 256) (n % 256) [] (omega arith) (All-nil (λ b. b < 256)))

pub joined-bytes_of : (k n : ℕ) → n < 256 ^ k → joined (bytes_of k n) ≡ n
unfolding bytes_of joined
joined-bytes_of zero n small = omega arith
joined-bytes_of (suc k) n small =
    let power : 256 ^ suc k ≡ 256 ^ k * 256 = pow-suc 256 k in
    fold-append (λ number byte. number * 256 + byte) 0 (bytes_of k (n / 256)) ((n % 256) ∷ [])
    ∙ ap (λ m. m * 256 + n % 256) (joined-bytes_of k (n / 256) (omega arith)) ∙ omega arith

-- Indexing a list of bytes gives a byte, also beyond its end.
pub slice_index-below_256 : (xs : List ℕ) (i : ℕ) → All (λ b. b < 256) xs → slice_index xs i < 256
slice_index-below_256 [] i all = omega arith
slice_index-below_256 (x ∷ xs) zero all = All-head (λ b. b < 256) x xs all
slice_index-below_256 (x ∷ xs) (suc i) all = slice_index-below_256 xs i (All-tail (λ b. b < 256) x xs all)
