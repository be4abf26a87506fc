-- Shows that scrypt's cost part determines its three numbers (`scrypt_part_unique`) and has only characters of crypt's
-- alphabet (`in_alphabet-scrypt_part`). The clauses of `Setting::read` and `Setting::text` need it: a string then
-- spells at most one setting. The part is cut at fixed places, and `numerals` is injective on numbers that fit.
use Rattle.std.proofs.Common.{◌≡◌, ℕ, List, ◌++◌, length, length-append, All, Contains, refl, sym, ap, ◌∙◌}
use Rattle.std.proofs.lemmas.List.Elements.{All-append}
use Rattle.prims_core.specs.Alphabet.{alphabet, numerals}
use Rattle.prims_core.proofs.NumeralFacts.{All-numerals, length-numerals, numerals-injective}
use Rattle.kdf_core.specs.Params.{ScryptParams, scrypt_params}
use Rattle.crypt_core.specs.Settings.{scrypt_part}
use Rattle.crypt_core.specs.TextLimits.{scrypt_part_len}
use Rattle.crypt_core.specs.Private.Parts.{HasNumerals}
use Rattle.crypt_core.proofs.DollarFields.{append-injective}

pub length-scrypt_part : (params : ScryptParams) → length (scrypt_part params) ≡ scrypt_part_len
length-scrypt_part params =
    rw (length-append, length-append, length-numerals, length-numerals, length-numerals) refl

-- If two texts that begin with cost parts of scrypt are equal, these have the same numbers, and the rests are equal.
pub scrypt_part_unique : (a b : ScryptParams) (x y : List ℕ) → HasNumerals a → HasNumerals b → scrypt_part a ++ x ≡ scrypt_part b ++ y → (a ≡ b) × (x ≡ y)
scrypt_part_unique a b x y fits_a fits_b e =
    let whole = append-injective (scrypt_part a) (scrypt_part b) x y (length-scrypt_part a ∙ sym (length-scrypt_part b)) e in
    let first = append-injective (numerals 1 a.log_n) (numerals 1 b.log_n) (numerals 5 a.r ++ numerals 5 a.p) (numerals 5 b.r ++ numerals 5 b.p) (length-numerals 1 a.log_n ∙ sym (length-numerals 1 b.log_n)) whole.0 in
    let second = append-injective (numerals 5 a.r) (numerals 5 b.r) (numerals 5 a.p) (numerals 5 b.p) (length-numerals 5 a.r ∙ sym (length-numerals 5 b.r)) first.1 in
    let log_n : a.log_n ≡ b.log_n = numerals-injective 1 a.log_n b.log_n fits_a.0 fits_b.0 first.0 in
    let r : a.r ≡ b.r = numerals-injective 5 a.r b.r fits_a.1 fits_b.1 second.0 in
    let p : a.p ≡ b.p = numerals-injective 5 a.p b.p fits_a.2 fits_b.2 second.1 in
    (ap (λ (n : ℕ). scrypt_params n a.r a.p) log_n ∙ ap (λ (n : ℕ). scrypt_params b.log_n n a.p) r ∙ ap (scrypt_params b.log_n b.r) p, whole.1)

pub in_alphabet-numerals : (n value : ℕ) → All (Contains alphabet) (numerals n value)
in_alphabet-numerals n value = All-numerals n value (numerals n value) refl

pub in_alphabet-scrypt_part : (params : ScryptParams) → All (Contains alphabet) (scrypt_part params)
in_alphabet-scrypt_part params =
    All-append (Contains alphabet) (numerals 1 params.log_n) (numerals 5 params.r ++ numerals 5 params.p) (in_alphabet-numerals 1 params.log_n)
    (All-append (Contains alphabet) (numerals 5 params.r) (numerals 5 params.p) (in_alphabet-numerals 5 params.r) (in_alphabet-numerals 5 params.p))
