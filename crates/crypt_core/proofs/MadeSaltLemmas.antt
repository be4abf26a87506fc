-- Lemmas on generated salts, for `salt_of` in src/made_salt.rt and `Setting::salted`: a salt grows by one character at
-- a time, all its characters are in the alphabet, and the method keeps all of it.
use Rattle.std.proofs.Common.{◌≡◌, ◌≤◌, ℕ, ◌+◌, ◌*◌, ◌/◌, ◌%◌, ◌^◌, List, [], ◌∷◌, ◌++◌, All, arith, length, refl}
use Rattle.std.specs.List.{range_with_len}
use Rattle.std.proofs.lemmas.Bool.{leb-true}
use Rattle.std.proofs.lemmas.List.FromFn.{length-map-range_with_len, map-range_with_len_more}
use Rattle.std.proofs.lemmas.List.Elements.{All-map}
use Rattle.prims_core.specs.Alphabet.{alphabet, character_of}
use Rattle.std.specs.Prelude.{Contains, nat_le, slice_index}
use Rattle.prims_core.proofs.AlphabetFacts.{Contains-character_of}
use Rattle.crypt_core.specs.MadeSalts.{made_salt}
use Rattle.crypt_core.specs.MethodLimits.{made_salt_length, salt_limit}
use Rattle.crypt_core.specs.declared.method.Method.{Method}
use Rattle.crypt_core.proofs.EachMethod.{each_method}

-- made_character numbers i: character i of the salt that is generated from the numbers.
abbrev made_character : List ℕ → ℕ → ℕ
made_character numbers i = character_of (slice_index numbers (i / 10) / 2 ^ (6 * (i % 10)) % 64)

-- The generated salt of n + 1 characters is the one of n characters and then character n.
pub made_salt-more : (numbers : List ℕ) (n : ℕ) → made_salt numbers (n + 1) ≡ made_salt numbers n ++ made_character numbers n ∷ []
unfolding made_salt
made_salt-more numbers n = map-range_with_len_more (made_character numbers) 0 n n (omega arith)

pub in_alphabet-made_salt : (numbers : List ℕ) (n : ℕ) → All (Contains alphabet) (made_salt numbers n)
unfolding made_salt
in_alphabet-made_salt numbers n = All-map (Contains alphabet) (made_character numbers) (range_with_len 0 n) (λ k d h. Contains-character_of _ _ (omega arith) refl)

pub length-made_salt : (numbers : List ℕ) (n : ℕ) → length (made_salt numbers n) ≡ n
unfolding made_salt
length-made_salt numbers n = length-map-range_with_len (made_character numbers) 0 n

-- Every method keeps at least as many characters of salt as its generated salts have.
pub made_salt_length-le-salt_limit : (m : Method) → made_salt_length m ≤ salt_limit m
made_salt_length-le-salt_limit m = leb-true _ _ (each_method (λ n. nat_le (made_salt_length n) (salt_limit n)) refl m)
