-- Parts of a message whose size depends on the password's length: a digest repeated to that length, and one string (a
-- piece) for each binary digit of the length (FreeBSD's md5crypt; Drepper, "Unix crypt using SHA-256 and SHA-512",
-- steps 9 to 11).
use Rattle.std.specs.Prelude.{ℕ, zero, suc, ◌/◌, ◌%◌, ◌==◌, List, [], ◌∷◌, length, map, flat_map, slice_index, sum_by, if◌then◌else◌}
use Rattle.std.specs.List.{range_with_len}

-- cycle d n: the first n bytes of d repeated without end (steps 9 and 10). Byte i is byte (i mod length d) of d.
unfoldable pub cycle : List ℕ → ℕ → List ℕ
cycle d n = map (λ i. slice_index d (i % length d)) (range_with_len 0 n)

-- digits_up_to k n: the binary digits of n, lowest first, but at most k of them. 0 has no digits, and n has at most n
-- digits, so `digits_up_to n n` has all of them.
abbrev pub digits_up_to : ℕ → ℕ → List ℕ
digits_up_to zero n = []
digits_up_to (suc k) n = if n == 0 then [] else n % 2 ∷ digits_up_to k (n / 2)

-- by_digit one other digit: `one` if the digit is 1, and `other` if it is 0.
abbrev pub by_digit : {A : Type 0} → A → A → ℕ → A
by_digit one other digit = if digit == 1 then one else other

-- digit_pieces one other n: one piece for each binary digit of n, lowest first (step 11): `one` for a 1, `other` for a
-- 0.
abbrev pub digit_pieces : List ℕ → List ℕ → ℕ → List ℕ
digit_pieces one other n = flat_map (by_digit one other) (digits_up_to n n)

-- digit_bytes one other n: the number of bytes of one piece for each binary digit of n, if the piece for a 1 has `one`
-- bytes and the piece for a 0 has `other`.
abbrev pub digit_bytes : ℕ → ℕ → ℕ → ℕ
digit_bytes one other n = sum_by (by_digit one other) (digits_up_to n n)
