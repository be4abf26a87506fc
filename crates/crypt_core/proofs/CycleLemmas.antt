-- Lemmas on `cycle` and on binary digits, for the loops of src/messages.rt (`feed_repeated`, `feed_cycle`, `cycle_of`,
-- `feed_digits`) and `digit_bytes` in src/work.rt. `cycle` is defined byte by byte and the code feeds whole digests, so
-- `cycle-mul-length` shows by induction that k digests in a row are the first bytes of the cycle, k times the digest's
-- length. `digits_up_to` is defined with a limit on the number of digits and the loop halves a number, so
-- `binary_digits-step` shows that halving drops the lowest digit.
use Rattle.std.proofs.Common.{◌≡◌, ℕ, zero, suc, ◌+◌, ◌*◌, ◌/◌, ◌%◌, ◌<◌, ◌≤◌, List, [], ◌∷◌, ◌++◌, length, take, get_or, arith, refl, sym, ap, ◌∙◌, append_assoc, cond, nat_eq, Bool, true, false, flat_map}
use Rattle.std.specs.List.{repeat}
use Rattle.std.specs.Prelude.{sum_by}
use Rattle.std.proofs.lemmas.List.{append-nil, length-append, take_all}
use Rattle.std.proofs.lemmas.List.Concat.{length-flat_map}
use Rattle.std.proofs.lemmas.List.FromFn.{length-map-range_with_len, map-range_with_len_more}
use Rattle.std.proofs.lemmas.List.Sums.{sum_by-cons, sum_by-le}
use Rattle.std.proofs.lemmas.Nat.{mod-mul-add}
use Rattle.std.proofs.lemmas.Bool.Decides.{nat_tests}
use Rattle.std.proofs.Math.Nat.{mul-le-mul_right}
use Rattle.std.proofs.Math.Path.{fun_ext}
use Rattle.std.proofs.Math.Seq.{take-suc}
use Rattle.crypt_core.specs.Cycle.{by_digit, cycle, digit_bytes, digit_pieces, digits_up_to}

-- The binary digits of n, lowest first.
abbrev binary_digits : ℕ → List ℕ
binary_digits n = digits_up_to n n

-- `cycle d (n + 1)` is `cycle d n` and one more byte, number n mod `length d` of d.
pub cycle-more : (d : List ℕ) (n : ℕ) → cycle d (n + 1) ≡ cycle d n ++ get_or d (n % length d) 0 ∷ []
unfolding cycle
cycle-more d n = map-range_with_len_more _ 0 n n (omega arith)

pub cycle-zero : (d : List ℕ) → cycle d 0 ≡ []
unfolding cycle
cycle-zero d = refl

-- After k whole copies of d, the next n bytes of the cycle are the first n of d, if d has that many.
pub cycle-mul-add : (d : List ℕ) (w k n : ℕ) → length d ≡ w → n ≤ w → cycle d (k * w + n) ≡ cycle d (k * w) ++ take n d
cycle-mul-add d w k zero e h =
    let same : k * w + 0 ≡ k * w = omega arith in
    rw (same, append-nil) refl
cycle-mul-add d w k (suc n) e h =
    let below : n < w = omega arith in
    let in_d : n < length d = omega arith in
    let next : k * w + suc n ≡ (k * w + n) + 1 = omega arith in
    let place : (k * w + n) % length d ≡ n = rw e (mod-mul-add k w n below) in
    rw (next, cycle-more d (k * w + n), place, take-suc d n 0 in_d, cycle-mul-add d w k n e (omega arith)) (append_assoc (cycle d (k * w)) (take n d) (get_or d n 0 ∷ []))

-- n + 1 copies of a list are n copies and one more at the end.
pub repeat-more : (n : ℕ) (xs : List ℕ) → repeat (n + 1) xs ≡ repeat n xs ++ xs
repeat-more zero xs = append-nil xs
repeat-more (suc n) xs =
    let next : suc n + 1 ≡ suc (n + 1) = omega arith in
    rw next (ap (λ ys. xs ++ ys) (repeat-more n xs) ∙ sym (append_assoc xs (repeat n xs) xs))

pub length-repeat : (n : ℕ) (xs : List ℕ) → length (repeat n xs) ≡ n * length xs
length-repeat zero xs = omega arith
length-repeat (suc n) xs = omega (arith, length-append xs (repeat n xs), length-repeat n xs)

-- The first bytes of d repeated without end, k times the length of d, are k copies of d.
pub cycle-mul-length : (d : List ℕ) (k : ℕ) → cycle d (k * length d) ≡ repeat k d
cycle-mul-length d zero =
    let none : 0 * length d ≡ 0 = omega arith in
    rw none (cycle-zero d)
cycle-mul-length d (suc k) =
    let turn : suc k * length d ≡ k * length d + length d = omega arith in
    let next : suc k ≡ k + 1 = omega arith in
    rw (turn, cycle-mul-add d (length d) k (length d) refl (omega arith), cycle-mul-length d k, take_all (length d) d (omega arith))
    (sym (ap (λ n. repeat n d) next ∙ repeat-more k d))

-- `digits_up_to` gives the same digits of n for any two limits of at least n.
digits_up_to-enough : (j k n : ℕ) → n ≤ j → n ≤ k → digits_up_to j n ≡ digits_up_to k n
digits_up_to-enough zero zero n a b = refl
digits_up_to-enough zero (suc k) n a b = let none : n ≡ 0 = omega arith in rw none refl
digits_up_to-enough (suc j) zero n a b = let none : n ≡ 0 = omega arith in rw none refl
digits_up_to-enough (suc j) (suc k) n a b =
    ap (λ rest. cond (nat_eq n 0) [] (n % 2 ∷ rest)) (digits_up_to-enough j k (n / 2) (omega arith) (omega arith))

-- The binary digits of a positive n, lowest first, are n % 2 and then those of n / 2.
binary_digits-step : (n : ℕ) → 0 < n → binary_digits n ≡ n % 2 ∷ binary_digits (n / 2)
binary_digits-step zero h = absurd (omega arith)
binary_digits-step (suc k) h =
    let some : nat_eq (suc k) 0 ≡ false = grind (arith, nat_tests) in
    rw some (ap (λ rest. suc k % 2 ∷ rest) (digits_up_to-enough k (suc k / 2) (suc k / 2) (omega arith) (omega arith)))

pub length-cycle : (d : List ℕ) (n : ℕ) → length (cycle d n) ≡ n
unfolding cycle
length-cycle d n = length-map-range_with_len _ 0 n

pub digit_pieces-zero : (one other : List ℕ) → digit_pieces one other 0 ≡ []
digit_pieces-zero one other = refl

-- The pieces of a positive n are the piece of its lowest binary digit and then those of n / 2.
pub digit_pieces-step : (one other : List ℕ) (n : ℕ) → 0 < n
    → digit_pieces one other n ≡ by_digit one other (n % 2) ++ digit_pieces one other (n / 2)
digit_pieces-step one other n h = ap (flat_map (by_digit one other)) (binary_digits-step n h)

length-digits_up_to : (k n : ℕ) → length (digits_up_to k n) ≤ k
length-digits_up_to zero n = omega arith
length-digits_up_to (suc k) n = go (nat_eq n 0) (digits_up_to k (n / 2)) k (length-digits_up_to k (n / 2)) where
  go : (b : Bool) (rest : List ℕ) (m : ℕ) → length rest ≤ m → length (cond b [] (n % 2 ∷ rest)) ≤ suc m
  go true rest m h = omega arith
  go false rest m h = omega arith

-- A number n has at most n digits.
length-binary_digits : (n : ℕ) → length (binary_digits n) ≤ n
length-binary_digits n = length-digits_up_to n n

-- The length of a list chosen by a condition is the length chosen by that condition.
pub length-cond : (b : Bool) (one other : List ℕ) → length (cond b one other) ≡ cond b (length one) (length other)
length-cond true one other = refl
length-cond false one other = refl

-- The pieces for the binary digits of n have as many bytes in all as `digit_bytes` says.
pub length-digit_pieces : (one other : List ℕ) (n : ℕ)
    → length (digit_pieces one other n) ≡ digit_bytes (length one) (length other) n
length-digit_pieces one other n =
    length-flat_map _ (binary_digits n)
    ∙ ap (λ f. sum_by f (binary_digits n)) (fun_ext (λ digit. length-cond (nat_eq digit 1) one other))

pub digit_bytes-zero : (one other : ℕ) → digit_bytes one other 0 ≡ 0
digit_bytes-zero one other = refl

-- The bytes for the binary digits of a positive n are those for its lowest digit and those for n / 2.
pub digit_bytes-step : (one other n : ℕ) → 0 < n
    → digit_bytes one other n ≡ by_digit one other (n % 2) + digit_bytes one other (n / 2)
digit_bytes-step one other n some =
    ap (sum_by (by_digit one other)) (binary_digits-step n some)
    ∙ sum_by-cons (by_digit one other) (n % 2) (binary_digits (n / 2))

-- If neither piece has more than m bytes, the pieces for the binary digits of n have at most n * m bytes in all.
pub digit_bytes-le-mul : (one other m n : ℕ) → one ≤ m → other ≤ m → digit_bytes one other n ≤ n * m
digit_bytes-le-mul one other m n a b =
    let all = sum_by-le (by_digit one other) m (binary_digits n) (λ k d inside. small (nat_eq (get_or (binary_digits n) k d) 1)) in
    omega (arith, all, mul-le-mul_right m (length-binary_digits n)) where
      small : (b : Bool) → cond b one other ≤ m
      small true = a
      small false = b
