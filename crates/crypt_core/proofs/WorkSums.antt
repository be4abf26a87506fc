-- Sums the bytes of the messages of all rounds, for the clause `specified` of `md5crypt` and `shacrypt`.
-- `sum_by-messages_to_rounds` goes by induction over the rounds. Every third round omits the salt and every seventh the
-- second password, so the step needs that `div_ceil n d` counts the numbers below n that d divides.
use Rattle.std.proofs.Common.{◌≡◌, ℕ, zero, suc, ◌+◌, ◌-◌, ◌*◌, ◌/◌, ◌%◌, ◌<◌, ◌≤◌, Bool, true, false, cond, nat_eq, List, length, arith, add-one, sym, ◌∙◌, inl, inr}
use Rattle.std.specs.Int.{div_ceil}
use Rattle.std.specs.Prelude.{sum_by, min, ◌⊎◌}
use Rattle.std.proofs.lemmas.Bool.{cases_lt}
use Rattle.std.proofs.lemmas.Bool.Decides.{nat_tests}
use Rattle.std.proofs.lemmas.List.Sums.{sum_by_push}
use Rattle.std.proofs.lemmas.Nat.{div-add-mod', div-mul-add, mod-mul-add, mod_below}
use Rattle.std.proofs.Math.Nat.{div-le_self, mod-le}
use Rattle.crypt_core.specs.Work.{rounds_bytes}
use Rattle.crypt_core.proofs.MessageLists.{messages_to-more, messages_to, round_length}

-- Dividing n + 1 by d and rounding up gives one more than dividing n by d and rounding down.
div_ceil-suc : (n d : ℕ) → 0 < d → div_ceil (n + 1) d ≡ n / d + 1
div_ceil-suc n d some = go (n / d) (n % d) (sym (div-add-mod' n d)) (mod_below n d some) (cases_lt (n % d + 1) d) where
  go : (q r : ℕ) → n ≡ q * d + r → r < d → (r + 1 < d) ⊎ (d ≤ r + 1) → div_ceil (n + 1) d ≡ q + 1
  go q r split below (inl within) =
      let next : n + 1 ≡ q * d + (r + 1) = omega arith in
      rw (next, div-mul-add q d (r + 1) within, mod-mul-add q d (r + 1) within) (omega arith)
  go q r split below (inr whole) =
      let next : n + 1 ≡ (q + 1) * d + 0 = omega arith in
      rw (next, div-mul-add (q + 1) d 0 some, mod-mul-add (q + 1) d 0 some) (omega arith)

-- `div_ceil n d` counts the numbers below n that d divides: it grows by 1 from n to n + 1 if d divides n, and otherwise
-- stays the same.
div_ceil-more : (n d : ℕ) → 0 < d → div_ceil (n + 1) d ≡ div_ceil n d + cond (nat_eq (n % d) 0) 1 0
div_ceil-more n d some = div_ceil-suc n d some ∙ sym (go (n / d) (n % d)) where
  go : (q r : ℕ) → q + min 1 r + cond (nat_eq r 0) 1 0 ≡ q + 1
  go q zero = omega arith
  go q (suc r) = grind (arith, nat_tests)

-- A division that rounds up does not make a number larger.
div_ceil-le : (n d : ℕ) → 0 < d → div_ceil n d ≤ n
div_ceil-le zero d some = omega (arith, div-le_self 0 d, mod-le 0 d)
div_ceil-le (suc n) d some = rw (← add-one n, div_ceil-suc n d some) (omega (arith, div-le_self n d))

-- If every round has w bytes, except for the rounds whose number d divides, which have none, round n adds w bytes or
-- none.
unskipped_bytes-more : (n d w : ℕ) → 0 < d
    → (n + 1 - div_ceil (n + 1) d) * w ≡ (n - div_ceil n d) * w + cond (nat_eq (n % d) 0) 0 w
unskipped_bytes-more n d w some = go (nat_eq (n % d) 0) (div_ceil-more n d some) where
  go : (b : Bool) → div_ceil (n + 1) d ≡ div_ceil n d + cond b 1 0
      → (n + 1 - div_ceil (n + 1) d) * w ≡ (n - div_ceil n d) * w + cond b 0 w
  go true e =
      let none : n + 1 - (div_ceil n d + 1) ≡ n - div_ceil n d = omega arith in
      rw (e, none) (omega arith)
  go false e =
      let one : n + 1 - (div_ceil n d + 0) ≡ n - div_ceil n d + 1 = omega (arith, div_ceil-le n d some) in
      rw (e, one) (omega arith)

-- Round n adds the bytes of its message to those of the rounds before it.
rounds_bytes-more : (n x p q : ℕ) → rounds_bytes (n + 1) x p q ≡ rounds_bytes n x p q + round_length n x p q
rounds_bytes-more n x p q = omega (arith, unskipped_bytes-more n 3 q (omega arith), unskipped_bytes-more n 7 p (omega arith))

-- The messages of n rounds add `rounds_bytes` to the bytes of the messages before the rounds.
pub sum_by-messages_to_rounds : (message : ℕ → List ℕ) (before x p q : ℕ) → ((i : ℕ) → length (message (i + before)) ≡ round_length i x p q)
    → (n : ℕ) → sum_by length (messages_to message (n + before)) ≡ sum_by length (messages_to message before) + rounds_bytes n x p q
sum_by-messages_to_rounds message before x p q each zero =
    let none : zero + before ≡ before = omega arith in
    rw none (omega arith)
sum_by-messages_to_rounds message before x p q each (suc n) =
    let next : suc n + before ≡ n + before + 1 = omega arith in
    let more : suc n ≡ n + 1 = omega arith in
    rw (next, messages_to-more message (n + before), sum_by_push length (messages_to message (n + before)) (message (n + before)), more)
    (omega (arith, sum_by-messages_to_rounds message before x p q each n, each n, rounds_bytes-more n x p q))
