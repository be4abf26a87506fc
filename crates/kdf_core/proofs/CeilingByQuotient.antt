-- The ceiling on N * r * p as `is_within_ceiling` tests it, without a product that could overflow. If N is at most 2 ^
-- 23, r * p is compared with the ceiling divided by N, rounded down, which decides the same. If N is 2 ^ 24 or more, N
-- alone is above the ceiling.
use Rattle.std.proofs.Common.{ℕ, ◌<◌, ◌≤◌, ◌*◌, ◌/◌, ◌^◌, IsTrue, nat_le, nat_lt, arith}
use Rattle.std.proofs.Math.Nat.{le-div_iff_mul-le, le-mul_of_pos_right}
use Rattle.std.proofs.lemmas.Bool.{leb-true, le-leb, ltb-true}
use Rattle.std.proofs.Math.Pow.{pow_mono}
use Rattle.std.proofs.lemmas.Nat.{pow_pos}

-- 2 ^ k * r * p is at most c exactly if r * p is at most c / 2 ^ k, rounded down.
pub quotient_test-iff_within : (k r p c : ℕ) → (IsTrue (nat_le (r * p) (c / 2 ^ k)) → 2 ^ k * r * p ≤ c) × (2 ^ k * r * p ≤ c → IsTrue (nat_le (r * p) (c / 2 ^ k)))
quotient_test-iff_within k r p c =
    let le_quotient_iff = le-div_iff_mul-le {k = 2 ^ k} {x = r * p} {y = c} (pow_pos k) in
    (λ h. omega (arith, le_quotient_iff.0 (leb-true _ _ h)), λ h. le-leb _ _ (le_quotient_iff.1 (omega (arith, h))))

-- If N = 2 ^ k is 2 ^ 24 or more, the product is above the ceiling.
pub above_ceiling-from_24 : (k r p : ℕ) → 24 ≤ k → 0 < r → 0 < p → 2 ^ k * r * p ≤ 8388608 → ⊥
above_ceiling-from_24 k r p high some_r some_p h =
    let power : 2 ^ 24 ≤ 2 ^ k = pow_mono high in
    omega (arith, power, le-mul_of_pos_right (2 ^ k) some_r, le-mul_of_pos_right (2 ^ k * r) some_p, h)

-- If k = log2 N is 24 or more, the test that k is below 24 and the test that the product is within the ceiling both
-- fail.
pub power_test-iff_within : (k r p : ℕ) → 24 ≤ k → 0 < r → 0 < p → (IsTrue (nat_lt k 24) → 2 ^ k * r * p ≤ 8388608) × (2 ^ k * r * p ≤ 8388608 → IsTrue (nat_lt k 24))
power_test-iff_within k r p high some_r some_p =
    (λ h. absurd (omega (arith, ltb-true k 24 h)), λ h. absurd (above_ceiling-from_24 k r p high some_r some_p h))
