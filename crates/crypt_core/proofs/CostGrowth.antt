-- Shows that a hash of a longer password costs no less, which the binary search of `Scheme::longest_within` in
-- src/policy.rt needs. `cost_by-mono` goes by induction over the difference of the lengths, so the step is a password
-- with one more byte. If the length's binary digits end in 1s, the carry turns these into 0s and the 0 before them into
-- a 1. In SHA-crypt, the message of the digest A then loses up to ten digests and one password
-- (`digit_bytes-le-next`), at most 1663 bytes, but the rounds add at least 1857 bytes (`rounds_bytes-le-next`).
use Rattle.std.proofs.Common.{◌≡◌, ℕ, zero, suc, ◌+◌, ◌-◌, ◌*◌, ◌/◌, ◌%◌, ◌^◌, ◌<◌, ◌≤◌, Bool, true, false, cond, nat_eq, inl, inr, refl, arith}
use Rattle.std.specs.Int.{div_ceil}
use Rattle.std.proofs.lemmas.Bool.{cases_lt}
use Rattle.std.proofs.lemmas.Bool.Decides.{nat_tests}
use Rattle.std.proofs.Math.Nat.{mul-le-mul}
use Rattle.kdf_core.specs.Hmac.{key_digests}
use Rattle.crypt_core.specs.Cycle.{digit_bytes}
use Rattle.crypt_core.specs.Passwords.{password_limit}
use Rattle.crypt_core.specs.Schemes.{IsScheme}
use Rattle.crypt_core.specs.Work.{cost_by, rounds_bytes, shacrypt_bytes}
use Rattle.crypt_core.specs.declared.scheme.Scheme.{Scheme}
use Rattle.crypt_core.specs.declared.scheme.Scheme.TheVariants.{Md5crypt, Shacrypt, Scrypt}
use Rattle.crypt_core.specs.declared.scheme.Sha.TheVariants.{Sha256, Sha512}
use Rattle.crypt_core.proofs.CycleLemmas.{digit_bytes-zero, digit_bytes-step}

-- ---- the bytes for the binary digits

-- If n is even, n + 1 has the same binary digits except the lowest, so at most the `other` bytes for the 0 are lost.
digit_bytes-le-next_of_even : (one other n half : ℕ) → n % 2 ≡ 0 → n / 2 ≡ half → 0 < n → digit_bytes one other n ≤ digit_bytes one other (n + 1) + other
digit_bytes-le-next_of_even one other n half low_is half_is some =
    let this : digit_bytes one other n ≡ other + digit_bytes one other half =
    rw (digit_bytes-step one other n some, low_is, half_is) refl in
    let low_next : (n + 1) % 2 ≡ 1 = omega (arith, low_is) in
    let half_next : (n + 1) / 2 ≡ half = omega (arith, low_is, half_is) in
    let next : digit_bytes one other (n + 1) ≡ one + digit_bytes one other half =
    rw (digit_bytes-step one other (n + 1) (omega arith), low_next, half_next) refl in
    omega (arith, this, next)

-- If n is odd, n + 1 ends in the digit 0, and its half is one more than the half of n. So at most `one` bytes are lost
-- in addition to those that the half loses.
digit_bytes-le-next_of_odd : (one other n half more : ℕ) → n % 2 ≡ 1 → n / 2 ≡ half → digit_bytes one other half ≤ digit_bytes one other (half + 1) + more
    → digit_bytes one other n ≤ digit_bytes one other (n + 1) + (one + more)
digit_bytes-le-next_of_odd one other n half more low_is half_is rest =
    let this : digit_bytes one other n ≡ one + digit_bytes one other half =
    rw (digit_bytes-step one other n (omega (arith, low_is)), low_is, half_is) refl in
    let low_next : (n + 1) % 2 ≡ 0 = omega (arith, low_is) in
    let half_next : (n + 1) / 2 ≡ half + 1 = omega (arith, low_is, half_is) in
    let next : digit_bytes one other (n + 1) ≡ other + digit_bytes one other (half + 1) =
    rw (digit_bytes-step one other (n + 1) (omega arith), low_next, half_next) refl in
    omega (arith, this, next, rest)

-- From a number of at most k digits to the next one, the pieces lose at most k times `one` bytes and once `other`
-- bytes: the carry turns the 1s at the end into 0s, and the 0 before them into a 1.
digit_bytes-le-next : (k one other n : ℕ) → n < 2 ^ k → digit_bytes one other n ≤ digit_bytes one other (n + 1) + (k * one + other)
digit_bytes-le-next k one other zero below = omega (arith, digit_bytes-zero one other)
digit_bytes-le-next zero one other (suc n) below = absurd (omega (arith, below))
digit_bytes-le-next (suc k) one other (suc n) below =
    let rest = digit_bytes-le-next k one other (suc n / 2) (omega (arith, below)) in
    elim (cases_lt (suc n % 2) 1) [
      | inl even ↦ omega (arith, digit_bytes-le-next_of_even one other (suc n) (suc n / 2) (omega (arith, even)) refl (omega arith))
      | inr odd ↦ omega (arith, digit_bytes-le-next_of_odd one other (suc n) (suc n / 2) (k * one + other) (omega (arith, odd)) refl rest)
    ]

-- A longer piece for the digit 0 makes the pieces no shorter.
digit_bytes-le-wider : (k one other most n : ℕ) → other ≤ most → n < 2 ^ k → digit_bytes one other n ≤ digit_bytes one most n
digit_bytes-le-wider k one other most zero wide below = omega (arith, digit_bytes-zero one other)
digit_bytes-le-wider zero one other most (suc n) wide below = absurd (omega (arith, below))
digit_bytes-le-wider (suc k) one other most (suc n) wide below =
    let rest = digit_bytes-le-wider k one other most (suc n / 2) wide (omega (arith, below)) in
    omega (
      arith,
      digit_bytes-step one other (suc n) (omega arith),
      digit_bytes-step one most (suc n) (omega arith),
      rest,
      piece (nat_eq (suc n % 2) 1),
    )
  where
    piece : (odd : Bool) → cond odd one other ≤ cond odd one most
    piece true = omega arith
    piece false = wide

-- ---- the bytes of the rounds

rounds_bytes-le-next : (count digest n salt : ℕ) → 1000 ≤ count → rounds_bytes count digest n salt + 1857 ≤ rounds_bytes count digest (n + 1) salt
rounds_bytes-le-next count digest n salt many =
    let once : count * (digest + (n + 1)) ≡ count * (digest + n) + count = omega arith in
    let twice : (count - div_ceil count 7) * (n + 1) ≡ (count - div_ceil count 7) * n + (count - div_ceil count 7) = omega arith in
    omega (arith, once, twice, many)

-- ---- the cost

shacrypt_bytes-le-next : (digest count n salt : ℕ) → digest ≤ 64 → 1000 ≤ count → n < 1024
    → shacrypt_bytes digest 255 count n salt ≤ shacrypt_bytes digest 255 count (n + 1) salt
shacrypt_bytes-le-next digest count n salt small many short =
    let digits = digit_bytes-le-next 10 digest n n (omega (arith, short)) in
    let wider = digit_bytes-le-wider 11 digest n (n + 1) (n + 1) (omega arith) (omega (arith, short)) in
    let rounds = rounds_bytes-le-next count digest n salt many in
    let square : n * n ≤ (n + 1) * (n + 1) = mul-le-mul (omega arith) (omega arith) in
    omega (arith, digits, wider, rounds, square, small, short)

cost_by-le-next : (scheme : Scheme) (n salt : ℕ) → IsScheme scheme → n < 1024 → cost_by scheme n salt ≤ cost_by scheme (n + 1) salt
cost_by-le-next Md5crypt n salt in_range short =
    let digits = digit_bytes-le-next 10 1 1 n (omega (arith, short)) in
    let rounds = rounds_bytes-le-next 1000 16 n salt (omega arith) in
    omega (arith, digits, rounds)
cost_by-le-next (Shacrypt Sha256 rounds) n salt in_range short = shacrypt_bytes-le-next 32 rounds.count n salt (omega arith) (omega (arith, in_range.0)) short
cost_by-le-next (Shacrypt Sha512 rounds) n salt in_range short = shacrypt_bytes-le-next 64 rounds.count n salt (omega arith) (omega (arith, in_range.0)) short
cost_by-le-next (Scrypt params) n salt in_range short =
    let digest : key_digests n ≤ key_digests (n + 1) = grind (arith, nat_tests) in
    let longer : n ≤ n + 1 = omega arith in
    omega (arith, digest, mul-le-mul digest longer)

cost_by-le-add : (scheme : Scheme) (k n salt : ℕ) → IsScheme scheme → n + k ≤ 1024 → cost_by scheme n salt ≤ cost_by scheme (n + k) salt
cost_by-le-add scheme zero n salt in_range short =
    let same : n + 0 ≡ n = omega arith in
    rw same (omega arith)
cost_by-le-add scheme (suc k) n salt in_range short =
    let same : n + suc k ≡ (n + k) + 1 = omega arith in
    let less = cost_by-le-add scheme k n salt in_range (omega (arith, short)) in
    let more = cost_by-le-next scheme (n + k) salt in_range (omega (arith, short)) in
    rw same (omega (arith, less, more))

-- A hash with the same scheme and the same length of salt costs no less for a longer password.
pub cost_by-mono : (scheme : Scheme) (n most salt : ℕ) → IsScheme scheme → n ≤ most → most ≤ password_limit
    → cost_by scheme n salt ≤ cost_by scheme most salt
cost_by-mono scheme n most salt in_range less short =
    let same : most ≡ n + (most - n) = omega (arith, less) in
    rw same (cost_by-le-add scheme (most - n) n salt in_range (omega (arith, less, short)))
