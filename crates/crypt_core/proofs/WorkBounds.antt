-- Bounds on the work and the cost of a hash. `shacrypt_work-within` and `scrypt_work-below_limit` serve the bounds of
-- src/work.rt, `cost_by-le-at_64` serves `Scheme::policy_limit`, and `cost-le-longest_password` serves the audits of
-- run_core: the longest password, or one of 64 bytes, costs at least as much as any shorter one. Shorter passwords have
-- shorter messages, except for the pieces for the binary digits of the length. There it matters that 1024 and 64 are
-- powers of two: such a length has more digits than any smaller one.
use Rattle.std.proofs.Common.{ℕ, zero, suc, ◌+◌, ◌-◌, ◌*◌, ◌/◌, ◌%◌, ◌^◌, ◌<◌, ◌≤◌, Bool, true, false, cond, nat_eq, length, inl, inr, arith, ◌≡◌, refl}
use Rattle.std.specs.Int.{div_ceil}
use Rattle.std.proofs.lemmas.Bool.{cases_order}
use Rattle.std.proofs.lemmas.Bool.Decides.{nat_tests}
use Rattle.std.proofs.Math.Nat.{mul-le-mul, mul-le-mul_left, mul-le-mul_right}
use Rattle.kdf_core.specs.Hmac.{key_digests}
use Rattle.kdf_core.specs.Params.{ScryptParams, IsBounded}
use Rattle.crypt_core.specs.Cycle.{digit_bytes}
use Rattle.crypt_core.specs.MethodLimits.{scrypt_salt_limit}
use Rattle.crypt_core.specs.Passwords.{password_limit}
use Rattle.crypt_core.specs.Settings.{SettingValue}
use Rattle.crypt_core.specs.Work.{cost, cost_by, rounds_bytes, shacrypt_work, work_by, work_limit, IsBelow, IsWithin, greatest_byte}
use Rattle.crypt_core.specs.declared.scheme.Scheme.{Scheme}
use Rattle.crypt_core.specs.declared.scheme.Scheme.TheVariants.{Md5crypt, Shacrypt, Scrypt}
use Rattle.crypt_core.specs.declared.scheme.Sha.TheVariants.{Sha256, Sha512}
use Rattle.crypt_core.proofs.CycleLemmas.{digit_bytes-step}

-- ---- the work

-- SHA-crypt's work with any first byte of the digest A is within the work with the greatest byte, which repeats the
-- salt most often.
pub shacrypt_work-within : (digest a rounds password salt : ℕ) → a < 256
    → IsWithin (shacrypt_work digest a rounds password salt) (shacrypt_work digest greatest_byte rounds password salt)
shacrypt_work-within digest a rounds password salt byte =
    let times : (16 + a) * salt ≤ (16 + greatest_byte) * salt = mul-le-mul_right salt (omega arith) in
    record { digests = omega arith; bytes = omega arith; mixes = omega arith; table = omega arith; scratch = omega arith }

-- Each count of a hash with scrypt is below `work_limit`, for parameters and lengths in range.
pub scrypt_work-below_limit : (params : ScryptParams) (a password salt : ℕ) → IsBounded params → password ≤ password_limit → salt ≤ scrypt_salt_limit
    → IsBelow (work_by (Scrypt params) a password salt) work_limit
scrypt_work-below_limit params a password salt most password_short salt_short =
    let digest : key_digests password ≤ 1 = grind (arith, nat_tests) in
    let key : key_digests password * password ≤ 1 * password_limit = mul-le-mul digest password_short in
    let salted : params.r * params.p * salt ≤ 2 ^ 22 * scrypt_salt_limit = mul-le-mul most.parts salt_short in
    record { digests = omega arith; bytes = omega arith; mixes = omega arith; table = omega arith; scratch = omega arith }

-- ---- the bytes for the binary digits of the length

-- A number below 2 ^ k has at most k binary digits, so its pieces have at most k * most bytes if each has at most
-- `most`.
pub digit_bytes-le-mul_of_below_pow : (k one other most n : ℕ) → one ≤ most → other ≤ most → n < 2 ^ k → digit_bytes one other n ≤ k * most
digit_bytes-le-mul_of_below_pow k one other most zero one_le other_le below = omega arith
digit_bytes-le-mul_of_below_pow zero one other most (suc n) one_le other_le below = absurd (omega (arith, below))
digit_bytes-le-mul_of_below_pow (suc k) one other most (suc n) one_le other_le below =
    let rest = digit_bytes-le-mul_of_below_pow k one other most (suc n / 2) one_le other_le (omega (arith, below)) in
    omega (arith, digit_bytes-step one other (suc n) (omega arith), rest, piece (nat_eq (suc n % 2) 1))
  where
    piece : (odd : Bool) → cond odd one other ≤ most
    piece true = one_le
    piece false = other_le

-- IsPower k most: the length `most` is 2 ^ k and at least 64. Its highest binary digit is its only 1, so the pieces for
-- its digits have the bytes that `digits` (SHA-crypt) and `single` (md5crypt) say.
record IsPower (k most : ℕ) : Type 0 where
  power : most ≡ 2 ^ k
  digits : (one : ℕ) → digit_bytes one most most ≡ one + k * most
  single : digit_bytes 1 1 most ≡ k + 1
  wide : 64 ≤ most

-- A length of 2 ^ k has more binary digits than any smaller length, so its pieces have no fewer bytes.
digit_bytes-le-at_power : (k most one n : ℕ) → IsPower k most → one ≤ most → n ≤ most → digit_bytes one n n ≤ digit_bytes one most most
digit_bytes-le-at_power k most one n is_power small short = elim (cases_order n most) [
  | inl same ↦ rw same (omega arith)
  | inr other ↦ elim other [
    | inl below ↦ omega (arith, digit_bytes-le-mul_of_below_pow k one n most n small short (rw is_power.power at below), is_power.digits one)
    | inr above ↦ absurd (omega (arith, short, above))
  ]
]

single_digit_bytes-le-at_power : (k most n : ℕ) → IsPower k most → n ≤ most → digit_bytes 1 1 n ≤ digit_bytes 1 1 most
single_digit_bytes-le-at_power k most n is_power short = elim (cases_order n most) [
  | inl same ↦ rw same (omega arith)
  | inr other ↦ elim other [
    | inl below ↦ omega (arith, digit_bytes-le-mul_of_below_pow k 1 1 1 n (omega arith) (omega arith) (rw is_power.power at below), is_power.single)
    | inr above ↦ absurd (omega (arith, short, above))
  ]
]

-- ---- the bytes of the rounds

rounds_bytes-mono_length : (count digest n most salt : ℕ) → n ≤ most → rounds_bytes count digest n salt ≤ rounds_bytes count digest most salt
rounds_bytes-mono_length count digest n most salt short =
    let once : count * (digest + n) ≤ count * (digest + most) = mul-le-mul_left count (omega (arith, short)) in
    omega (arith, once, mul-le-mul_left (count - div_ceil count 7) short)

-- ---- the cost

cost_by-le-at_power : (k most : ℕ) (scheme : Scheme) (n salt : ℕ) → IsPower k most → n ≤ most → cost_by scheme n salt ≤ cost_by scheme most salt
cost_by-le-at_power k most Md5crypt n salt is_power short = omega (arith, short, single_digit_bytes-le-at_power k most n is_power short, rounds_bytes-mono_length 1000 16 n most salt short)
cost_by-le-at_power k most (Shacrypt Sha256 rounds) n salt is_power short =
    omega (arith, short, mul-le-mul short short, digit_bytes-le-at_power k most 32 n is_power (omega (arith, is_power.wide)) short, rounds_bytes-mono_length rounds.count 32 n most salt short)
cost_by-le-at_power k most (Shacrypt Sha512 rounds) n salt is_power short =
    omega (arith, short, mul-le-mul short short, digit_bytes-le-at_power k most 64 n is_power is_power.wide short, rounds_bytes-mono_length rounds.count 64 n most salt short)
cost_by-le-at_power k most (Scrypt params) n salt is_power short =
    let digest : key_digests n ≤ key_digests most = grind (arith, nat_tests) in
    omega (arith, digest, mul-le-mul digest short)

pub cost-le-longest_password : (kept : SettingValue) (n : ℕ) → n ≤ password_limit → cost kept n ≤ cost kept password_limit
cost-le-longest_password kept n short = cost_by-le-at_power 10 password_limit kept.scheme n (length kept.salt)
    (record { power = refl; digits = λ one. omega arith; single = omega arith; wide = omega arith }) short

-- A password of 64 bytes costs at least as much as any shorter one.
pub cost_by-le-at_64 : (scheme : Scheme) (n salt : ℕ) → n ≤ 64 → cost_by scheme n salt ≤ cost_by scheme 64 salt
cost_by-le-at_64 scheme n salt short = cost_by-le-at_power 6 64 scheme n salt
    (record { power = refl; digits = λ one. omega arith; single = omega arith; wide = omega arith }) short
