-- Lemmas for `Scheme::fitted` in src/policy.rt: it takes no more rounds than the policy has, a hash with them is within
-- the limit, and if it finds no rounds, a hash with any rounds costs more than the limit. The fitting rounds are what
-- the limit leaves after the messages before the rounds (the opening), divided by the bytes of the longest round, and
-- clamped. No round has more bytes than that (`rounds_bytes-le-mul`), so that many rounds are within the limit; rounds
-- in range that cost more than the limit must be more than that many. The last part shows that there always is a scheme
-- within a policy's own limit: SHA-crypt with 1000 rounds costs less than the least limit, and the cost of the other
-- methods hardly depends on the password.
use Rattle.std.proofs.Common.{◌≡◌, ℕ, ◌+◌, ◌-◌, ◌*◌, ◌/◌, ◌<◌, ◌≤◌, Bool, true, false, nat_le, if◌then◌else◌, Option, Some, None, inl, inr, refl, arith}
use Rattle.std.specs.Int.{div_ceil}
use Rattle.std.specs.Prelude.{IfNone, IfSome, IsSome}
use Rattle.std.proofs.lemmas.Bool.{cases_lt}
use Rattle.std.proofs.lemmas.Bool.Decides.{nat_tests}
use Rattle.std.proofs.Math.Nat.{div-mul-le_self, mul-le-mul, mul-le-mul_right}
use Rattle.kdf_core.specs.Hmac.{key_digests}
use Rattle.crypt_core.specs.Cycle.{digit_bytes}
use Rattle.crypt_core.specs.Policies.{NeverFits, fewer_rounds, fitting_rounds, limit_floor, new_cost, policy_limit}
use Rattle.crypt_core.specs.OutdatedSchemes.{is_outdated_by}
use Rattle.crypt_core.specs.Rounds.{Rounds, clamped}
use Rattle.crypt_core.specs.Schemes.{IsScheme, method_of, sha_method}
use Rattle.crypt_core.specs.Work.{rounds_bytes, shacrypt_bytes}
use Rattle.crypt_core.specs.declared.scheme.Scheme.{Scheme}
use Rattle.crypt_core.specs.declared.scheme.Scheme.TheVariants.{Md5crypt, Shacrypt, Scrypt}
use Rattle.crypt_core.specs.declared.scheme.Sha.TheVariants.{Sha256, Sha512}
use Rattle.crypt_core.proofs.WorkBounds.{digit_bytes-le-mul_of_below_pow}

-- ---- the bytes of more rounds

rounds_bytes-mono : (n most digest len salt : ℕ) → n ≤ most → rounds_bytes n digest len salt ≤ rounds_bytes most digest len salt
rounds_bytes-mono n most digest len salt few =
    let all : n * (digest + len) ≤ most * (digest + len) = mul-le-mul_right (digest + len) few in
    let salted : (n - div_ceil n 3) * salt ≤ (most - div_ceil most 3) * salt = mul-le-mul_right salt (omega arith) in
    let twice : (n - div_ceil n 7) * len ≤ (most - div_ceil most 7) * len = mul-le-mul_right len (omega arith) in
    omega (arith, all, salted, twice)

shacrypt_bytes-mono : (n most digest len salt : ℕ) → n ≤ most → shacrypt_bytes digest 255 n len salt ≤ shacrypt_bytes digest 255 most len salt
shacrypt_bytes-mono n most digest len salt few = omega (arith, rounds_bytes-mono n most digest len salt few)

-- n rounds have at most n times the bytes of the longest round.
rounds_bytes-le-mul : (n digest len salt : ℕ) → rounds_bytes n digest len salt ≤ n * (digest + 2 * len + salt)
rounds_bytes-le-mul n digest len salt =
    let salted : (n - div_ceil n 3) * salt ≤ n * salt = mul-le-mul_right salt (omega arith) in
    let twice : (n - div_ceil n 7) * len ≤ n * len = mul-le-mul_right len (omega arith) in
    omega (arith, salted, twice)

-- ---- the rounds that fit

-- fitting digest limit len: the fitting rounds before they are clamped, for a digest of `digest` bytes, a password of
-- `len` bytes and a salt of 16.
abbrev fitting : ℕ → ℕ → ℕ → ℕ
fitting digest limit len = (limit - shacrypt_bytes digest 255 0 len 16) / (digest + 2 * len + 16)

-- A number of rounds that is at most `fitting` costs no more than the limit, if the limit covers the messages before
-- the rounds.
fitting-within_limit : (digest limit len n : ℕ) → shacrypt_bytes digest 255 0 len 16 ≤ limit → n ≤ fitting digest limit len
    → shacrypt_bytes digest 255 n len 16 ≤ limit
fitting-within_limit digest limit len n opened few =
    let per = digest + 2 * len + 16 in
    let left = limit - shacrypt_bytes digest 255 0 len 16 in
    let most : left / per * per ≤ left = div-mul-le_self left per in
    let all : n * per ≤ left / per * per = mul-le-mul_right per few in
    let longest = rounds_bytes-le-mul n digest len 16 in
    omega (arith, most, all, longest, opened)

-- If at least one round fits the limit, the limit covers the messages before the rounds.
opening-within_limit : (digest limit len n : ℕ) → n ≤ fitting digest limit len → 0 < n → shacrypt_bytes digest 255 0 len 16 ≤ limit
opening-within_limit digest limit len n few some = elim (cases_lt limit (shacrypt_bytes digest 255 0 len 16)) [
  | inl less ↦
      let nothing_left : limit - shacrypt_bytes digest 255 0 len 16 ≡ 0 = omega (arith, less) in
      let none_fitting : fitting digest limit len ≡ 0 = rw nothing_left (omega arith) in
      absurd (omega (arith, none_fitting, few, some))
  | inr enough ↦ enough
]

-- If some rounds, at least 1000, cost more than the limit, the fitting rounds, clamped, are no more than these.
clamped_fitting-le : (digest limit len count : ℕ) → 1000 ≤ count → limit < shacrypt_bytes digest 255 count len 16
    → clamped (fitting digest limit len) ≤ count
clamped_fitting-le digest limit len count many above = elim (cases_lt (fitting digest limit len) count) [
  | inl more ↦ omega (arith, many, more)
  | inr fewer ↦
      let opened = opening-within_limit digest limit len count fewer (omega (arith, many)) in
      let within = fitting-within_limit digest limit len count opened fewer in
      absurd (omega (arith, within, above))
]

-- If even the fitting rounds, clamped, cost more than the limit, they are the fewest, so all other rounds in range cost
-- more than the limit too.
above_limit-from_fitting_above : (digest limit len count : ℕ) → 1000 ≤ count → limit < shacrypt_bytes digest 255 (clamped (fitting digest limit len)) len 16
    → limit < shacrypt_bytes digest 255 count len 16
above_limit-from_fitting_above digest limit len count many above = elim (cases_lt (fitting digest limit len) 1000) [
  | inl less ↦
      let fewest : clamped (fitting digest limit len) ≡ 1000 = omega (arith, less) in
      let more = shacrypt_bytes-mono 1000 count digest len 16 many in
      omega (arith, rw fewest at above, more)
  | inr enough ↦
      let fewer : clamped (fitting digest limit len) ≤ fitting digest limit len = omega (arith, enough) in
      let opened = opening-within_limit digest limit len (clamped (fitting digest limit len)) fewer (omega arith) in
      let within = fitting-within_limit digest limit len (clamped (fitting digest limit len)) opened fewer in
      absurd (omega (arith, within, above))
]

-- ---- each scheme

-- If the policy's scheme costs more than the limit, the scheme of `fewer_rounds` does not replace it, since its rounds
-- are no more.
pub is_outdated_by-fewer_rounds : (scheme : Scheme) (limit len : ℕ) → IsScheme scheme → limit < new_cost scheme len
    → IfSome (fewer_rounds scheme limit len) (λ fewer. is_outdated_by scheme fewer ≡ false)
is_outdated_by-fewer_rounds Md5crypt limit len in_range above = tt
is_outdated_by-fewer_rounds (Shacrypt Sha256 rounds) limit len in_range above =
    go (nat_le (shacrypt_bytes 32 255 (clamped (fitting 32 limit len)) len 16) limit) (clamped_fitting-le 32 limit len rounds.count (omega (arith, in_range.0)) above)
  where
    go : (within : Bool) → clamped (fitting 32 limit len) ≤ rounds.count
        → IfSome (if within then Some (Shacrypt Sha256 (record { count = clamped (fitting 32 limit len); is_written = true })) else None)
        (λ fewer. is_outdated_by (Shacrypt Sha256 rounds) fewer ≡ false)
    go true less = grind (arith, nat_tests, less)
    go false less = tt
is_outdated_by-fewer_rounds (Shacrypt Sha512 rounds) limit len in_range above =
    go (nat_le (shacrypt_bytes 64 255 (clamped (fitting 64 limit len)) len 16) limit) (clamped_fitting-le 64 limit len rounds.count (omega (arith, in_range.0)) above)
  where
    go : (within : Bool) → clamped (fitting 64 limit len) ≤ rounds.count
        → IfSome (if within then Some (Shacrypt Sha512 (record { count = clamped (fitting 64 limit len); is_written = true })) else None)
        (λ fewer. is_outdated_by (Shacrypt Sha512 rounds) fewer ≡ false)
    go true less = grind (arith, nat_tests, less)
    go false less = tt
is_outdated_by-fewer_rounds (Scrypt params) limit len in_range above = tt

-- A new hash with the scheme of `fewer_rounds` is within the limit, and the scheme has the same method.
pub fewer_rounds-within_limit : (scheme : Scheme) (limit len : ℕ)
    → IfSome (fewer_rounds scheme limit len) (λ fewer. (new_cost fewer len ≤ limit) × (method_of fewer ≡ method_of scheme))
fewer_rounds-within_limit Md5crypt limit len = tt
fewer_rounds-within_limit (Shacrypt sha rounds) limit len =
    go (Shacrypt sha (record { count = fitting_rounds sha limit len; is_written = true })) refl
    (nat_le (new_cost (Shacrypt sha (record { count = fitting_rounds sha limit len; is_written = true })) len) limit) refl
  where
    go : (fewer : Scheme) → method_of fewer ≡ sha_method sha → (within : Bool) → nat_le (new_cost fewer len) limit ≡ within
        → IfSome (if within then Some fewer else None) (λ fewer. (new_cost fewer len ≤ limit) × (method_of fewer ≡ sha_method sha))
    go fewer same true test = (grind (arith, nat_tests, test), same)
    go fewer same false test = tt
fewer_rounds-within_limit (Scrypt params) limit len = tt

-- If the policy's scheme costs more than the limit and `fewer_rounds` is None, every number of rounds costs more.
NeverFits-from_none : (scheme : Scheme) (limit len : ℕ) → IsScheme scheme → limit < new_cost scheme len → fewer_rounds scheme limit len ≡ None
    → NeverFits scheme limit len
NeverFits-from_none Md5crypt limit len in_range above none = above
NeverFits-from_none (Shacrypt Sha256 rounds) limit len in_range above none = λ other range. elim (cases_lt limit
    (shacrypt_bytes 32 255 (clamped (fitting 32 limit len)) len 16)) [
      | inl more ↦ above_limit-from_fitting_above 32 limit len other.count (omega (arith, range.0)) more
      | inr less ↦
          let test : nat_le (shacrypt_bytes 32 255 (clamped (fitting 32 limit len)) len 16) limit ≡ true = grind (arith, nat_tests, less) in
          absurd (cc (rw test at none))
    ]
NeverFits-from_none (Shacrypt Sha512 rounds) limit len in_range above none = λ other range. elim (cases_lt limit
    (shacrypt_bytes 64 255 (clamped (fitting 64 limit len)) len 16)) [
      | inl more ↦ above_limit-from_fitting_above 64 limit len other.count (omega (arith, range.0)) more
      | inr less ↦
          let test : nat_le (shacrypt_bytes 64 255 (clamped (fitting 64 limit len)) len 16) limit ≡ true = grind (arith, nat_tests, less) in
          absurd (cc (rw test at none))
    ]
NeverFits-from_none (Scrypt params) limit len in_range above none = above

-- ---- a policy's own limit

-- SHA-crypt with 1000 rounds costs no more than the least limit of a policy.
fewest_rounds-le-limit_floor : (digest len : ℕ) → digest ≤ 64 → len ≤ 1024 → shacrypt_bytes digest 255 1000 len 16 ≤ limit_floor
fewest_rounds-le-limit_floor digest len small short =
    let digits : digit_bytes digest len len ≤ 11 * 1024 = digit_bytes-le-mul_of_below_pow 11 digest len 1024 len (omega (arith, small)) short (omega (arith, short)) in
    let square : len * len ≤ 1024 * 1024 = mul-le-mul short short in
    omega (arith, digits, square, small, short)

limit_floor-le-policy_limit : (scheme : Scheme) → limit_floor ≤ policy_limit scheme
limit_floor-le-policy_limit scheme = grind arith

-- The fewest rounds of SHA-crypt, in a `rounds=` field.
abbrev fewest : Rounds
fewest = record { count = 1000; is_written = true }

-- If the limit is at least the policy's own, some scheme is within it for a password of any length.
policy_limit-not-NeverFits : (scheme : Scheme) (limit len : ℕ) → len ≤ 1024 → policy_limit scheme ≤ limit → NeverFits scheme limit len → ⊥
policy_limit-not-NeverFits Md5crypt limit len short least never =
    let digits : digit_bytes 1 1 len ≤ 11 * 1 = digit_bytes-le-mul_of_below_pow 11 1 1 1 len (omega arith) (omega arith) (omega (arith, short)) in
    let floor = limit_floor-le-policy_limit Md5crypt in
    absurd (omega (arith, digits, never, least, short, floor))
policy_limit-not-NeverFits (Shacrypt Sha256 rounds) limit len short least never =
    let more = never fewest (refl, λ written. absurd (cc written)) in
    let less = fewest_rounds-le-limit_floor 32 len (omega arith) short in
    let floor = limit_floor-le-policy_limit (Shacrypt Sha256 rounds) in
    absurd (omega (arith, more, less, least, floor))
policy_limit-not-NeverFits (Shacrypt Sha512 rounds) limit len short least never =
    let more = never fewest (refl, λ written. absurd (cc written)) in
    let less = fewest_rounds-le-limit_floor 64 len (omega arith) short in
    let floor = limit_floor-le-policy_limit (Shacrypt Sha512 rounds) in
    absurd (omega (arith, more, less, least, floor))
policy_limit-not-NeverFits (Scrypt params) limit len short least never =
    let digest : key_digests len ≤ 1 = grind (arith, nat_tests) in
    let key : key_digests len * len ≤ 1 * 1024 = mul-le-mul digest short in
    let twice : 2 * new_cost (Scrypt params) 64 ≤ policy_limit (Scrypt params) = grind arith in
    absurd (omega (arith, key, never, least, twice))

-- If the limit is at least the policy's own and a new hash with the policy's scheme costs more, `fewer_rounds` finds a
-- scheme.
pub IsSome-fewer_rounds : (scheme : Scheme) (limit len : ℕ) → IsScheme scheme → limit < new_cost scheme len → len ≤ 1024 → policy_limit scheme ≤ limit
    → IsSome (fewer_rounds scheme limit len)
IsSome-fewer_rounds scheme limit len in_range above short least = go (fewer_rounds scheme limit len) refl where
  go : (fewer : Option Scheme) → fewer_rounds scheme limit len ≡ fewer → IsSome fewer
  go (Some fewer) e = refl
  go None e = absurd (policy_limit-not-NeverFits scheme limit len short least (NeverFits-from_none scheme limit len in_range above e))

-- `fewer_rounds` is None only if a new hash costs more than the limit, for SHA-crypt with any rounds.
pub IfNone-fewer_rounds : (scheme : Scheme) (limit len : ℕ) → IsScheme scheme → limit < new_cost scheme len
    → IfNone (fewer_rounds scheme limit len) (NeverFits scheme limit len)
IfNone-fewer_rounds scheme limit len in_range above = go (fewer_rounds scheme limit len) refl where
  go : (fewer : Option Scheme) → fewer_rounds scheme limit len ≡ fewer → IfNone fewer (NeverFits scheme limit len)
  go (Some fewer) e = tt
  go None e = NeverFits-from_none scheme limit len in_range above e
