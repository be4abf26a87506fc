-- Bounds on scrypt's numbers that follow from the ceiling on N * r * p, so that nothing overflows and all memory fits.
-- They serve the clauses `bounded` of `params`, the preconditions in `romix`, `scrypt` and `lent`, and the overflow
-- checks in `scrypt_work`. N, r and p are each at least 1, so a product of some of them is within the ceiling as well.
use Rattle.std.proofs.Common.{◌≡◌, ℕ, ◌+◌, ◌-◌, ◌*◌, ◌/◌, ◌^◌, ◌<◌, ◌≤◌, ap, ◌∙◌, true, false, nat_lt, if◌then◌else◌, arith}
use Rattle.std.proofs.Math.Nat.{le-mul_of_pos_right, mul-le-mul_left, mul-le-mul_right, lt_of_not-le}
use Rattle.std.proofs.Math.Pow.{pow_mono}
use Rattle.std.proofs.lemmas.Nat.{pow-add, pow_pos}
use Rattle.kdf_core.specs.Params.{ScryptParams, row_count, IsAccepted, IsBounded}
use Rattle.kdf_core.specs.Private.Mixing.{IsPower}
use Rattle.kdf_core.specs.HmacMessages.{key_bytes}
use Rattle.kdf_core.specs.Pbkdf2Messages.{block_bytes, pbkdf2_bytes}
use Rattle.kdf_core.specs.Scrypt.{parts_bytes}
use Rattle.kdf_core.specs.ScryptWork.{table_bytes}
use Rattle.std.specs.Int.{div_ceil}

-- Accepted parameters are bounded.
pub IsBounded-from_IsAccepted : (params : ScryptParams) → IsAccepted params → IsBounded params
IsBounded-from_IsAccepted params accepted =
    let n = row_count params in
    let r = params.r in
    let p = params.p in
    let some_r : 0 < r = accepted.0.2 in
    let some_p : 0 < p = accepted.0.3 in
    let two : 2 ≤ n = let mono : 2 ^ 1 ≤ 2 ^ params.log_n = pow_mono accepted.0.0 in omega (arith, mono) in
    let within : n * r * p ≤ 8388608 = accepted.1 in
    let table : n * r ≤ n * r * p = le-mul_of_pos_right (n * r) some_p in
    let mixes : n * p ≤ n * p * r = le-mul_of_pos_right (n * p) some_r in
    let parts : 2 * (r * p) ≤ n * (r * p) = mul-le-mul_right (r * p) two in
    let blocks : r ≤ r * p = le-mul_of_pos_right r some_p in
    -- log2 N of 23 or more needs r of at least 2, since log2 N is below 16r, and then N * r is above the ceiling.
    let low : params.log_n < 23 = lt_of_not-le (λ high.
    let power : 2 ^ 23 ≤ n = pow_mono high in
    let two_r : 2 ≤ r = omega (arith, accepted.0.1) in
    let twice : n * 2 ≤ n * r = mul-le-mul_left n two_r in
    omega arith) in
    record {
      accepted = accepted;
      log = omega (arith, low);
      two_rows = two;
      table = omega arith;
      parts = omega arith;
      blocks = omega arith;
      mixes = omega arith;
    }

-- A number of rows that is a power of two from 2 to 2 ^ 32 is even, and not 0.
pub IsPower-even : (rows k : ℕ) → IsPower rows k → 2 * (rows / 2) ≡ rows
IsPower-even rows k power =
    let k_split : k ≡ 1 + (k - 1) = omega (arith, power.above_one) in
    let rows_twice : rows ≡ 2 * 2 ^ (k - 1) = power.power ∙ (ap (λ e. 2 ^ e) k_split ∙ pow-add 2 1 (k - 1)) in
    omega (arith, rows_twice)

pub IsPower-pos : (rows k : ℕ) → IsPower rows k → 0 < rows
IsPower-pos rows k power = omega (arith, power.power, pow_pos k)

-- The number of bytes of all parts that the code computes is that of the definition.
pub parts_bytes-product : (params : ScryptParams) (r p : ℕ) → r ≡ params.r → p ≡ params.p → 128 * r * p ≡ parts_bytes params
parts_bytes-product params r p r_is p_is = ap (λ n. 128 * n * p) r_is ∙ ap (λ n. 128 * params.r * n) p_is

-- Since r * p is at most 2 ^ 22, all parts have at most 2 ^ 29 bytes.
pub parts_bytes-le : (params : ScryptParams) → IsAccepted params → parts_bytes params ≤ 2 ^ 29
parts_bytes-le params accepted = omega (arith, (IsBounded-from_IsAccepted params accepted).parts)

-- PBKDF2 derives the parts as 4rp blocks of 32 bytes.
pub div_ceil-parts_bytes : (params : ScryptParams) → div_ceil (parts_bytes params) 32 ≡ 4 * (params.r * params.p)
div_ceil-parts_bytes params =
    let product : parts_bytes params ≡ 32 * (4 * (params.r * params.p)) = omega arith in
    ap (λ n. div_ceil n 32) product ∙ omega arith

pub key_bytes-le : (length : ℕ) → key_bytes length ≤ length
key_bytes-le length =
    elim (nat_lt 64 length) as (λ b. (if b then 1 else 0) * length ≤ length) [ true ↦ omega arith | false ↦ omega arith ]

-- If a meter has counted at most 2 ^ 120 bytes, adding the bytes of the key and of two derivations stays below 2 ^ 128.
pub digested_bytes-lt : (before key blocks each more last : ℕ) → before ≤ 2 ^ 120 → key < 2 ^ 64 → blocks ≤ 2 ^ 24 → each ≤ 2 ^ 65
    → more ≤ 2 ^ 33 → last ≤ 2 ^ 31 → before + key + blocks * each + more * last < 2 ^ 128
digested_bytes-lt before key blocks each more last before_le key_lt blocks_le each_le more_le last_le =
    let derived : blocks * each ≤ 2 ^ 24 * each = mul-le-mul_right each blocks_le in
    let answer : more * last ≤ 2 ^ 33 * last = mul-le-mul_right last more_le in
    omega arith

-- The number of bytes of the table that the code computes is that of the definition.
pub table_bytes-product : (params : ScryptParams) (n r : ℕ) → n ≡ row_count params → r ≡ params.r → 4 * (n * (32 * r)) ≡ table_bytes params
table_bytes-product params n r n_is r_is =
    ap (λ k. 4 * (k * (32 * r))) n_is ∙ (ap (λ k. 4 * (row_count params * (32 * k))) r_is ∙ omega arith)

-- A meter with at most 2 ^ 120 bytes can count all bytes that scrypt digests without overflow.
pub scrypt_bytes-lt : (before password_length salt_length count first last : ℕ) (params : ScryptParams) → IsAccepted params → before ≤ 2 ^ 120
    → password_length < 2 ^ 64 → salt_length < 2 ^ 64 → count ≤ 32 * (2 ^ 32 - 1) → first ≡ parts_bytes params → last ≡ parts_bytes params
    → before + key_bytes password_length + pbkdf2_bytes salt_length 1 first + pbkdf2_bytes last 1 count < 2 ^ 128
scrypt_bytes-lt before password_length salt_length count first last params accepted before_le password_lt salt_lt count_le first_is last_is =
    let parts_le : parts_bytes params ≤ 2 ^ 29 = parts_bytes-le params accepted in
    digested_bytes-lt before (key_bytes password_length) (div_ceil first 32) (block_bytes salt_length 1) (div_ceil count 32) (block_bytes last 1) before_le
    (omega (arith, key_bytes-le password_length)) (omega arith) (omega arith) (omega arith) (omega arith)

-- In `scrypt_work`, whose lengths are at most 2 ^ 32, the number of digested bytes fits into 64 bits.
pub known_work_bytes-lt : (key parts tag blocks last : ℕ) → key ≤ 2 ^ 32 → parts ≤ 2 ^ 22 → tag ≤ 2 ^ 33 → blocks ≤ 2 ^ 27 → last ≤ 2 ^ 30
    → key + 4 * parts * tag + blocks * last < 2 ^ 64
known_work_bytes-lt key parts tag blocks last key_le parts_le tag_le blocks_le last_le =
    let derived : 4 * parts * tag ≤ 2 ^ 24 * tag = mul-le-mul_right tag (omega arith) in
    let answer : blocks * last ≤ 2 ^ 27 * last = mul-le-mul_right last blocks_le in
    omega arith
