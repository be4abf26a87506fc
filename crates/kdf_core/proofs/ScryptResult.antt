-- The clauses of `derive` and `scrypt`, from the clauses of the calls in them. `scrypt-from_derivations` composes the
-- two derivations and the mixing between them to the value of the definition. `scrypt_work-digests` and
-- `scrypt_work-bytes` say that the work of these three steps is that of the closed form. `meter-after_two_allocations`
-- gives the meter after the third allocation fails.
use Rattle.std.proofs.Common.{◌≡◌, ℕ, ◌+◌, ◌*◌, List, length, ap, ◌∙◌, arith}
use Rattle.std.specs.Int.{div_ceil}
use Rattle.prims_core.specs.Meter.{with_work}
use Rattle.prims_core.specs.declared.meter.Work.{Work}
use Rattle.kdf_core.specs.Hmac.{key_digests, tag_bytes}
use Rattle.kdf_core.specs.HmacMessages.{key_bytes}
use Rattle.kdf_core.specs.Params.{ScryptParams, row_count}
use Rattle.kdf_core.specs.Pbkdf2.{pbkdf2_sha256}
use Rattle.kdf_core.specs.Pbkdf2Messages.{block_bytes, pbkdf2_digests, pbkdf2_bytes}
use Rattle.kdf_core.specs.Scrypt.{part_bytes, parts_bytes, scrypt}
use Rattle.kdf_core.specs.ScryptMessages.{mixed_parts}
use Rattle.kdf_core.specs.ScryptWork.{scrypt_work}
use Rattle.kdf_core.proofs.ScryptBounds.{div_ceil-parts_bytes}

-- Deriving the parts, mixing them, and deriving the result from them is scrypt.
pub scrypt-from_derivations : (password salt : List ℕ) (params : ScryptParams) (count n : ℕ) (parts halves derived mixed out : List ℕ)
    → n ≡ row_count params → length parts ≡ parts_bytes params → length halves ≡ 64 * params.r
    → derived ≡ pbkdf2_sha256 password salt 1 (length parts) → mixed ≡ mixed_parts n (2 * length halves) derived
    → out ≡ pbkdf2_sha256 password mixed 1 count → out ≡ scrypt password salt params count
unfolding scrypt mixed_parts
scrypt-from_derivations password salt params count n parts halves derived mixed out n_is length_parts length_halves derived_is mixed_is out_is =
    let size : 2 * length halves ≡ part_bytes params = omega arith in
    let derived_of_params : derived ≡ pbkdf2_sha256 password salt 1 (parts_bytes params) = derived_is ∙ ap (pbkdf2_sha256 password salt 1) length_parts in
    out_is ∙ ap (λ (s : List ℕ). pbkdf2_sha256 password s 1 count)
    (mixed_is ∙ (ap (λ k. mixed_parts k (2 * length halves) derived) n_is
    ∙ (ap (λ k. mixed_parts (row_count params) k derived) size ∙ ap (mixed_parts (row_count params) (part_bytes params)) derived_of_params)))

-- Mixing digests nothing, so the bytes counted before the last derivation are those of the key and of the first
-- derivation.
pub bytes-before_last_derivation : (m0 m1 m2 m3 : Work) (key_d key_b first_d first_b mixes : ℕ) → m1 ≡ with_work m0 key_d key_b
    → m2 ≡ with_work m1 first_d first_b → m3 ≡ record m2 { mixes = m2.mixes + mixes } → m3.bytes ≡ m0.bytes + key_b + first_b
bytes-before_last_derivation m0 m1 m2 m3 key_d key_b first_d first_b mixes m1_is m2_is m3_is =
    omega (arith, ap (λ (m : Work). m.bytes) m1_is, ap (λ (m : Work). m.bytes) m2_is, ap (λ (m : Work). m.bytes) m3_is)

-- The key and both derivations take as many digests as the closed form says, and as many bytes.
pub scrypt_work-digests : (params : ScryptParams) (password_length salt_length count first : ℕ) → first ≡ parts_bytes params
    → key_digests password_length + pbkdf2_digests 1 first + pbkdf2_digests 1 count ≡ (scrypt_work params password_length salt_length count).digests
scrypt_work-digests params password_length salt_length count first first_is =
    let blocks : div_ceil first 32 ≡ 4 * (params.r * params.p) = ap (λ n. div_ceil n 32) first_is ∙ div_ceil-parts_bytes params in
    omega (arith, blocks)

pub scrypt_work-bytes : (params : ScryptParams) (password_length salt_length count first last : ℕ) → first ≡ parts_bytes params → last ≡ parts_bytes params
    → key_bytes password_length + pbkdf2_bytes salt_length 1 first + pbkdf2_bytes last 1 count
    ≡ (scrypt_work params password_length salt_length count).bytes
scrypt_work-bytes params password_length salt_length count first last first_is last_is =
    let blocks : div_ceil first 32 ≡ 4 * (params.r * params.p) = ap (λ n. div_ceil n 32) first_is ∙ div_ceil-parts_bytes params in
    let derived : pbkdf2_bytes salt_length 1 first ≡ 4 * (params.r * params.p) * tag_bytes (salt_length + 4) =
    ap (λ n. n * block_bytes salt_length 1) blocks ∙ omega arith in
    let answer : pbkdf2_bytes last 1 count ≡ div_ceil count 32 * tag_bytes (parts_bytes params + 4) =
    ap (λ n. div_ceil count 32 * block_bytes n 1) last_is ∙ omega arith in
    ap (λ n. key_bytes password_length + n + pbkdf2_bytes last 1 count) derived
    ∙ ap (λ n. key_bytes password_length + 4 * (params.r * params.p) * tag_bytes (salt_length + 4) + n) answer

-- The counts of a meter after the table and the parts were allocated and the allocation of the halves failed.
pub meter-after_two_allocations : (m0 m1 m2 m3 : Work) (t s table parts : ℕ) → m1 ≡ record m0 { table = m0.table + t }
    → m2 ≡ record m1 { scratch = m1.scratch + s } → m3 ≡ m2 → t ≡ table → s ≡ parts
    → m3 ≡ record m0 { table = m0.table + table; scratch = m0.scratch + parts }
meter-after_two_allocations m0 m1 m2 m3 t s table parts m1_is m2_is m3_is t_is s_is =
    m3_is ∙ (m2_is ∙ (ap (λ (m : Work). record m { scratch = m.scratch + s }) m1_is
    ∙ (ap (λ n. record m0 { table = m0.table + n; scratch = m0.scratch + s }) t_is
    ∙ ap (λ n. record m0 { table = m0.table + table; scratch = m0.scratch + n }) s_is)))
