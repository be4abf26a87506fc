-- The clauses of `scrypt_work`. No sum overflows, since the lengths are at most 2 ^ 32 and the parameters are bounded
-- (`known_work_bytes-lt`). The numbers that the code reads are those of the parameters, so its result is the closed
-- form.
use Rattle.std.proofs.Common.{◌≡◌, ℕ, ◌*◌, ◌^◌, ◌≤◌, ◌∙◌, refl, arith, rules}
use Rattle.std.proofs.Math.Nat.{mul-le-mul}
use Rattle.kdf_core.specs.Hmac.{key_digests}
use Rattle.kdf_core.proofs.ScryptBounds.{known_work_bytes-lt}
use Rattle.kdf_core.proofs.work.scrypt_work.Goals as goal

pub overflow_add-result-3 : goal.overflow_add-result-3
overflow_add-result-3 c =
    let parts : ℕ = c.from-r.result * c.from-p.result in
    let parts_le : parts ≤ 2 ^ 22 = rw (c.from-r.ensures ∙ c.r.ensures.number, c.from-p.ensures ∙ c.p.ensures.number) c.row_count.ensures.bounded.parts in
    let digests_le : c.from-key_digests.result ≤ 1 = search rules in
    let key_le : c.from-key_digests.result * c.args.password_len ≤ 1 * 2 ^ 32 = mul-le-mul digests_le c.requires.password in
    let bytes_lt = known_work_bytes-lt (c.from-key_digests.result * c.args.password_len) parts c.salted_tag_bytes.result 0 0 (omega arith) parts_le
    (omega arith) (omega arith) (omega arith) in
    omega (arith, bytes_lt)

pub overflow_add-result-4 : goal.overflow_add-result-4
overflow_add-result-4 c =
    let parts : ℕ = c.from-r.result * c.from-p.result in
    let parts_le : parts ≤ 2 ^ 22 = rw (c.from-r.ensures ∙ c.r.ensures.number, c.from-p.ensures ∙ c.p.ensures.number) c.row_count.ensures.bounded.parts in
    let digests_le : c.from-key_digests.result ≤ 1 = search rules in
    let key_le : c.from-key_digests.result * c.args.password_len ≤ 1 * 2 ^ 32 = mul-le-mul digests_le c.requires.password in
    let bytes_lt = known_work_bytes-lt (c.from-key_digests.result * c.args.password_len) parts c.salted_tag_bytes.result c.div_ceil-blocks.result
    c.salted_tag_bytes-2.result (omega arith) parts_le (omega arith) (omega arith) (omega arith) in
    omega (arith, bytes_lt)

pub returns-clause-work : goal.returns-clause-work
returns-clause-work c =
    let n = c.from-rows.ensures ∙ c.row_count.ensures.number in
    let r = c.from-r.ensures ∙ c.r.ensures.number in
    let p = c.from-p.ensures ∙ c.p.ensures.number in
    let key : c.from-key_digests.result ≡ key_digests c.args.password_len = search rules in
    rw (c.salted_tag_bytes.ensures, c.salted_tag_bytes-2.ensures, n, r, p, key, c.div_ceil-blocks.ensures) refl
