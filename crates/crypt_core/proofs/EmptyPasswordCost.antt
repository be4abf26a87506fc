-- Lemmas for the clause `admits` of `Scheme::policy_limit` in src/policy.rt: the limit covers a check of the empty
-- password against every hash with the policy's scheme, even if its salt is longer than that of new hashes. The empty
-- password costs no more than one of 64 bytes (`cost_by-le-at_64`), and a longer salt at most doubles that, since only
-- scrypt keeps longer salts than it generates, and it digests the salt only once for each block.
use Rattle.std.proofs.Common.{ℕ, ◌-◌, ◌*◌, ◌≤◌, arith}
use Rattle.std.specs.Int.{div_ceil}
use Rattle.std.proofs.Math.Nat.{mul-le-mul_left}
use Rattle.crypt_core.specs.MethodLimits.{salt_limit}
use Rattle.crypt_core.specs.Policies.{new_cost, policy_limit}
use Rattle.crypt_core.specs.Schemes.{method_of}
use Rattle.crypt_core.specs.Work.{cost_by}
use Rattle.crypt_core.specs.declared.scheme.Scheme.{Scheme}
use Rattle.crypt_core.specs.declared.scheme.Scheme.TheVariants.{Md5crypt, Shacrypt, Scrypt}
use Rattle.crypt_core.specs.declared.scheme.Sha.TheVariants.{Sha256, Sha512}
use Rattle.crypt_core.proofs.WorkBounds.{cost_by-le-at_64}

-- A hash of a password of 64 bytes, with any salt that the method keeps, costs at most twice as much as a new hash of
-- it. For scrypt, the salt counts only in the few bytes of its messages.
cost_by-le-twice_new_cost : (scheme : Scheme) (salt : ℕ) → salt ≤ salt_limit (method_of scheme) → cost_by scheme 64 salt ≤ 2 * new_cost scheme 64
cost_by-le-twice_new_cost Md5crypt salt short = omega (arith, short)
cost_by-le-twice_new_cost (Shacrypt Sha256 rounds) salt short = omega (arith, short, mul-le-mul_left (rounds.count - div_ceil rounds.count 3) short)
cost_by-le-twice_new_cost (Shacrypt Sha512 rounds) salt short = omega (arith, short, mul-le-mul_left (rounds.count - div_ceil rounds.count 3) short)
cost_by-le-twice_new_cost (Scrypt params) salt short = omega (arith, short, mul-le-mul_left (params.r * params.p) short)

pub empty_password_cost-le-policy_limit : (scheme : Scheme) (salt : ℕ) → salt ≤ salt_limit (method_of scheme) → cost_by scheme 0 salt ≤ policy_limit scheme
empty_password_cost-le-policy_limit scheme salt short =
    let most = cost_by-le-at_64 scheme 0 salt (omega arith) in
    let own = cost_by-le-twice_new_cost scheme salt short in
    grind (arith, most, own)
