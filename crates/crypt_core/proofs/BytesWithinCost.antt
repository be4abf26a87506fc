-- Shows that a hash digests at most as many bytes as its cost says, for the clause `metered` of `digest_of` in
-- src/hash.rt. `work_by_bytes-le-cost_by` goes scheme by scheme. For SHA-crypt, the cost takes 255 where the work takes
-- the first byte of the digest A, which is below 256. For the other schemes, the work and the cost have the same
-- digested bytes.
use Rattle.std.proofs.Common.{◌≤◌, ℕ, List, length, arith}
use Rattle.prims_core.specs.Digests.{sha256, sha512, length-sha256, length-sha512}
use Rattle.prims_core.specs.Private.DigestFacts.{sha256_bytes, sha512_bytes}
use Rattle.crypt_core.specs.Settings.{SettingValue}
use Rattle.crypt_core.specs.ShaCrypt.{sha_opening_byte}
use Rattle.crypt_core.specs.Work.{cost, cost_by, first_byte_by, work, work_by}
use Rattle.crypt_core.specs.declared.scheme.Scheme.{Scheme}
use Rattle.crypt_core.specs.declared.scheme.Scheme.TheVariants.{Md5crypt, Shacrypt, Scrypt}
use Rattle.crypt_core.specs.declared.scheme.Sha.TheVariants.{Sha256, Sha512}
use Rattle.crypt_core.proofs.ShaCryptLemmas.{sha_opening_byte-below}
use Rattle.crypt_core.proofs.WorkBounds.{shacrypt_work-within}

work_by_bytes-le-cost_by : (scheme : Scheme) (password salt : List ℕ)
    → (work_by scheme (first_byte_by scheme password salt) (length password) (length salt)).bytes ≤ cost_by scheme (length password) (length salt)
work_by_bytes-le-cost_by Md5crypt password salt = omega arith
work_by_bytes-le-cost_by (Shacrypt Sha256 rounds) password salt =
    (shacrypt_work-within 32 (sha_opening_byte sha256 password salt) rounds.count (length password) (length salt)
    (sha_opening_byte-below sha256 32 length-sha256 password salt (omega arith) sha256_bytes)).bytes
work_by_bytes-le-cost_by (Shacrypt Sha512 rounds) password salt =
    (shacrypt_work-within 64 (sha_opening_byte sha512 password salt) rounds.count (length password) (length salt)
    (sha_opening_byte-below sha512 64 length-sha512 password salt (omega arith) sha512_bytes)).bytes
work_by_bytes-le-cost_by (Scrypt params) password salt = omega arith

pub work_bytes-le-cost : (password : List ℕ) (kept : SettingValue) → (work password kept).bytes ≤ cost kept (length password)
work_bytes-le-cost password kept = work_by_bytes-le-cost_by kept.scheme password kept.salt
