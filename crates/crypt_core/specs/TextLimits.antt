-- How long settings and hashes can be.
use Rattle.std.specs.Prelude.{ℕ, ◌+◌, length}
use Rattle.crypt_core.specs.MethodLimits.{packed_len, prefix, scrypt_salt_limit}
use Rattle.crypt_core.specs.declared.method.Method.TheVariants as methods

-- The number of characters of scrypt's cost part (`scrypt_part`): one for log2 N, five for r and five for p.
abbrev pub scrypt_part_len : ℕ
scrypt_part_len = 1 + 5 + 5

-- The most bytes of a setting in canonical form: scrypt's are the longest.
abbrev pub canonical_limit : ℕ
canonical_limit = length (prefix methods.Scrypt) + scrypt_part_len + scrypt_salt_limit

-- The most bytes of a hash: scrypt's longest setting in canonical form, a `$` and the packed digest.
abbrev pub hash_limit : ℕ
hash_limit = canonical_limit + 1 + packed_len methods.Scrypt
