-- The work of scrypt (RFC 7914, section 6), as a closed form in the lengths of the password, the salt and the result.
use Rattle.std.specs.Prelude.{◌≡◌, ℕ, ◌+◌, ◌*◌, ◌⊎◌}
use Rattle.std.specs.Int.{div_ceil}
use Rattle.prims_core.specs.declared.meter.Work.{Work}
use Rattle.kdf_core.specs.Hmac.{sha256_length, key_digests, tag_bytes}
use Rattle.kdf_core.specs.Params.{ScryptParams, row_count}
use Rattle.kdf_core.specs.Scrypt.{part_bytes, parts_bytes}

-- table_bytes params: the number of bytes of the one table, whose N rows are each as long as a part.
abbrev pub table_bytes : ScryptParams → ℕ
table_bytes params = row_count params * part_bytes params

-- scrypt_work params password_length salt_length count: all five counts, for a password and a salt of these lengths and
-- a result of `count` bytes.
--   digests  two for each 32-byte tag, of all parts and of the result; one more for a password longer than a block
--   bytes    such a password, and the `tag_bytes` of each tag. The text of a tag is a salt and a block's number in 4
--            bytes; for the tags of the result, the salt is all parts
--   mixes    for each part, N to fill the rows of the table and N to mix the part with them
--   table    the bytes of the N rows
--   scratch  the bytes of all parts, and of the two halves in which a part is mixed
abbrev pub scrypt_work : ScryptParams → ℕ → ℕ → ℕ → Work
scrypt_work params password_length salt_length count = record {
  digests = 8 * (params.r * params.p) + 2 * div_ceil count sha256_length + key_digests password_length;
  bytes = key_digests password_length * password_length + 4 * (params.r * params.p) * tag_bytes (salt_length + 4)
      + div_ceil count sha256_length * tag_bytes (parts_bytes params + 4);
  mixes = 2 * row_count params * params.p;
  table = table_bytes params;
  scratch = parts_bytes params + 2 * part_bytes params;
}

-- mixed_bytes params: the number of bytes that scrypt mixes. Each mixing mixes as many bytes as a part has.
abbrev pub mixed_bytes : ScryptParams → ℕ
mixed_bytes params = 2 * row_count params * params.p * part_bytes params

-- IsAfterRefusal before params after: `after` are the counts after scrypt failed to allocate the table, the parts or
-- the halves. They include the allocations before the one that failed.
abbrev pub IsAfterRefusal : Work → ScryptParams → Work → Type 0
IsAfterRefusal before params after =
    (after ≡ before)
    ⊎ ((after ≡ record before { table = before.table + table_bytes params })
    ⊎ (after ≡ record before { table = before.table + table_bytes params; scratch = before.scratch + parts_bytes params }))
