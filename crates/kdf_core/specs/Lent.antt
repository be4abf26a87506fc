-- The memory that a caller lends to scrypt (RFC 7914, sections 5 and 6).
use Rattle.std.specs.Prelude.{ℕ, ◌+◌, ◌*◌}
use Rattle.kdf_core.specs.Params.{ScryptParams, row_count}
use Rattle.kdf_core.specs.Scrypt.{parts_bytes}

-- needed_words params: the number of words for the N rows of the table and for the two halves in which a part is mixed.
-- A row and a half are each as long as a part, which is 32r words.
abbrev pub needed_words : ScryptParams → ℕ
needed_words params = 32 * params.r * (row_count params + 2)

-- needed_bytes params: the number of bytes for all p parts of scrypt.
abbrev pub needed_bytes : ScryptParams → ℕ
needed_bytes params = parts_bytes params
