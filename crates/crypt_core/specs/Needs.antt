-- The memory that a hash needs. Only scrypt needs any (RFC 7914).
use Rattle.std.specs.Prelude.{ℕ, ⊤}
use Rattle.kdf_core.specs.Lent.{needed_bytes, needed_words}
use Rattle.kdf_core.specs.Params.{ScryptParams}
use Rattle.crypt_core.specs.declared.scheme.Scheme.{Scheme}
use Rattle.crypt_core.specs.declared.scheme.Scheme.TheVariants.{Scrypt}

-- words_by scheme: how many words of 4 bytes a hash with the scheme needs.
abbrev pub words_by : Scheme → ℕ
words_by (Scrypt params) = needed_words params
words_by scheme = 0

-- bytes_by scheme: how many bytes a hash with the scheme needs in addition to these words.
abbrev pub bytes_by : Scheme → ℕ
bytes_by (Scrypt params) = needed_bytes params
bytes_by scheme = 0

-- AreEnough enough scheme: memory is enough for a hash with the scheme, where `enough` says for which of scrypt's
-- parameters the memory is enough. The other schemes need no memory.
abbrev pub AreEnough : (ScryptParams → Type 0) → Scheme → Type 0
AreEnough enough (Scrypt params) = enough params
AreEnough enough scheme = ⊤
