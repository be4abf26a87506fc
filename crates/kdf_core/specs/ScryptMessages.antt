-- The messages that scrypt digests (RFC 7914, section 6), and the meter after scrypt.
use Rattle.std.specs.Prelude.{ℕ, List, ◌++◌}
use Rattle.std.specs.List.{flat_map}
use Rattle.prims_core.specs.Words.{chunks_exact}
use Rattle.prims_core.specs.Work.{raised_by}
use Rattle.prims_core.specs.declared.meter.Work.{Work}
use Rattle.kdf_core.specs.HmacMessages.{key_messages}
use Rattle.kdf_core.specs.Params.{ScryptParams, row_count}
use Rattle.kdf_core.specs.Pbkdf2.{pbkdf2_sha256}
use Rattle.kdf_core.specs.Pbkdf2Messages.{pbkdf2_messages}
use Rattle.kdf_core.specs.Scrypt.{mixed_part, part_bytes, parts_bytes}
use Rattle.kdf_core.specs.ScryptWork.{scrypt_work}

-- mixed_parts n size bytes: the parts, of `size` bytes each, with each replaced by its ROMix with n rows (step 2).
unfoldable pub mixed_parts : ℕ → ℕ → List ℕ → List ℕ
mixed_parts n size bytes = flat_map (mixed_part n) (chunks_exact bytes size)

-- scrypt_messages password salt params count: the password if it is longer than a SHA-256 block, and then the messages
-- of both PBKDF2 derivations.
unfoldable pub scrypt_messages : List ℕ → List ℕ → ScryptParams → ℕ → List (List ℕ)
scrypt_messages password salt params count =
    let derived = pbkdf2_sha256 password salt 1 (parts_bytes params) in
    key_messages password ++ pbkdf2_messages password salt 1 (parts_bytes params)
    ++ pbkdf2_messages password (mixed_parts (row_count params) (part_bytes params) derived) 1 count

-- with_scrypt counts params password_length salt_length count: the counts of a meter after scrypt, where `counts` are
-- those before.
abbrev pub with_scrypt : Work → ScryptParams → ℕ → ℕ → ℕ → Work
with_scrypt counts params password_length salt_length count =
    raised_by counts (scrypt_work params password_length salt_length count)
