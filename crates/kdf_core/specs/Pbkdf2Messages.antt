-- The messages that PBKDF2 over HMAC-SHA-256 digests, and closed forms of their number and of their bytes.
use Rattle.std.specs.Prelude.{ℕ, ◌+◌, ◌-◌, ◌*◌, List}
use Rattle.std.specs.List.{flat_map, range_with_len}
use Rattle.std.specs.Int.{div_ceil}
use Rattle.kdf_core.specs.Hmac.{sha256_length, tag_bytes}
use Rattle.kdf_core.specs.HmacMessages.{tag_messages}
use Rattle.kdf_core.specs.Pbkdf2.{chain}

-- block_messages password salt rounds i: the messages of block i, which are those of the tags U_1 to U_c. U_1 is the
-- tag of S || INT (i), and each later tag is the tag of the one before it.
unfoldable pub block_messages : List ℕ → List ℕ → ℕ → ℕ → List (List ℕ)
block_messages password salt rounds i =
    flat_map (λ j. tag_messages password (chain password salt i j)) (range_with_len 0 rounds)

-- pbkdf2_messages password salt rounds count: the messages for a result of `count` bytes, which are those of the blocks
-- T_1, T_2, ..
unfoldable pub pbkdf2_messages : List ℕ → List ℕ → ℕ → ℕ → List (List ℕ)
pbkdf2_messages password salt rounds count =
    flat_map (block_messages password salt rounds) (range_with_len 1 (div_ceil count sha256_length))

-- block_bytes salt_length rounds: the number of bytes of one block's messages: the bytes for the tag of S || INT (i),
-- and the bytes for each later tag.
abbrev pub block_bytes : ℕ → ℕ → ℕ
block_bytes salt_length rounds = tag_bytes (salt_length + 4) + tag_bytes sha256_length * (rounds - 1)

-- pbkdf2_digests rounds count: the number of messages for a result of `count` bytes: two for each tag.
abbrev pub pbkdf2_digests : ℕ → ℕ → ℕ
pbkdf2_digests rounds count = 2 * rounds * div_ceil count sha256_length

-- pbkdf2_bytes salt_length rounds count: the number of bytes of the messages for a result of `count` bytes. Each block
-- has the same number.
abbrev pub pbkdf2_bytes : ℕ → ℕ → ℕ → ℕ
pbkdf2_bytes salt_length rounds count = div_ceil count sha256_length * block_bytes salt_length rounds
