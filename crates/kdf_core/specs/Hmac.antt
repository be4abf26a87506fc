-- HMAC (RFC 2104, section 2) over SHA-256 (FIPS 180-4), and the digests and bytes that it takes.
use Rattle.std.specs.Prelude.{ℕ, ◌+◌, ◌-◌, ◌*◌, List, ◌++◌, length, replicate, nat_lt, if◌then◌else◌}
use Rattle.prims_core.specs.Digests.{sha256}
use Rattle.prims_core.specs.Words.{xor_lists}

-- The number of bytes of a SHA-256 block.
abbrev pub sha256_block : ℕ
sha256_block = 64

-- The number of bytes of a SHA-256 digest.
abbrev pub sha256_length : ℕ
sha256_length = 32

-- key_block key: K, the key as one block. A key longer than a block is first replaced by its SHA-256 digest. Zeros fill
-- the rest of the block.
unfoldable pub key_block : List ℕ → List ℕ
key_block key =
    let kept = if nat_lt sha256_block (length key) then sha256 key else key in
    kept ++ replicate (sha256_block - length kept) 0

-- padded_key key pad: K XOR a pad, which is one byte repeated to the length of a block.
unfoldable pub padded_key : List ℕ → ℕ → List ℕ
padded_key key pad = xor_lists (key_block key) (replicate sha256_block pad)

-- hmac_sha256 key text: H(K XOR opad, H(K XOR ipad, text)). ipad is the byte 0x36, and opad the byte 0x5c.
unfoldable pub hmac_sha256 : List ℕ → List ℕ → List ℕ
hmac_sha256 key text = sha256 (padded_key key 0x5c ++ sha256 (padded_key key 0x36 ++ text))

-- key_digests key_length: the number of digests that it takes to prepare a key of this length: one if the key is longer
-- than a block, and otherwise none.
abbrev pub key_digests : ℕ → ℕ
key_digests key_length = if nat_lt sha256_block key_length then 1 else 0

-- tag_bytes text_length: the number of bytes digested for a tag of a text of this length: two padded keys, the text,
-- and the inner digest.
abbrev pub tag_bytes : ℕ → ℕ
tag_bytes text_length = 2 * sha256_block + sha256_length + text_length
