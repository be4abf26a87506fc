-- A key of HMAC-SHA-256 as the code prepares it, and the messages that a key and a tag digest.
use Rattle.std.specs.Prelude.{◌≡◌, ℕ, ◌*◌, List, [], ◌∷◌, ◌++◌, length, nat_lt, if◌then◌else◌}
use Rattle.prims_core.specs.Digests.{sha256}
use Rattle.kdf_core.specs.Hmac.{sha256_block, padded_key, key_digests}

-- A prepared key: the key, padded to a block, XOR the inner pad, and the same XOR the outer pad.
pub record PaddedKey : Type 0 where
  pub inner : List ℕ
  pub outer : List ℕ

-- IsKeyOf held key: `held` is the key `key`, of any length, prepared for tags.
pub record IsKeyOf (held : PaddedKey) (key : List ℕ) : Type 0 where
  pub inner : held.inner ≡ padded_key key 0x36
  pub outer : held.outer ≡ padded_key key 0x5c

-- key_messages key: the messages that are digested to prepare a key: the key itself if it is longer than a block, and
-- otherwise none.
abbrev pub key_messages : List ℕ → List (List ℕ)
key_messages key = if nat_lt sha256_block (length key) then key ∷ [] else []

-- key_bytes key_length: the number of bytes digested to prepare a key of this length.
abbrev pub key_bytes : ℕ → ℕ
key_bytes key_length = key_digests key_length * key_length

-- tag_messages key text: the two messages of a tag: the inner padded key followed by the text, and the outer padded key
-- followed by the digest of the first message.
abbrev pub tag_messages : List ℕ → List ℕ → List (List ℕ)
tag_messages key text =
    let inner = padded_key key 0x36 ++ text in
    inner ∷ (padded_key key 0x5c ++ sha256 inner) ∷ []
