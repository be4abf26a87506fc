-- HMAC step by step, for the functions of `hmac`: the block of a long key and of any other key (`block_of`), the block
-- XOR a pad (`HmacKey::new`), the tag from its two digests (`HmacKey::tag`), and XOR byte by byte (`xor_into`). Each
-- lemma unfolds one definition of the standard, and rewrites its parts to the values that the code computes.
use Rattle.std.proofs.Common.{◌≡◌, ℕ, ◌-◌, ◌<◌, ◌≤◌, List, [], ◌++◌, length, get_or, bit_xor, replicate, drop, sym, ap, ◌∙◌, append_assoc, arith}
use Rattle.std.proofs.lemmas.List.{append-nil, drop-replicate}
use Rattle.std.proofs.lemmas.Bool.{cond_below, cond_above}
use Rattle.std.proofs.lemmas.Grind.{same_number_lists}
use Rattle.std.proofs.lemmas.Simd.{get_or-zip2, length-zip2}
use Rattle.prims_core.specs.Digests.{sha256}
use Rattle.prims_core.specs.Words.{xor_lists}
use Rattle.kdf_core.specs.Hmac.{hmac_sha256, key_block, padded_key}
use Rattle.kdf_core.specs.HmacMessages.{PaddedKey, IsKeyOf}

-- A tag is the digest of the outer padded key followed by the digest of the inner padded key and the text.
pub hmac_sha256-from_digests : (held : PaddedKey) (key a b text tag : List ℕ) → IsKeyOf held key → text ≡ sha256 (held.inner ++ a ++ b)
    → tag ≡ sha256 (held.outer ++ text ++ []) → tag ≡ hmac_sha256 key (a ++ b)
unfolding hmac_sha256
hmac_sha256-from_digests held key a b text tag of_key text_is tag_is =
    let inner = padded_key key 0x36 in
    let outer = padded_key key 0x5c in
    -- The code's inner digest is that of the definition.
    let text_of_definition : text ≡ sha256 (inner ++ (a ++ b)) =
    text_is ∙ ap sha256 (append_assoc held.inner a b ∙ ap (λ (x : List ℕ). x ++ (a ++ b)) of_key.inner) in
    tag_is ∙ ap sha256 (append-nil (held.outer ++ text)
    ∙ (ap (λ (x : List ℕ). x ++ text) of_key.outer ∙ ap (λ (x : List ℕ). outer ++ x) text_of_definition))

-- filled_block kept: these bytes, followed by zeros up to 64 bytes.
abbrev filled_block : List ℕ → List ℕ
filled_block kept = kept ++ replicate (64 - length kept) 0

-- The block of a key of more than 64 bytes is the digest of the key, followed by zeros.
pub key_block-long : (key kept : List ℕ) → 64 < length key → kept ≡ sha256 key → length kept ≡ 32
    → kept ++ replicate 32 0 ≡ key_block key
unfolding key_block
key_block-long key kept key_long kept_is length_kept =
    let zeros_left : 32 ≡ 64 - length kept = omega arith in
    ap (λ n. kept ++ replicate n 0) zeros_left ∙ ap filled_block (kept_is ∙ cond_below 64 (length key) (sha256 key) key key_long)

-- The block of a key of at most 64 bytes is the key, followed by zeros.
pub key_block-short : (key kept zeros : List ℕ) → length key ≤ 64 → kept ≡ key → zeros ≡ replicate 64 0
    → kept ++ drop (length key) zeros ≡ key_block key
unfolding key_block
key_block-short key kept zeros key_short kept_is zeros_are =
    let zeros_left : drop (length key) zeros ≡ replicate (64 - length kept) 0 =
    ap (drop (length key)) zeros_are ∙ drop-replicate (length key) 64 0 ∙ ap (λ (k : List ℕ). replicate (64 - length k) 0) (sym kept_is) in
    ap (λ (x : List ℕ). kept ++ x) zeros_left ∙ ap filled_block (cond_above 64 (length key) (sha256 key) key kept key_short kept_is)

-- A key's block XOR 64 times the pad byte is the padded key.
pub padded_key-from_xor : (key block padded : List ℕ) (pad : ℕ) → block ≡ key_block key
    → padded ≡ xor_lists block (replicate 64 pad) → padded ≡ padded_key key pad
unfolding padded_key
padded_key-from_xor key block padded pad block_is padded_is = padded_is ∙ ap (λ (b : List ℕ). xor_lists b (replicate 64 pad)) block_is

-- A list that has the XOR of two bytes at each place is the XOR of the two lists.
pub xor_lists-from_places : (sum xs ys : List ℕ) → length sum ≡ length xs → length xs ≡ length ys
    → ((k : ℕ) → k < length xs → get_or sum k 0 ≡ bit_xor (get_or xs k 0) (get_or ys k 0)) → sum ≡ xor_lists xs ys
unfolding xor_lists
xor_lists-from_places sum xs ys length_sum same_length xor_at =
    same_number_lists sum (xor_lists xs ys) (length_sum ∙ sym (length-zip2 bit_xor xs ys same_length))
    (λ k inside. xor_at k (omega arith) ∙ sym (get_or-zip2 bit_xor xs ys k 0 0 0 (omega arith) (omega arith)))
