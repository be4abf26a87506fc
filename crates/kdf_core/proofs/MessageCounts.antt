-- How many messages HMAC, PBKDF2 and scrypt digest, and how many bytes these have in all. This proves the clause
-- `specified` of `scrypt` and `scrypt_lent`, which says that the closed form of the work counts the messages of the
-- standard. The lemmas add up the messages of the key, of the tags of a block, of the blocks of a derivation, and of
-- both derivations. For that they need the lengths of digests, padded keys and derived bytes.
use Rattle.std.proofs.Common.{◌≡◌, ℕ, zero, suc, true, false, ◌+◌, ◌-◌, ◌*◌, ◌≤◌, List, [], ◌∷◌, ◌++◌, length, replicate, nat_lt, if◌then◌else◌, inl, inr, arith, refl, ap, ◌∙◌}
use Rattle.std.specs.Int.{div_ceil}
use Rattle.std.specs.List.{flat_map, range_with_len}
use Rattle.std.proofs.lemmas.Bool.{cases_lt, cond_below, cond_above}
use Rattle.std.proofs.lemmas.Grind.{div_ceil_times}
use Rattle.std.proofs.lemmas.List.{length-append, length-replicate, length-take-le}
use Rattle.std.proofs.lemmas.List.FromFn.{length-range_with_len}
use Rattle.std.proofs.lemmas.List.Sums.{sum_by-append}
use Rattle.std.proofs.lemmas.Simd.{length-zip2}
use Rattle.prims_core.specs.Digests.{sha256}
use Rattle.prims_core.specs.Meter.{HaveCountAndSum}
use Rattle.prims_core.specs.Words.{big_bytes, xor_lists}
use Rattle.prims_core.specs.contracts.counted.counted_sha256.CountedSha256Counted.TheImpl.Laws as sha256_laws
use Rattle.kdf_core.specs.Hmac.{hmac_sha256, key_block, padded_key, key_digests, tag_bytes}
use Rattle.kdf_core.specs.HmacMessages.{key_messages, tag_messages, key_bytes}
use Rattle.kdf_core.specs.Params.{ScryptParams, row_count}
use Rattle.kdf_core.specs.Pbkdf2.{chain, block, pbkdf2_sha256}
use Rattle.kdf_core.specs.Pbkdf2Messages.{block_messages, pbkdf2_messages, block_bytes, pbkdf2_digests, pbkdf2_bytes}
use Rattle.kdf_core.specs.Scrypt.{part_bytes, parts_bytes}
use Rattle.kdf_core.specs.ScryptMessages.{mixed_parts, scrypt_messages}
use Rattle.kdf_core.specs.ScryptWork.{scrypt_work}
use Rattle.kdf_core.proofs.MixedLengths.{length-flat_map_same, length-mixed_parts}
use Rattle.kdf_core.proofs.Pbkdf2Lemmas.{block-one}
use Rattle.kdf_core.proofs.ScryptResult.{scrypt_work-digests, scrypt_work-bytes}

-- For two lists of messages, joined, the numbers of messages and of bytes are added.
HaveCountAndSum-append : (xs ys : List (List ℕ)) (d b e c : ℕ) → HaveCountAndSum xs d b → HaveCountAndSum ys e c → HaveCountAndSum (xs ++ ys) (d + e) (b + c)
HaveCountAndSum-append xs ys d b e c xs_counts ys_counts = record {
  count = length-append xs ys ∙ omega (arith, xs_counts.count, ys_counts.count);
  sum = sum_by-append length xs ys ∙ omega (arith, xs_counts.sum, ys_counts.sum);
}

-- If `messages` gives d messages of b bytes in all for each number, it gives `count * d` messages of `count * b` bytes
-- in all for `count` numbers.
HaveCountAndSum-flat_map : (messages : ℕ → List (List ℕ)) (d b from count : ℕ) → ((k : ℕ) → from ≤ k → HaveCountAndSum (messages k) d b)
    → HaveCountAndSum (flat_map messages (range_with_len from count)) (count * d) (count * b)
HaveCountAndSum-flat_map messages d b from zero each_counts = record { count = omega arith; sum = omega arith }
HaveCountAndSum-flat_map messages d b from (suc count) each_counts =
    let rest_counts = HaveCountAndSum-flat_map messages d b (from + 1) count (λ k above. each_counts k (omega arith)) in
    let all_counts = HaveCountAndSum-append (messages from) (flat_map messages (range_with_len (from + 1) count)) d b (count * d) (count * b)
    (each_counts from (omega arith)) rest_counts in
    record { count = all_counts.count ∙ omega arith; sum = all_counts.sum ∙ omega arith }

-- A digest has 32 bytes.
length-sha256 : (message : List ℕ) → length (sha256 message) ≡ 32
length-sha256 message = sha256_laws.length_digest-law message

-- A key of at most 64 bytes, and the digest of a longer key, have at most 64 bytes.
length-kept_key_le : (key : List ℕ) → length (if nat_lt 64 (length key) then sha256 key else key) ≤ 64
length-kept_key_le key = elim (cases_lt 64 (length key)) [
  | inl long ↦ omega (arith, ap length (cond_below 64 (length key) (sha256 key) key long), length-sha256 key)
  | inr short ↦ omega (arith, ap length (cond_above 64 (length key) (sha256 key) key key short refl))
]

-- A padded key has exactly 64 bytes.
length-padded_key : (key : List ℕ) (pad : ℕ) → length (padded_key key pad) ≡ 64
unfolding padded_key key_block xor_lists
length-padded_key key pad =
    let kept = if nat_lt 64 (length key) then sha256 key else key in
    let length_block : length (kept ++ replicate (64 - length kept) 0) ≡ 64 =
    length-append kept (replicate (64 - length kept) 0) ∙ omega (arith, length-kept_key_le key, length-replicate {A = ℕ} (64 - length kept) 0) in
    length-zip2 _ (kept ++ replicate (64 - length kept) 0) (replicate 64 pad) length_block ∙ length_block

-- Preparing a key digests one message if the key is longer than a block, and otherwise none.
HaveCountAndSum-key_messages : (key : List ℕ) → HaveCountAndSum (key_messages key) (key_digests (length key)) (key_bytes (length key))
HaveCountAndSum-key_messages key =
    elim (nat_lt 64 (length key))
    as (λ long. HaveCountAndSum (if long then key ∷ [] else []) (if long then 1 else 0) ((if long then 1 else 0) * length key)) [
      | true ↦ record { count = refl; sum = omega arith }
      | false ↦ record { count = refl; sum = omega arith }
    ]

-- A tag takes two messages, of `tag_bytes` bytes in all.
HaveCountAndSum-tag_messages : (key text : List ℕ) → HaveCountAndSum (tag_messages key text) 2 (tag_bytes (length text))
HaveCountAndSum-tag_messages key text =
    let inner = padded_key key 0x36 ++ text in
    record {
      count = refl;
      sum = omega (
        arith,
        length-append (padded_key key 0x36) text,
        length-append (padded_key key 0x5c) (sha256 inner),
        length-padded_key key 0x36,
        length-padded_key key 0x5c,
        length-sha256 inner,
      );
    }

-- The text of a block's first tag, U_1, is the salt and the block's number. The text of each later tag is the tag
-- before it, which has 32 bytes.
length-chain_zero : (password salt : List ℕ) (i : ℕ) → length (chain password salt i 0) ≡ length salt + 4
unfolding chain
length-chain_zero password salt i = length-append salt (big_bytes 4 i)

length-chain : (password salt : List ℕ) (i j : ℕ) → 1 ≤ j → length (chain password salt i j) ≡ 32
unfolding chain hmac_sha256
length-chain password salt i zero some = absurd (omega arith)
length-chain password salt i (suc j) some = length-sha256 _

-- A block's messages are those of its first tag and those of its later tags, which all have the same number of bytes.
HaveCountAndSum-block_messages : (password salt : List ℕ) (rounds i : ℕ) → 1 ≤ rounds
    → HaveCountAndSum (block_messages password salt rounds i) (2 * rounds) (block_bytes (length salt) rounds)
unfolding block_messages
HaveCountAndSum-block_messages password salt zero i one_round = absurd (omega arith)
HaveCountAndSum-block_messages password salt (suc more) i one_round =
    let u = chain password salt i in
    let messages = λ (j : ℕ). tag_messages password (u j) in
    -- The text of each tag but the first is the tag before it, which has 32 bytes.
    let tag_counts : (j : ℕ) → 1 ≤ j → HaveCountAndSum (messages j) 2 (tag_bytes 32) =
    λ j above. record {
      count = (HaveCountAndSum-tag_messages password (u j)).count;
      sum = (HaveCountAndSum-tag_messages password (u j)).sum ∙ ap tag_bytes (length-chain password salt i j above);
    } in
    let rest_counts = HaveCountAndSum-flat_map messages 2 (tag_bytes 32) 1 more tag_counts in
    let all_counts = HaveCountAndSum-append (messages 0) (flat_map messages (range_with_len 1 more)) 2 (tag_bytes (length (u 0))) (more * 2) (more * tag_bytes 32)
    (HaveCountAndSum-tag_messages password (u 0)) rest_counts in
    record {
      count = all_counts.count ∙ omega arith;
      sum = all_counts.sum ∙ omega (arith, length-chain_zero password salt i);
    }

-- The messages of PBKDF2 have the number and the bytes of the closed forms, since each block has as many as any other.
HaveCountAndSum-pbkdf2_messages : (password salt : List ℕ) (rounds count : ℕ) → 1 ≤ rounds
    → HaveCountAndSum (pbkdf2_messages password salt rounds count) (pbkdf2_digests rounds count) (pbkdf2_bytes (length salt) rounds count)
unfolding pbkdf2_messages
HaveCountAndSum-pbkdf2_messages password salt rounds count one_round =
    let blocks = div_ceil count 32 in
    let all_counts = HaveCountAndSum-flat_map (block_messages password salt rounds) (2 * rounds) (block_bytes (length salt) rounds) 1 blocks
    (λ i above. HaveCountAndSum-block_messages password salt rounds i one_round) in
    record { count = all_counts.count ∙ omega arith; sum = all_counts.sum }

-- PBKDF2 with one round derives as many bytes as are asked for.
length-pbkdf2_sha256 : (password salt : List ℕ) (count : ℕ) → length (pbkdf2_sha256 password salt 1 count) ≡ count
unfolding pbkdf2_sha256
length-pbkdf2_sha256 password salt count =
    let blocks = div_ceil count 32 in
    let derived = flat_map (block password salt 1) (range_with_len 1 blocks) in
    -- Each block T_1, T_2, .. has 32 bytes.
    let length_derived : length derived ≡ blocks * 32 =
    length-flat_map_same (block password salt 1) 32 (range_with_len 1 blocks)
    (λ k d inside. ap length (block-one password salt _) ∙ length-chain password salt _ 1 (omega arith))
    ∙ ap (λ n. n * 32) (length-range_with_len 1 blocks) in
    length-take-le count derived (omega (arith, length_derived, (div_ceil_times count 32 (omega arith)).0))

-- The messages of scrypt have the number and the bytes of `scrypt_work`. They are those of the password as a key, those
-- of the derivation of the parts, and those of the derivation of the result, whose salt is all parts.
pub HaveCountAndSum-scrypt_messages : (password salt : List ℕ) (params : ScryptParams) (count : ℕ)
    → HaveCountAndSum (scrypt_messages password salt params count) (scrypt_work params (length password) (length salt) count).digests
    (scrypt_work params (length password) (length salt) count).bytes
unfolding scrypt_messages
HaveCountAndSum-scrypt_messages password salt params count =
    let size = parts_bytes params in
    let derived = pbkdf2_sha256 password salt 1 size in
    let mixed = mixed_parts (row_count params) (part_bytes params) derived in
    -- The bytes that PBKDF2 derives, and those after ROMix, are as many as all parts have.
    let derived_length : length derived ≡ size = length-pbkdf2_sha256 password salt size in
    let mixed_length : length mixed ≡ size =
    length-mixed_parts (row_count params) (part_bytes params) params.r params.p derived (omega arith) derived_length ∙ derived_length in
    let key_counts = HaveCountAndSum-key_messages password in
    let first_counts = HaveCountAndSum-pbkdf2_messages password salt 1 size (omega arith) in
    let last_counts = HaveCountAndSum-pbkdf2_messages password mixed 1 count (omega arith) in
    -- The counts of the three lists of messages are added up.
    let all_counts = HaveCountAndSum-append (key_messages password ++ pbkdf2_messages password salt 1 size) (pbkdf2_messages password mixed 1 count) _ _ _ _
    (HaveCountAndSum-append (key_messages password) (pbkdf2_messages password salt 1 size) _ _ _ _ key_counts first_counts) last_counts in
    record {
      count = all_counts.count ∙ scrypt_work-digests params (length password) (length salt) count size refl;
      sum = all_counts.sum ∙ scrypt_work-bytes params (length password) (length salt) count size (length mixed) refl mixed_length;
    }
