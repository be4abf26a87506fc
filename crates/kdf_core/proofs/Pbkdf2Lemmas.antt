-- PBKDF2 step by step, for `derived_block` and `pbkdf2`: the tags U_j and their XOR round by round, and the derived
-- bytes block by block. `block-add_one` splits the last round off T_i. `take-blocks_add_one` splits the last block off
-- the derived bytes; that block may be short. `pbkdf2_sha256-from_blocks` is the clause of `pbkdf2` at the end of its
-- loop.
use Rattle.std.proofs.Common.{◌≡◌, ℕ, zero, suc, ◌+◌, ◌-◌, ◌*◌, ◌<◌, ◌≤◌, List, [], ◌∷◌, ◌++◌, length, map, take, refl, sym, ap, ◌∙◌, arith}
use Rattle.std.specs.Prelude.{fold}
use Rattle.std.specs.List.{flat_map, range_with_len}
use Rattle.std.proofs.lemmas.List.FromFn.{map-range_with_len_more}
use Rattle.std.proofs.Math.Seq.{take-append-add}
use Rattle.std.proofs.lemmas.Grind.{div_ceil_times, flat_map-append}
use Rattle.std.proofs.lemmas.List.{append-nil, length-take, take_all}
use Rattle.std.proofs.lemmas.List.Sums.{fold-append}
use Rattle.prims_core.specs.Words.{big_bytes, xor_lists}
use Rattle.kdf_core.specs.Hmac.{hmac_sha256}
use Rattle.kdf_core.specs.Pbkdf2.{chain, block, pbkdf2_sha256}
use Rattle.std.specs.Int.{div_ceil}

-- U_1 is the tag of the salt and the block's number.
pub chain-one : (password salt : List ℕ) (i : ℕ) → chain password salt i 1 ≡ hmac_sha256 password (salt ++ big_bytes 4 i)
unfolding chain
chain-one password salt i = refl

-- U_(j+1) is the tag of U_j. The code passes an empty second piece after U_j.
pub chain-add_one : (password salt : List ℕ) (i j : ℕ)
    → chain password salt i (j + 1) ≡ hmac_sha256 password (chain password salt i j ++ [])
unfolding chain
chain-add_one password salt i j =
    let next : j + 1 ≡ suc j = omega arith in
    rw (next, append-nil) refl

-- T_i with one round is U_1, and each further round XORs its tag into T_i.
pub block-one : (password salt : List ℕ) (i : ℕ) → block password salt 1 i ≡ chain password salt i 1
unfolding block
block-one password salt i = refl

pub block-add_one : (password salt : List ℕ) (i rounds : ℕ) → 1 ≤ rounds
    → block password salt (rounds + 1) i
    ≡ xor_lists (block password salt rounds i) (chain password salt i (rounds + 1))
unfolding block
block-add_one password salt i rounds one_round =
    let u : ℕ → List ℕ = chain password salt i in
    let count_is : rounds + 1 - 1 ≡ rounds - 1 + 1 = omega arith in
    let tags_split : map u (range_with_len 2 (rounds - 1 + 1)) ≡ map u (range_with_len 2 (rounds - 1)) ++ u (rounds + 1) ∷ [] =
    map-range_with_len_more u 2 (rounds - 1) (rounds + 1) (omega arith) in
    ap (λ n. fold xor_lists (u 1) (map u (range_with_len 2 n))) count_is
    ∙ (ap (fold xor_lists (u 1)) tags_split ∙ fold-append xor_lists (u 1) (map u (range_with_len 2 (rounds - 1))) (u (rounds + 1) ∷ []))

-- A range that is one longer has one more number at its end.
pub range_with_len-add_one : (a n : ℕ) → range_with_len a (n + 1) ≡ range_with_len a n ++ (a + n) ∷ []
range_with_len-add_one a zero = ap (λ (k : ℕ). k ∷ []) (omega arith)
range_with_len-add_one a (suc n) =
    let next : suc n + 1 ≡ suc (n + 1) = omega arith in
    let last : a + 1 + n ≡ a + suc n = omega arith in
    ap (range_with_len a) next ∙ ap (λ (ks : List ℕ). a ∷ ks) (range_with_len-add_one (a + 1) n ∙ ap (λ (k : ℕ). range_with_len (a + 1) n ++ k ∷ []) last)

-- One iteration of the loop of `pbkdf2`. If `out` begins with i blocks, and the next block, or as much of it as fits,
-- is written after them, then `out` begins with i + 1 blocks.
pub take-blocks_add_one : (block : ℕ → List ℕ) (old new part : List ℕ) (room i : ℕ) → 32 * i < room → length old ≡ room
    → take (32 * i) old ≡ take room (flat_map block (range_with_len 1 i)) → part ≡ block (i + 1)
    → take (32 * i + 32) new ≡ take (32 * i) old ++ take (room - 32 * i) part
    → take (32 * (i + 1)) new ≡ take room (flat_map block (range_with_len 1 (i + 1)))
take-blocks_add_one block old new part room i inside length_old front part_is new_is =
    let blocks = flat_map block (range_with_len 1 i) in
    let rest = room - 32 * i in
    -- The first i blocks all fit into `out`, so none of them is cut.
    let length_blocks : length blocks ≡ 32 * i =
    omega (arith, ap length front, length-take (32 * i) old, length-take room blocks) in
    let front_is : take (32 * i) old ≡ blocks = front ∙ take_all room blocks (omega arith) in
    let next_end : 32 * (i + 1) ≡ 32 * i + 32 = omega arith in
    let room_split : length blocks + rest ≡ room = omega arith in
    let next_number : 1 + i ≡ i + 1 = omega arith in
    let blocks_split : flat_map block (range_with_len 1 (i + 1)) ≡ blocks ++ block (i + 1) =
    ap (flat_map block) (range_with_len-add_one 1 i) ∙ (flat_map-append block (range_with_len 1 i) ((1 + i) ∷ [])
    ∙ (ap (λ k. blocks ++ (block k ++ [])) next_number ∙ ap (λ (b : List ℕ). blocks ++ b) (append-nil (block (i + 1))))) in
    -- The first bytes of i + 1 blocks, as many as `out` has, are the first i blocks and as much of the next one as
    -- fits.
    let wanted_split : take room (flat_map block (range_with_len 1 (i + 1))) ≡ blocks ++ take rest (block (i + 1)) =
    ap (take room) blocks_split ∙ (ap (λ k. take k (blocks ++ block (i + 1))) (sym room_split) ∙ take-append-add blocks (block (i + 1)) rest) in
    ap (λ k. take k new) next_end ∙ (new_is ∙ (ap (λ (b : List ℕ). b ++ take rest part) front_is
    ∙ (ap (λ (b : List ℕ). blocks ++ take rest b) part_is ∙ sym wanted_split)))

-- When all blocks are written, `out` holds the derived bytes.
pub pbkdf2_sha256-from_blocks : (password salt out : List ℕ) (rounds room i : ℕ) → length out ≡ room → i ≡ div_ceil room 32
    → take (32 * i) out ≡ take room (flat_map (block password salt rounds) (range_with_len 1 i))
    → out ≡ pbkdf2_sha256 password salt rounds room
unfolding pbkdf2_sha256
pbkdf2_sha256-from_blocks password salt out rounds room i length_out i_is front =
    let within : length out ≤ 32 * i = omega (arith, (div_ceil_times room 32 (omega arith)).0) in
    sym (take_all (32 * i) out within) ∙ (front
    ∙ ap (λ n. take room (flat_map (block password salt rounds) (range_with_len 1 n))) i_is)
