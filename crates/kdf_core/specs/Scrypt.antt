-- scrypt (RFC 7914, sections 5 and 6).
use Rattle.std.specs.Prelude.{ℕ, ◌-◌, ◌*◌, ◌%◌, List, length, drop}
use Rattle.std.specs.Fn.{iterate}
use Rattle.std.specs.List.{flat_map}
use Rattle.prims_core.specs.BlockMix.{block_mix}
use Rattle.prims_core.specs.Words.{words_of, bytes_of_words, little_number, xor_lists, chunks_exact}
use Rattle.kdf_core.specs.Params.{ScryptParams, row_count}
use Rattle.kdf_core.specs.Pbkdf2.{pbkdf2_sha256}

-- integerify words: Integerify (X), the last 64-byte block of X, which is sixteen words, as a little-endian number
-- (section 5).
unfoldable pub integerify : List ℕ → ℕ
integerify words = little_number 64 (bytes_of_words (drop (length words - 16) words))

-- mixed_back n start words: BlockMix (X xor V[j]), one step of ROMix's second loop (section 5, step 3). X is `words`, j
-- is Integerify (X) mod N, N is n, and V[j] is B after j mixings (step 2), where B is `start`.
unfoldable pub mixed_back : ℕ → List ℕ → List ℕ → List ℕ
mixed_back n start words = block_mix (xor_lists words (iterate block_mix (integerify words % n) start))

-- romix n start: ROMix (B) with N rows, where B is `start` and N is n: N steps of the second loop, starting with B
-- after N mixings (section 5).
unfoldable pub romix : ℕ → List ℕ → List ℕ
romix n start = iterate (mixed_back n start) n (iterate block_mix n start)

-- part_bytes params: the number of bytes of a part B[i], which is 2r blocks of 64 bytes.
abbrev pub part_bytes : ScryptParams → ℕ
part_bytes params = 128 * params.r

-- parts_bytes params: the number of bytes of all p parts.
abbrev pub parts_bytes : ScryptParams → ℕ
parts_bytes params = part_bytes params * params.p

-- mixed_part n bytes: the ROMix of a part, with n rows. The part and the result are bytes.
unfoldable pub mixed_part : ℕ → List ℕ → List ℕ
mixed_part n bytes = bytes_of_words (romix n (words_of bytes))

-- scrypt password salt params count: scrypt (P, S, N, r, p, dkLen) with dkLen = count (section 6). B is PBKDF2 (P, S,
-- 1, 128rp) (step 1), ROMix replaces each of its p parts (step 2), and the result is PBKDF2 (P, B, 1, dkLen) (step 3).
unfoldable pub scrypt : List ℕ → List ℕ → ScryptParams → ℕ → List ℕ
scrypt password salt params count =
    let derived = pbkdf2_sha256 password salt 1 (parts_bytes params) in
    pbkdf2_sha256 password (flat_map (mixed_part (row_count params)) (chunks_exact derived (part_bytes params))) 1 count
