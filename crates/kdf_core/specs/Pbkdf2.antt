-- PBKDF2 (RFC 8018, section 5.2) over HMAC-SHA-256.
use Rattle.std.specs.Prelude.{ℕ, zero, suc, ◌-◌, List, ◌++◌, take, map, fold}
use Rattle.std.specs.List.{flat_map, range_with_len}
use Rattle.std.specs.Int.{div_ceil}
use Rattle.prims_core.specs.Words.{big_bytes, xor_lists}
use Rattle.kdf_core.specs.Hmac.{hmac_sha256, sha256_length}

-- chain password salt i j: U_j of block i, which is PRF (P, U_(j-1)). For j = 0 it is S || INT (i), so that U_1 is PRF
-- (P, S || INT (i)).
unfoldable pub chain : List ℕ → List ℕ → ℕ → ℕ → List ℕ
chain password salt i zero = salt ++ big_bytes 4 i
chain password salt i (suc j) = hmac_sha256 password (chain password salt i j)

-- block password salt rounds i: T_i = F (P, S, c, i) = U_1 XOR U_2 XOR .. XOR U_c, where c is the number of rounds
-- (step 3).
unfoldable pub block : List ℕ → List ℕ → ℕ → ℕ → List ℕ
block password salt rounds i =
    let u = chain password salt i in
    fold xor_lists (u 1) (map u (range_with_len 2 (rounds - 1)))

-- pbkdf2_sha256 password salt rounds count: the first `count` bytes of T_1 || T_2 || .. (step 4).
unfoldable pub pbkdf2_sha256 : List ℕ → List ℕ → ℕ → ℕ → List ℕ
pbkdf2_sha256 password salt rounds count =
    take count (flat_map (block password salt rounds) (range_with_len 1 (div_ceil count sha256_length)))
