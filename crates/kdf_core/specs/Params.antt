-- The parameters of scrypt (RFC 7914, section 2), and which of them mkpasswd accepts.
use Rattle.std.specs.Prelude.{ℕ, ◌<◌, ◌≤◌, ◌*◌, ◌^◌}

-- The parameters of scrypt: the CPU/memory cost N = 2 ^ log_n, the block size r, and the parallelization p.
pub record ScryptParams : Type 0 where
  pub log_n : ℕ
  pub r : ℕ
  pub p : ℕ

-- scrypt_params log_n r p: the three numbers as one record.
abbrev pub scrypt_params : ℕ → ℕ → ℕ → ScryptParams
scrypt_params log_n r p = record { log_n = log_n; r = r; p = p }

-- row_count params: N, which is the number of rows of scrypt's table.
abbrev pub row_count : ScryptParams → ℕ
row_count params = 2 ^ params.log_n

-- IsInRange params: log2 N is at least 1 and below 16r, and neither r nor p is 0 (RFC 7914, section 2). That section's
-- bound on p follows from the ceiling.
abbrev pub IsInRange : ScryptParams → Type 0
IsInRange params = (0 < params.log_n) × (params.log_n < 16 * params.r) × (0 < params.r) × (0 < params.p)

-- product params: N * r * p. scrypt's time grows with this product, and its memory is bounded by it.
abbrev pub product : ScryptParams → ℕ
product params = row_count params * params.r * params.p

-- IsWithinCeiling params: the product N * r * p is at most the ceiling, 2 ^ 23.
abbrev pub IsWithinCeiling : ScryptParams → Type 0
IsWithinCeiling params = product params ≤ 8388608

-- IsAccepted params: the numbers are in range and within the ceiling, so scrypt runs with them.
abbrev pub IsAccepted : ScryptParams → Type 0
IsAccepted params = IsInRange params × IsWithinCeiling params

-- IsBounded params: the parameters are accepted. The other fields are bounds that follow, on log2 N, on N, on r, and on
-- products of two of the numbers.
pub record IsBounded (params : ScryptParams) : Type 0 where
  pub accepted : IsAccepted params
  pub log : params.log_n ≤ 22
  pub two_rows : 2 ≤ row_count params
  pub table : row_count params * params.r ≤ 2 ^ 23
  pub parts : params.r * params.p ≤ 2 ^ 22
  pub blocks : params.r ≤ 2 ^ 22
  pub mixes : row_count params * params.p ≤ 2 ^ 23
