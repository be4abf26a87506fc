-- The work of a hash, as a meter counts it: the digested messages, and for scrypt also the mixings and the memory. It
-- is a closed form of the lengths of the password and the salt, and for SHA-crypt also of one byte of a digest.
use Rattle.std.specs.Prelude.{ℕ, ◌+◌, ◌-◌, ◌*◌, ◌^◌, List, length}
use Rattle.std.specs.Int.{div_ceil}
-- `raised_by` adds work to counts, `IsWithin` says that no count is above the same count of other work, and `IsBelow`
-- that each count is below a number.
pub use Rattle.prims_core.specs.Work.{raised_by, IsBelow, IsWithin}
use Rattle.prims_core.specs.declared.meter.Work.{Work}
use Rattle.kdf_core.specs.Scrypt.{part_bytes}
use Rattle.kdf_core.specs.ScryptWork.{scrypt_work}
use Rattle.crypt_core.specs.Cycle.{digit_bytes}
use Rattle.crypt_core.specs.Methods.{method_row}
use Rattle.crypt_core.specs.Settings.{SettingValue}
use Rattle.crypt_core.specs.Schemes.{sha_method}
use Rattle.crypt_core.specs.ShaCrypt.{digest_function, sha_opening_byte}
use Rattle.crypt_core.specs.declared.method.Method.TheVariants as methods
use Rattle.crypt_core.specs.declared.scheme.Scheme.{Scheme}
use Rattle.crypt_core.specs.declared.scheme.Scheme.TheVariants.{Md5crypt, Shacrypt, Scrypt}

-- ---- for a password and a salt of given lengths

-- rounds_bytes n digest_length password_length salt_length: the bytes of the messages of n rounds. Each message has a
-- digest and a password. Rounds 0, 3, 6, .. omit the salt, and rounds 0, 7, 14, .. omit the second password.
abbrev pub rounds_bytes : ℕ → ℕ → ℕ → ℕ → ℕ
rounds_bytes n digest_length password_length salt_length =
    n * (digest_length + password_length) + (n - div_ceil n 3) * salt_length + (n - div_ceil n 7) * password_length

-- digests_alone digests bytes: the work of a scheme that only digests. md5crypt and SHA-crypt neither mix nor allocate.
abbrev pub digests_alone : ℕ → ℕ → Work
digests_alone digests bytes = record { digests = digests; bytes = bytes; mixes = 0; table = 0; scratch = 0 }

-- md5crypt_work password_length salt_length: the work of md5crypt, which has 1,002 messages.
--   first    the password twice and the salt
--   second   as many bytes as the first, the prefix, and a byte for each binary digit of the password's length
--   rounds   1,000 messages, as `rounds_bytes` says
abbrev pub md5crypt_work : ℕ → ℕ → Work
md5crypt_work password_length salt_length = digests_alone (1000 + 2)
    (2 * (2 * password_length + salt_length) + 3 + digit_bytes 1 1 password_length
    + rounds_bytes 1000 (method_row methods.Md5crypt).digest_len password_length salt_length)

-- shacrypt_work digest_length a rounds password_length salt_length: the work of SHA-crypt, which has four messages and
-- one for each round. a is the first byte of the digest that Drepper calls A.
--   first    the password twice and the salt
--   second   as many bytes as the first, and for each binary digit of the password's length a digest (for 1) or the
--            password (for 0)
--   third    the password once for each of its bytes
--   fourth   the salt 16 + a times
abbrev pub shacrypt_work : ℕ → ℕ → ℕ → ℕ → ℕ → Work
shacrypt_work digest_length a rounds password_length salt_length = digests_alone (rounds + 4)
    (2 * (2 * password_length + salt_length) + digit_bytes digest_length password_length password_length
    + password_length * password_length + (16 + a) * salt_length + rounds_bytes rounds digest_length password_length salt_length)

-- work_by scheme a password_length salt_length: the work of a hash with a scheme. Only SHA-crypt's depends on a, the
-- first byte of the digest A.
abbrev pub work_by : Scheme → ℕ → ℕ → ℕ → Work
work_by Md5crypt a password_length salt_length = md5crypt_work password_length salt_length
work_by (Shacrypt sha rounds) a password_length salt_length =
    shacrypt_work (method_row (sha_method sha)).digest_len a rounds.count password_length salt_length
work_by (Scrypt params) a password_length salt_length = scrypt_work params password_length salt_length 32

-- ---- the work, the bound and the cost

-- first_byte_by scheme password salt: the first byte of the digest A for SHA-crypt, and 0 for the other schemes, whose
-- work does not depend on it.
abbrev pub first_byte_by : Scheme → List ℕ → List ℕ → ℕ
first_byte_by (Shacrypt sha rounds) password salt = sha_opening_byte (digest_function sha) password salt
first_byte_by scheme password salt = 0

-- work password kept: the work of hashing a password with a setting.
abbrev pub work : List ℕ → SettingValue → Work
work password kept = work_by kept.scheme (first_byte_by kept.scheme password kept.salt) (length password) (length kept.salt)

-- work_bound kept password_length: the bound on the work that is known before hashing, with the greatest byte, 255, in
-- place of the first byte of the digest A.
abbrev pub work_bound : SettingValue → ℕ → Work
work_bound kept password_length = work_by kept.scheme 255 password_length (length kept.salt)

-- cost_by scheme password_length salt_length: the bound as one number, which a budget limits. It is the greatest number
-- of digested bytes, and for scrypt also the number of mixed bytes, which is `part_bytes` for each mixing.
abbrev pub cost_by : Scheme → ℕ → ℕ → ℕ
cost_by (Scrypt params) password_length salt_length =
    let most = work_by (Scrypt params) 255 password_length salt_length in most.bytes + most.mixes * part_bytes params
cost_by scheme password_length salt_length = (work_by scheme 255 password_length salt_length).bytes

-- cost kept password_length: the cost of a hash with a setting. This is not the cost of the setting (its rounds, or
-- scrypt's N, r and p), nor the number from which `made_scheme` makes a scheme.
abbrev pub cost : SettingValue → ℕ → ℕ
cost kept password_length = cost_by kept.scheme password_length (length kept.salt)

-- A number that no count of a hash reaches, for any password and any setting.
abbrev pub work_limit : ℕ
work_limit = 2 ^ 41

-- ---- parts of the work

-- md5crypt_bytes password_length salt_length: the number of bytes of all messages of md5crypt.
abbrev pub md5crypt_bytes : ℕ → ℕ → ℕ
md5crypt_bytes password_length salt_length = (md5crypt_work password_length salt_length).bytes

-- shacrypt_bytes digest_length a rounds password_length salt_length: the number of bytes of all messages of SHA-crypt.
abbrev pub shacrypt_bytes : ℕ → ℕ → ℕ → ℕ → ℕ → ℕ
shacrypt_bytes digest_length a rounds password_length salt_length = (shacrypt_work digest_length a rounds password_length salt_length).bytes

-- The greatest value of a byte.
abbrev pub greatest_byte : ℕ
greatest_byte = 255
