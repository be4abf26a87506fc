-- The hash of a password with a setting (crypt(3)).
use Rattle.std.specs.Prelude.{ℕ, Bool, true, false, List, ◌∷◌, ◌++◌}
use Rattle.prims_core.specs.declared.meter.Work.{Work}
use Rattle.kdf_core.specs.Scrypt.{scrypt}
use Rattle.kdf_core.specs.ScryptWork.{IsAfterRefusal}
use Rattle.crypt_core.specs.Md5crypt.{md5crypt_digest}
use Rattle.crypt_core.specs.Methods.{method_row}
use Rattle.crypt_core.specs.Packing.{packed}
use Rattle.crypt_core.specs.Settings.{SettingValue, canonical_text, dollar}
use Rattle.crypt_core.specs.Schemes.{method_of}
use Rattle.crypt_core.specs.ShaCrypt.{digest_function, shacrypt_digest}
use Rattle.crypt_core.specs.declared.method.Method.TheVariants as methods
use Rattle.crypt_core.specs.declared.scheme.Scheme.{Scheme}
use Rattle.crypt_core.specs.declared.scheme.Scheme.TheVariants.{Md5crypt, Shacrypt, Scrypt}

-- digest_by scheme password salt: the digest of a password with a scheme and a salt.
abbrev pub digest_by : Scheme → List ℕ → List ℕ → List ℕ
digest_by Md5crypt password salt = md5crypt_digest password salt
digest_by (Shacrypt sha rounds) password salt = shacrypt_digest (digest_function sha) password salt rounds.count
digest_by (Scrypt params) password salt = scrypt password salt params (method_row methods.Scrypt).digest_len

-- crypt password kept: the hash of a password with a setting: the setting in canonical form, a `$`, and the packed
-- digest.
unfoldable pub crypt : List ℕ → SettingValue → List ℕ
crypt password kept =
    canonical_text kept ++ dollar ∷ packed (method_of kept.scheme) (digest_by kept.scheme password kept.salt)

-- allocates scheme: whether a hash with the scheme allocates memory. Only scrypt does.
abbrev pub allocates : Scheme → Bool
allocates (Scrypt params) = true
allocates scheme = false

-- IsAfterFailedAllocation before scheme after: the meter's counts are `before` before a hash and `after` once one of
-- scrypt's allocations in it has failed. This holds for no other scheme, since only scrypt allocates.
abbrev pub IsAfterFailedAllocation : Work → Scheme → Work → Type 0
IsAfterFailedAllocation before (Scrypt params) after = IsAfterRefusal before params after
IsAfterFailedAllocation before scheme after = ⊥
