-- Which hashes are out of date once new hashes have another scheme.
use Rattle.std.specs.Prelude.{Bool, true, false, nat_lt}
use Rattle.kdf_core.specs.Params.{product}
use Rattle.crypt_core.specs.declared.scheme.Scheme.{Scheme}
use Rattle.crypt_core.specs.declared.scheme.Scheme.TheVariants.{Md5crypt, Shacrypt, Scrypt}
use Rattle.crypt_core.specs.declared.scheme.Sha.TheVariants.{Sha256, Sha512}

-- is_outdated_by old new: whether `new` replaces `old`. Every scheme of another method does. So does SHA-crypt over the
-- same digest function with more rounds, and scrypt with a greater N * r * p. md5crypt's number of rounds is fixed.
abbrev pub is_outdated_by : Scheme → Scheme → Bool
is_outdated_by Md5crypt Md5crypt = false
is_outdated_by (Shacrypt Sha256 old) (Shacrypt Sha256 new) = nat_lt old.count new.count
is_outdated_by (Shacrypt Sha512 old) (Shacrypt Sha512 new) = nat_lt old.count new.count
is_outdated_by (Scrypt old) (Scrypt new) = nat_lt (product old) (product new)
is_outdated_by old new = true
