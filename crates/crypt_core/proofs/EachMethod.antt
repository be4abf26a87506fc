-- Facts that hold for every method, for `Setting::text`, `salt_of` and `append_packed`. If a boolean test computes to
-- true on the list of methods, `each_method` shows that every method passes it.
use Rattle.std.proofs.Common.{◌≡◌, Bool, true, eqb, length, refl}
use Rattle.std.specs.List.{list_all}
use Rattle.std.proofs.lemmas.Bool.{and_parts, eqb-true}
use Rattle.crypt_core.specs.declared.method.Method.{Method}
use Rattle.crypt_core.specs.declared.method.Method.TheVariants.{Md5crypt, Sha256crypt, Sha512crypt, Scrypt}
use Rattle.crypt_core.specs.MethodLimits.{prefix, salt_limit, shacrypt_salt_limit}
use Rattle.crypt_core.specs.Methods.{methods}
use Rattle.crypt_core.specs.Schemes.{sha_method}
use Rattle.crypt_core.specs.declared.scheme.Sha.{Sha}
use Rattle.crypt_core.specs.declared.scheme.Sha.TheVariants.{Sha256, Sha512}

-- A test that a computation shows to be true for the list of all methods is true for each method.
pub each_method : (test : Method → Bool) → list_all test methods ≡ true → (m : Method) → test m ≡ true
each_method test all Md5crypt = (and_parts (test Md5crypt) _ all).0
each_method test all Sha256crypt = (and_parts (test Sha256crypt) _ (and_parts (test Md5crypt) _ all).1).0
each_method test all Sha512crypt = (and_parts (test Sha512crypt) _ (and_parts (test Sha256crypt) _ (and_parts (test Md5crypt) _ all).1).1).0
each_method test all Scrypt = (and_parts (test Scrypt) _ (and_parts (test Sha512crypt) _ (and_parts (test Sha256crypt) _ (and_parts (test Md5crypt) _ all).1).1).1).0

-- Every prefix has three characters.
pub length-prefix : (m : Method) → length (prefix m) ≡ 3
length-prefix m = eqb-true _ _ (each_method (λ n. eqb (length (prefix n)) 3) refl m)

-- SHA-crypt keeps the same number of bytes of salt with either digest function.
pub salt_limit-sha_method : (sha : Sha) → salt_limit (sha_method sha) ≡ shacrypt_salt_limit
salt_limit-sha_method Sha256 = refl
salt_limit-sha_method Sha512 = refl
