-- Schemes: a method with its rounds, or scrypt with its parameters. The N of scrypt's parameters, `row_count`, can be
-- imported from here too.
pub use Rattle.kdf_core.specs.Params.{row_count}
use Rattle.kdf_core.specs.Params.{IsAccepted}
use Rattle.crypt_core.specs.Rounds.{IsRounds}
use Rattle.crypt_core.specs.declared.method.Method.{Method}
use Rattle.crypt_core.specs.declared.method.Method.TheVariants as methods
use Rattle.crypt_core.specs.declared.scheme.Scheme.{Scheme}
use Rattle.crypt_core.specs.declared.scheme.Scheme.TheVariants.{Md5crypt, Shacrypt, Scrypt}
use Rattle.crypt_core.specs.declared.scheme.Sha.{Sha}
use Rattle.crypt_core.specs.declared.scheme.Sha.TheVariants.{Sha256, Sha512}

-- sha_method sha: the method that is SHA-crypt over this digest function.
abbrev pub sha_method : Sha → Method
sha_method Sha256 = methods.Sha256crypt
sha_method Sha512 = methods.Sha512crypt

-- method_of scheme: the scheme's method.
abbrev pub method_of : Scheme → Method
method_of Md5crypt = methods.Md5crypt
method_of (Shacrypt sha rounds) = sha_method sha
method_of (Scrypt params) = methods.Scrypt

-- IsScheme scheme: some setting has this scheme: SHA-crypt's rounds are in range, and scrypt's parameters are accepted.
abbrev pub IsScheme : Scheme → Type 0
IsScheme Md5crypt = Unit {0}
IsScheme (Shacrypt sha rounds) = IsRounds rounds
IsScheme (Scrypt params) = IsAccepted params
