-- Names for single columns of the table of methods, and for single numbers in it.
use Rattle.std.specs.Prelude.{ℕ, List}
use Rattle.crypt_core.specs.declared.method.Method.{Method}
use Rattle.crypt_core.specs.declared.method.Method.TheVariants.{Md5crypt, Sha256crypt, Sha512crypt, Scrypt}
use Rattle.crypt_core.specs.Methods.{method_row}

-- The most bytes of salt that md5crypt keeps.
abbrev pub md5crypt_salt_limit : ℕ
md5crypt_salt_limit = (method_row Md5crypt).salt_limit

-- The most bytes of salt that SHA-crypt keeps, with either digest.
abbrev pub shacrypt_salt_limit : ℕ
shacrypt_salt_limit = (method_row Sha512crypt).salt_limit

-- The most bytes of salt that scrypt keeps. No method keeps more.
abbrev pub scrypt_salt_limit : ℕ
scrypt_salt_limit = (method_row Scrypt).salt_limit

-- The most characters of a generated salt. scrypt's generated salts have this many.
abbrev pub made_salt_limit : ℕ
made_salt_limit = (method_row Scrypt).made_salt_length

-- prefix method: the characters with which every setting of the method begins.
abbrev pub prefix : Method → List ℕ
prefix method = (method_row method).prefix

-- salt_limit method: the most bytes of salt that the method keeps.
abbrev pub salt_limit : Method → ℕ
salt_limit method = (method_row method).salt_limit

-- made_salt_length method: the number of characters of a salt that is generated for the method.
abbrev pub made_salt_length : Method → ℕ
made_salt_length method = (method_row method).made_salt_length

-- digest_len method: the number of bytes of the method's digest.
abbrev pub digest_len : Method → ℕ
digest_len method = (method_row method).digest_len

-- packed_len method: the number of characters of the method's packed digest.
abbrev pub packed_len : Method → ℕ
packed_len Md5crypt = 22
packed_len Sha256crypt = 43
packed_len Sha512crypt = 86
packed_len Scrypt = 43
