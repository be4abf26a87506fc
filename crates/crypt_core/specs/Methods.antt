-- The methods of crypt(5), and one table of what crypt(5) fixes for each.
use Rattle.std.specs.Prelude.{ℕ, ◌==◌, ◌||◌, List, [], ◌∷◌, Option, codes, find}
use Rattle.std.specs.Str.{bytes_eq}
use Rattle.crypt_core.specs.declared.method.Method.{Method}
use Rattle.crypt_core.specs.declared.method.Method.TheVariants.{Md5crypt, Sha256crypt, Sha512crypt, Scrypt}

-- What crypt(5) fixes for a method:
--   name, alias        the names of the method; a method without an alias has its name twice
--   number, prefix     the number in the prefix, and the prefix with which every setting of the method begins
--   salt_limit         the most bytes of salt that the method keeps
--   made_salt_length   the number of characters of a generated salt
--   digest_len         the number of bytes of the method's digest
pub record MethodRow : Type 0 where
  pub name : List ℕ
  pub alias : List ℕ
  pub number : ℕ
  pub prefix : List ℕ
  pub salt_limit : ℕ
  pub made_salt_length : ℕ
  pub digest_len : ℕ

-- method_row method: the method's row of the table. A generated salt has as many characters as the method keeps, except
-- that scrypt's has 22, which is 132 bits.
abbrev pub method_row : Method → MethodRow
method_row Md5crypt = record { name = codes "md5crypt"; alias = codes "md5"; number = 1; prefix = codes "$1$"; salt_limit = 8; made_salt_length = 8; digest_len = 16 }
method_row Sha256crypt = record { name = codes "sha256crypt"; alias = codes "sha-256"; number = 5; prefix = codes "$5$"; salt_limit = 16; made_salt_length = 16; digest_len = 32 }
method_row Sha512crypt = record { name = codes "sha512crypt"; alias = codes "sha-512"; number = 6; prefix = codes "$6$"; salt_limit = 16; made_salt_length = 16; digest_len = 64 }
method_row Scrypt = record { name = codes "scrypt"; alias = codes "scrypt"; number = 7; prefix = codes "$7$"; salt_limit = 86; made_salt_length = 22; digest_len = 32 }

-- All methods, in the order in which `mkpasswd -m help` lists them.
abbrev pub methods : List Method
methods = Md5crypt ∷ Sha256crypt ∷ Sha512crypt ∷ Scrypt ∷ []

-- method_named word: the method whose name or alias is `word`, or none.
abbrev pub method_named : List ℕ → Option Method
method_named word = find (λ m. bytes_eq word (method_row m).name || bytes_eq word (method_row m).alias) methods

-- method_numbered number: the method with this number, or none.
abbrev pub method_numbered : ℕ → Option Method
method_numbered number = find (λ m. number == (method_row m).number) methods
