-- FreeBSD's md5crypt, whose settings begin with `$1$`.
use Rattle.std.specs.Prelude.{ℕ, List, [], ◌∷◌, ◌++◌, length, take}
use Rattle.prims_core.specs.Digests.{md5}
use Rattle.crypt_core.specs.Cycle.{cycle, digit_pieces}
use Rattle.crypt_core.specs.Methods.{method_row}
use Rattle.crypt_core.specs.RoundMessage.{alternate_message, digest_after}
use Rattle.crypt_core.specs.declared.method.Method.TheVariants as methods

-- opening_message password salt: the message whose digest the first round starts from. It ends with a byte for each
-- binary digit of the password's length, lowest first: a zero byte for a 1, and the password's first byte for a 0.
abbrev pub opening_message : List ℕ → List ℕ → List ℕ
opening_message password salt =
    password ++ (method_row methods.Md5crypt).prefix ++ salt
    ++ cycle (md5 (alternate_message password salt)) (length password)
    ++ digit_pieces (0 ∷ []) (take 1 password) (length password)

-- md5crypt_opening password salt: the digest that the first round starts from.
abbrev pub md5crypt_opening : List ℕ → List ℕ → List ℕ
md5crypt_opening password salt = md5 (opening_message password salt)

-- md5crypt_digest password salt: the digest after 1000 rounds.
unfoldable pub md5crypt_digest : List ℕ → List ℕ → List ℕ
md5crypt_digest password salt = digest_after md5 (md5crypt_opening password salt) password salt 1000
