-- The messages that md5crypt and SHA-crypt digest, numbered from 0: 1,002 in md5crypt, and rounds + 4 in SHA-crypt.
use Rattle.std.specs.Prelude.{◌≡◌, ℕ, zero, suc, ◌+◌, List, length, map}
use Rattle.std.specs.List.{range_with_len}
use Rattle.prims_core.specs.Digests.{md5}
use Rattle.crypt_core.specs.Cycle.{cycle}
use Rattle.crypt_core.specs.Md5crypt.{md5crypt_digest, md5crypt_opening, opening_message}
use Rattle.crypt_core.specs.RoundMessage.{alternate_message, digest_after, round_message}
use Rattle.crypt_core.specs.ShaCrypt.{password_repeated, password_string, salt_repeated, salt_string, sha_opening, sha_opening_message, shacrypt_digest}

-- ---- md5crypt

-- md5crypt_message password salt k: message number k. The message of round i has number i + 2.
unfoldable pub md5crypt_message : List ℕ → List ℕ → ℕ → List ℕ
md5crypt_message password salt zero = alternate_message password salt
md5crypt_message password salt (suc zero) = opening_message password salt
md5crypt_message password salt (suc (suc i)) =
    round_message i (digest_after md5 (md5crypt_opening password salt) password salt i) password salt

-- The number of md5crypt's rounds. Each has one message, and these follow the first two messages.
abbrev pub md5crypt_rounds : ℕ
md5crypt_rounds = 1000

-- md5crypt_messages password salt: all messages of md5crypt, in order.
unfoldable pub md5crypt_messages : List ℕ → List ℕ → List (List ℕ)
md5crypt_messages password salt = map (md5crypt_message password salt) (range_with_len 0 (md5crypt_rounds + 2))

-- AreMd5cryptMessages password salt: the definition of md5crypt's digest uses these messages: the opening is the MD5 of
-- the second one, and the digest is the MD5 of the last.
abbrev pub AreMd5cryptMessages : List ℕ → List ℕ → Type 0
AreMd5cryptMessages password salt =
    (md5crypt_opening password salt ≡ md5 (md5crypt_message password salt 1))
    × (md5crypt_digest password salt ≡ md5 (md5crypt_message password salt (md5crypt_rounds + 1)))

-- ---- SHA-crypt with the digest function h

-- sha_digest_before h password salt i: the digest before round i.
abbrev pub sha_digest_before : (List ℕ → List ℕ) → List ℕ → List ℕ → ℕ → List ℕ
sha_digest_before h password salt i =
    digest_after h (sha_opening h password salt) (password_string h password) (salt_string h password salt) i

-- sha_round_message h password salt i x: the message of round i, where x is the digest before the round.
abbrev pub sha_round_message : (List ℕ → List ℕ) → List ℕ → List ℕ → ℕ → List ℕ → List ℕ
sha_round_message h password salt i x = round_message i x (password_string h password) (salt_string h password salt)

-- shacrypt_message h password salt k: message number k. The message of round i has number i + 4.
unfoldable pub shacrypt_message : (List ℕ → List ℕ) → List ℕ → List ℕ → ℕ → List ℕ
shacrypt_message h password salt zero = alternate_message password salt
shacrypt_message h password salt (suc zero) = sha_opening_message h password salt
shacrypt_message h password salt (suc (suc zero)) = password_repeated password
shacrypt_message h password salt (suc (suc (suc zero))) = salt_repeated h password salt
shacrypt_message h password salt (suc (suc (suc (suc i)))) =
    sha_round_message h password salt i (sha_digest_before h password salt i)

-- shacrypt_messages h password salt rounds: all messages of SHA-crypt, in order.
unfoldable pub shacrypt_messages : (List ℕ → List ℕ) → List ℕ → List ℕ → ℕ → List (List ℕ)
shacrypt_messages h password salt rounds = map (shacrypt_message h password salt) (range_with_len 0 (rounds + 4))

-- AreShacryptMessages h password salt rounds: the definition of SHA-crypt's digest uses these messages: the digest A is
-- h of the second one, the strings P and S repeat h of the third and of the fourth, and the final digest is h of the
-- last.
abbrev pub AreShacryptMessages : (List ℕ → List ℕ) → List ℕ → List ℕ → ℕ → Type 0
AreShacryptMessages h password salt rounds =
    (sha_opening h password salt ≡ h (shacrypt_message h password salt 1))
    × (password_string h password ≡ cycle (h (shacrypt_message h password salt 2)) (length password))
    × (salt_string h password salt ≡ cycle (h (shacrypt_message h password salt 3)) (length salt))
    × (shacrypt_digest h password salt rounds ≡ h (shacrypt_message h password salt (rounds + 3)))
