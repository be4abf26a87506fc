-- SHA-crypt (Drepper, "Unix crypt using SHA-256 and SHA-512"). The digest function h is SHA-256 in settings that begin
-- with `$5$`, and SHA-512 in those that begin with `$6$`.
use Rattle.std.specs.Prelude.{ℕ, ◌+◌, List, ◌++◌, length, slice_index}
use Rattle.std.specs.List.{repeat}
use Rattle.prims_core.specs.Digests.{sha256, sha512}
use Rattle.crypt_core.specs.Cycle.{cycle, digit_pieces}
use Rattle.crypt_core.specs.RoundMessage.{alternate_message, digest_after}
use Rattle.crypt_core.specs.declared.scheme.Sha.{Sha}
use Rattle.crypt_core.specs.declared.scheme.Sha.TheVariants.{Sha256, Sha512}

-- digest_function sha: the digest function h that `sha` names.
abbrev pub digest_function : Sha → List ℕ → List ℕ
digest_function Sha256 = sha256
digest_function Sha512 = sha512

-- sha_opening_message h password salt: the message of the digest A (steps 1 to 11). It ends with a string for each
-- binary digit of the password's length, lowest first: the digest B for a 1, and the password for a 0.
abbrev pub sha_opening_message : (List ℕ → List ℕ) → List ℕ → List ℕ → List ℕ
sha_opening_message h password salt =
    let b = h (alternate_message password salt) in
    password ++ salt ++ cycle b (length password) ++ digit_pieces b password (length password)

-- sha_opening h password salt: the digest A (step 12).
abbrev pub sha_opening : (List ℕ → List ℕ) → List ℕ → List ℕ → List ℕ
sha_opening h password salt = h (sha_opening_message h password salt)

-- sha_opening_byte h password salt: the first byte of the digest A.
abbrev pub sha_opening_byte : (List ℕ → List ℕ) → List ℕ → List ℕ → ℕ
sha_opening_byte h password salt = slice_index (sha_opening h password salt) 0

-- password_repeated password: the message of the digest DP, which has the password once for each of its bytes (steps 13
-- to 15).
abbrev pub password_repeated : List ℕ → List ℕ
password_repeated password = repeat (length password) password

-- password_string h password: the string P, which stands for the password in the rounds (step 16): the digest DP
-- repeated to the length of the password.
abbrev pub password_string : (List ℕ → List ℕ) → List ℕ → List ℕ
password_string h password = cycle (h (password_repeated password)) (length password)

-- salt_repeated h password salt: the message of the digest DS, which has the salt 16 + A[0] times (steps 17 to 19).
abbrev pub salt_repeated : (List ℕ → List ℕ) → List ℕ → List ℕ → List ℕ
salt_repeated h password salt = repeat (16 + sha_opening_byte h password salt) salt

-- salt_string h password salt: the string S, which stands for the salt in the rounds (step 20): the digest DS repeated
-- to the length of the salt.
abbrev pub salt_string : (List ℕ → List ℕ) → List ℕ → List ℕ → List ℕ
salt_string h password salt = cycle (h (salt_repeated h password salt)) (length salt)

-- shacrypt_digest h password salt rounds: the digest after the last round (step 21).
unfoldable pub shacrypt_digest : (List ℕ → List ℕ) → List ℕ → List ℕ → ℕ → List ℕ
shacrypt_digest h password salt rounds =
    digest_after h (sha_opening h password salt) (password_string h password) (salt_string h password salt) rounds
