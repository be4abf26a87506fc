-- The first message and the rounds, which are the same in md5crypt and SHA-crypt (FreeBSD's md5crypt; Drepper, "Unix
-- crypt using SHA-256 and SHA-512", steps 4 to 8 and 21).
use Rattle.std.specs.Prelude.{ℕ, zero, suc, ◌%◌, ◌==◌, List, [], ◌++◌, if◌then◌else◌}

-- alternate_message password salt: the password, the salt and the password again. Drepper calls its digest B (steps 4
-- to 8).
abbrev pub alternate_message : List ℕ → List ℕ → List ℕ
alternate_message password salt = password ++ salt ++ password

-- round_message i x p q: the message of round i (step 21), where x is the digest before the round, and p and q stand
-- for the password and the salt.
abbrev pub round_message : ℕ → List ℕ → List ℕ → List ℕ → List ℕ
round_message i x p q =
    (if i % 2 == 1 then p else x) ++ (if i % 3 == 0 then [] else q)
    ++ (if i % 7 == 0 then [] else p) ++ (if i % 2 == 1 then x else p)

-- digest_after h opening p q n: the digest after n rounds over the digest function h, starting from the digest
-- `opening`.
unfoldable pub digest_after : (List ℕ → List ℕ) → List ℕ → List ℕ → List ℕ → ℕ → List ℕ
digest_after h opening p q zero = opening
digest_after h opening p q (suc i) = h (round_message i (digest_after h opening p q i) p q)
