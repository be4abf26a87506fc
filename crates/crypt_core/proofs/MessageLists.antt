-- Lists of messages given by their number, and the length of a round's message, for `round` in src/messages.rt and the
-- loops of `md5crypt` and `shacrypt`. A loop appends one message per round, so the lemmas `..-more` give the list and
-- the digest after one more round. `round_length` computes the length of a round's message from the lengths of its
-- parts.
use Rattle.crypt_core.specs.MethodLimits.{shacrypt_salt_limit}
use Rattle.crypt_core.specs.Passwords.{password_limit}
use Rattle.std.proofs.Common.{◌≡◌, ℕ, suc, ◌+◌, ◌*◌, ◌%◌, ◌≤◌, Bool, true, false, cond, nat_eq, List, [], ◌∷◌, ◌++◌, length, map, arith, refl}
use Rattle.std.specs.List.{range_with_len}
use Rattle.std.proofs.lemmas.List.{length-append}
use Rattle.std.proofs.lemmas.List.FromFn.{length-map-range_with_len, map-range_with_len_more}
use Rattle.crypt_core.proofs.CycleLemmas.{length-cond}
use Rattle.crypt_core.specs.RoundMessage.{alternate_message, digest_after, round_message}

-- messages_to message n: the first n messages, if `message i` is message number i.
unfoldable pub messages_to : (ℕ → List ℕ) → ℕ → List (List ℕ)
messages_to message n = map message (range_with_len 0 n)

pub messages_to-more : (message : ℕ → List ℕ) (n : ℕ) → messages_to message (n + 1) ≡ messages_to message n ++ message n ∷ []
unfolding messages_to
messages_to-more message n = map-range_with_len_more message 0 n n (omega arith)

pub length-messages_to : (message : ℕ → List ℕ) (n : ℕ) → length (messages_to message n) ≡ n
unfolding messages_to
length-messages_to message n = length-map-range_with_len message 0 n

pub length-alternate_message : (p s : List ℕ) → length (alternate_message p s) ≡ 2 * length p + length s
length-alternate_message p s = omega (arith, length-append (p ++ s) p, length-append p s)

-- Before the first round, the digest is `opening`. One more round digests that round's message (`digest_after-more`).
pub digest_after-zero : (h : List ℕ → List ℕ) (opening p q : List ℕ) → digest_after h opening p q 0 ≡ opening
unfolding digest_after
digest_after-zero h opening p q = refl

pub digest_after-more : (h : List ℕ → List ℕ) (opening p q : List ℕ) (i : ℕ)
    → digest_after h opening p q (i + 1) ≡ h (round_message i (digest_after h opening p q i) p q)
unfolding digest_after
digest_after-more h opening p q i = let next : i + 1 ≡ suc i = omega arith in rw next refl

-- The length of round i's message, given the lengths of the digest before and of the two strings.
abbrev pub round_length : ℕ → ℕ → ℕ → ℕ → ℕ
round_length i x p q = x + p + cond (nat_eq (i % 3) 0) 0 q + cond (nat_eq (i % 7) 0) 0 p

pub length-round_message : (i : ℕ) (x p q : List ℕ)
    → length (round_message i x p q) ≡ round_length i (length x) (length p) (length q)
length-round_message i x p q = go (nat_eq (i % 2) 1) (nat_eq (i % 3) 0) (nat_eq (i % 7) 0) where
  sum : (start salt repeated end : List ℕ) → length (start ++ salt ++ repeated ++ end) ≡ length start + length salt + length repeated + length end
  sum start salt repeated end =
      omega (arith, length-append (start ++ salt ++ repeated) end, length-append (start ++ salt) repeated, length-append start salt)

  ends : (odd : Bool) → length (cond odd p x) + length (cond odd x p) ≡ length x + length p
  ends true = omega arith
  ends false = omega arith

  go : (odd third seventh : Bool)
      → length (cond odd p x ++ cond third [] q ++ cond seventh [] p ++ cond odd x p)
      ≡ length x + length p + cond third 0 (length q) + cond seventh 0 (length p)
  go odd third seventh =
      omega (
        arith,
        sum (cond odd p x) (cond third [] q) (cond seventh [] p) (cond odd x p),
        ends odd,
        length-cond third [] q,
        length-cond seventh [] p,
      )

-- A bound on the bytes of a round's message, for a digest of at most 64 bytes.
abbrev pub round_limit : ℕ
round_limit = 64 + 2 * password_limit + shacrypt_salt_limit

-- A round's message has the digest and the password once, and may have the salt once and the password again, so it has
-- at most x + 2 * p + q bytes.
pub round_length-le : (i x p q : ℕ) → round_length i x p q ≤ x + 2 * p + q
round_length-le i x p q =
    omega (arith, skipped (nat_eq (i % 3) 0) q, skipped (nat_eq (i % 7) 0) p) where
      skipped : (skip : Bool) (part : ℕ) → cond skip 0 part ≤ part
      skipped true part = omega arith
      skipped false part = omega arith
