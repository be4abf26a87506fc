-- Lemmas for `shacrypt` and `opening` in src/shacrypt.rt and `shacrypt_bound` in src/work.rt: which messages the
-- specification digests, how long each is, and that all of them have the count and the bytes of the closed form. The
-- digest function is any h whose digests all have the same length, so SHA-256 and SHA-512 share the proofs.
-- `HaveCountAndSum-shacrypt_messages` adds the four messages before the rounds to the sum over the rounds, which
-- WorkSums gives.
use Rattle.crypt_core.specs.MethodLimits.{shacrypt_salt_limit}
use Rattle.crypt_core.specs.Passwords.{password_limit}
use Rattle.std.proofs.Common.{◌≡◌, ℕ, zero, suc, ◌+◌, ◌*◌, ◌≤◌, ◌<◌, List, [], ◌∷◌, ◌++◌, length, arith, refl, sym, ap, ◌∙◌, ◌-◌}
use Rattle.std.specs.Prelude.{sum_by, All}
use Rattle.std.proofs.lemmas.List.{length-append}
use Rattle.std.proofs.Math.Nat.{mul-le-mul_right}
use Rattle.prims_core.specs.Meter.{HaveCountAndSum}
use Rattle.crypt_core.specs.Cycle.{cycle, digit_bytes, digit_pieces}
use Rattle.crypt_core.specs.Messages.{AreShacryptMessages, sha_digest_before, sha_round_message, shacrypt_message, shacrypt_messages}
use Rattle.crypt_core.specs.RoundMessage.{alternate_message, digest_after, round_message}
use Rattle.crypt_core.specs.ShaCrypt.{password_repeated, password_string, salt_repeated, salt_string, sha_opening, sha_opening_byte, sha_opening_message, shacrypt_digest}
use Rattle.crypt_core.specs.Work.{greatest_byte, shacrypt_bytes}
use Rattle.crypt_core.proofs.CycleLemmas.{digit_bytes-le-mul, length-cycle, length-digit_pieces, length-repeat}
use Rattle.crypt_core.proofs.MessageLists.{digest_after-more, length-messages_to, length-round_message, length-alternate_message, messages_to, round_length}
use Rattle.crypt_core.proofs.WorkSums.{sum_by-messages_to_rounds}

-- SHA-crypt's message of round i has number i + 4.
pub shacrypt_message-round : (h : List ℕ → List ℕ) (p s : List ℕ) (i : ℕ)
    → shacrypt_message h p s (i + 4) ≡ sha_round_message h p s i (sha_digest_before h p s i)
unfolding shacrypt_message
shacrypt_message-round h p s i = let number : i + 4 ≡ suc (suc (suc (suc i))) = omega arith in rw number refl

-- SHA-crypt's digest after i + 1 rounds is h of the message of round i, which has number i + 4.
shacrypt_digest-add_one : (h : List ℕ → List ℕ) (p s : List ℕ) (i : ℕ) → shacrypt_digest h p s (i + 1) ≡ h (shacrypt_message h p s (i + 4))
unfolding shacrypt_digest
shacrypt_digest-add_one h p s i =
    digest_after-more h (sha_opening h p s) (password_string h p) (salt_string h p s) i ∙ ap h (sym (shacrypt_message-round h p s i))

shacrypt_digest-last_message : (h : List ℕ → List ℕ) (p s : List ℕ) (rounds : ℕ) → 1 ≤ rounds
    → shacrypt_digest h p s rounds ≡ h (shacrypt_message h p s (rounds + 3))
shacrypt_digest-last_message h p s rounds some =
    let one_more : rounds ≡ rounds - 1 + 1 = omega (arith, some) in
    let number : rounds - 1 + 4 ≡ rounds + 3 = omega (arith, some) in
    ap (λ (n : ℕ). shacrypt_digest h p s n) one_more ∙ (shacrypt_digest-add_one h p s (rounds - 1) ∙ ap (λ (n : ℕ). h (shacrypt_message h p s n)) number)

-- The definition of SHA-crypt digests the messages of `shacrypt_message`, if there is at least one round.
pub shacrypt-digests_messages : (h : List ℕ → List ℕ) (p s : List ℕ) (rounds : ℕ) → 1 ≤ rounds → AreShacryptMessages h p s rounds
unfolding shacrypt_message
shacrypt-digests_messages h p s rounds some = (refl, refl, refl, shacrypt_digest-last_message h p s rounds some)

pub messages_to-four : (h : List ℕ → List ℕ) (p s : List ℕ)
    → messages_to (shacrypt_message h p s) 4 ≡ alternate_message p s ∷ sha_opening_message h p s ∷ password_repeated p ∷ salt_repeated h p s ∷ []
unfolding messages_to shacrypt_message
messages_to-four h p s = refl

pub messages_to-all_rounds : (h : List ℕ → List ℕ) (p s : List ℕ) (rounds : ℕ)
    → messages_to (shacrypt_message h p s) (rounds + 4) ≡ shacrypt_messages h p s rounds
unfolding messages_to shacrypt_messages
messages_to-all_rounds h p s rounds = refl

-- If x, q and r equal the digest before round i and the strings P and S, the message made from them is that of round i.
pub round_message-same : (h : List ℕ → List ℕ) (p s : List ℕ) (i : ℕ) (x q r : List ℕ)
    → x ≡ sha_digest_before h p s i → q ≡ password_string h p → r ≡ salt_string h p s
    → round_message i x q r ≡ sha_round_message h p s i (sha_digest_before h p s i)
round_message-same h p s i x q r digest password salt =
    ap (λ y. round_message i y q r) digest
    ∙ (ap (λ y. round_message i (sha_digest_before h p s i) y r) password
    ∙ ap (λ y. round_message i (sha_digest_before h p s i) (password_string h p) y) salt)

pub length-sha_opening_message : (h : List ℕ → List ℕ) (p s : List ℕ)
    → length (sha_opening_message h p s) ≡ 2 * length p + length s + digit_bytes (length (h (alternate_message p s))) (length p) (length p)
length-sha_opening_message h p s =
    let b = h (alternate_message p s) in
    let around = cycle b (length p) in
    let digits = digit_pieces b p (length p) in
    omega (
      arith,
      length-append (p ++ s ++ around) digits,
      length-append (p ++ s) around,
      length-append p s,
      length-cycle b (length p),
      length-digit_pieces b p (length p),
    )

-- A bound on the bytes of the four messages before the rounds.
abbrev pub start_limit : ℕ
start_limit = 4 * (password_limit * password_limit)

-- The lemmas here hold for each digest function h whose digests all have `digest` bytes.
module _ (h : List ℕ → List ℕ) (digest : ℕ) (length-digest : (m : List ℕ) → length (h m) ≡ digest) (p s : List ℕ) where
  -- The four messages before the rounds have at most `start_limit` bytes in all.
  pub start_bytes-le-start_limit : (times : ℕ) → digest ≤ 64 → length p ≤ password_limit → length s ≤ shacrypt_salt_limit → times ≤ 16 + greatest_byte
      → length (alternate_message p s) + length (sha_opening_message h p s) + length p * length p + times * length s ≤ start_limit
  start_bytes-le-start_limit times small short salt_short few =
      let below : length (h (alternate_message p s)) ≤ password_limit = omega (arith, length-digest (alternate_message p s), small) in
      omega (
        arith,
        length-alternate_message p s,
        length-sha_opening_message h p s,
        digit_bytes-le-mul (length (h (alternate_message p s))) (length p) password_limit (length p) below short,
        mul-le-mul_right (length p) short,
        mul-le-mul_right (length s) few,
      )

  -- The first byte of the digest A is below 256.
  pub sha_opening_byte-below : 1 ≤ digest → ((m : List ℕ) → All (λ b. b < 256) (h m)) → sha_opening_byte h p s < 256
  sha_opening_byte-below some bytes =
      bytes (sha_opening_message h p s) 0 0 (omega (arith, length-digest (sha_opening_message h p s), some))

  length-sha_digest_before : (i : ℕ) → length (sha_digest_before h p s i) ≡ digest
  unfolding digest_after
  length-sha_digest_before zero = length-digest (sha_opening_message h p s)
  length-sha_digest_before (suc i) = length-digest (sha_round_message h p s i (sha_digest_before h p s i))

  pub length-shacrypt_message : (i : ℕ) → length (shacrypt_message h p s (i + 4)) ≡ round_length i digest (length p) (length s)
  length-shacrypt_message i =
      let whole = length-round_message i (sha_digest_before h p s i) (password_string h p) (salt_string h p s) in
      let password = length-cycle (h (password_repeated p)) (length p) in
      let salt = length-cycle (h (salt_repeated h p s)) (length s) in
      rw (shacrypt_message-round h p s i, whole, length-sha_digest_before i, password, salt) refl

  -- SHA-crypt has `rounds + 4` messages, with `shacrypt_bytes` bytes in all.
  pub HaveCountAndSum-shacrypt_messages : (rounds : ℕ)
      → HaveCountAndSum (shacrypt_messages h p s rounds) (rounds + 4) (shacrypt_bytes digest (sha_opening_byte h p s) rounds (length p) (length s))
  HaveCountAndSum-shacrypt_messages rounds = rw (← messages_to-all_rounds h p s rounds) (record {
    count = length-messages_to (shacrypt_message h p s) (rounds + 4);
    sum = omega (
      arith,
      sum_by-messages_to_rounds (shacrypt_message h p s) 4 digest (length p) (length s) length-shacrypt_message rounds,
      ap (sum_by length) (messages_to-four h p s),
      length-alternate_message p s,
      length-sha_opening_message h p s,
      ap (λ w. digit_bytes w (length p) (length p)) (length-digest (alternate_message p s)),
      length-repeat (length p) p,
      length-repeat (16 + sha_opening_byte h p s) s,
    );
  })
