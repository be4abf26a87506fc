-- Lemmas for `md5crypt` and `opening` in src/md5crypt.rt: which messages the definition digests, how long each is, and
-- the clause `specified`, that all of them together have the count and the bytes of the closed form.
-- `HaveCountAndSum-md5crypt_messages` adds the two messages of the opening to the sum over the rounds, which WorkSums
-- gives.
use Rattle.crypt_core.specs.Passwords.{password_limit}
use Rattle.std.proofs.Common.{◌≡◌, ℕ, zero, suc, ◌+◌, ◌*◌, List, [], ◌∷◌, ◌++◌, length, take, arith, refl, sym, ap, ◌∙◌}
use Rattle.std.specs.Prelude.{sum_by}
use Rattle.std.proofs.lemmas.List.{length-append}
use Rattle.prims_core.specs.Digests.{length-md5, md5}
use Rattle.prims_core.specs.Meter.{HaveCountAndSum}
use Rattle.crypt_core.specs.Cycle.{cycle, digit_bytes, digit_pieces}
use Rattle.crypt_core.specs.Md5crypt.{md5crypt_digest, md5crypt_opening, opening_message}
use Rattle.crypt_core.specs.Messages.{AreMd5cryptMessages, md5crypt_message, md5crypt_messages, md5crypt_rounds}
use Rattle.crypt_core.specs.MethodLimits.{prefix}
use Rattle.crypt_core.specs.RoundMessage.{alternate_message, digest_after, round_message}
use Rattle.crypt_core.specs.Work.{md5crypt_bytes}
use Rattle.crypt_core.specs.declared.method.Method.TheVariants.{Md5crypt}
use Rattle.crypt_core.proofs.CycleLemmas.{length-cycle, length-digit_pieces}
use Rattle.crypt_core.proofs.MessageLists.{digest_after-more, length-messages_to, length-round_message, length-alternate_message, messages_to, round_length}
use Rattle.crypt_core.proofs.WorkSums.{sum_by-messages_to_rounds}

pub messages_to-two : (p s : List ℕ) → messages_to (md5crypt_message p s) 2 ≡ alternate_message p s ∷ opening_message p s ∷ []
unfolding messages_to md5crypt_message
messages_to-two p s = refl

pub messages_to-all_rounds : (p s : List ℕ) → messages_to (md5crypt_message p s) (md5crypt_rounds + 2) ≡ md5crypt_messages p s
unfolding messages_to md5crypt_messages
messages_to-all_rounds p s = refl

-- md5crypt's message of round i has number i + 2.
pub md5crypt_message-round : (p s : List ℕ) (i : ℕ)
    → md5crypt_message p s (i + 2) ≡ round_message i (digest_after md5 (md5crypt_opening p s) p s i) p s
unfolding md5crypt_message
md5crypt_message-round p s i = let two : i + 2 ≡ suc (suc i) = omega arith in rw two refl

-- The definition of md5crypt digests the messages of `md5crypt_message`.
pub md5crypt-digests_messages : (p s : List ℕ) → AreMd5cryptMessages p s
unfolding md5crypt_message md5crypt_digest
md5crypt-digests_messages p s = (refl, digest_after-more md5 (md5crypt_opening p s) p s 999 ∙ ap md5 (sym (md5crypt_message-round p s 999)))

-- In md5crypt, the digest before each round has 16 bytes.
length-digest_after : (p s : List ℕ) (i : ℕ) → length (digest_after md5 (md5crypt_opening p s) p s i) ≡ 16
unfolding digest_after
length-digest_after p s zero = length-md5 (opening_message p s)
length-digest_after p s (suc i) = length-md5 (round_message i (digest_after md5 (md5crypt_opening p s) p s i) p s)

-- The message of round i of md5crypt has as many bytes as `round_length` says.
pub length-md5crypt_message : (p s : List ℕ) (i : ℕ) → length (md5crypt_message p s (i + 2)) ≡ round_length i 16 (length p) (length s)
length-md5crypt_message p s i =
    let before = digest_after md5 (md5crypt_opening p s) p s i in
    ap length (md5crypt_message-round p s i)
    ∙ (length-round_message i before p s
    ∙ ap (λ x. round_length i x (length p) (length s)) (length-digest_after p s i))

-- The pieces for the binary digits have one byte each. An empty password has no digits, and no first byte.
pub length-digit_pieces_of_password : (p : List ℕ) → length (digit_pieces (0 ∷ []) (take 1 p) (length p)) ≡ digit_bytes 1 1 (length p)
length-digit_pieces_of_password [] = refl
length-digit_pieces_of_password (x ∷ p) = length-digit_pieces (0 ∷ []) (x ∷ []) (suc (length p))

pub length-opening_message : (p s : List ℕ) → length (opening_message p s) ≡ 2 * length p + length s + 3 + digit_bytes 1 1 (length p)
length-opening_message p s =
    let around = cycle (md5 (alternate_message p s)) (length p) in
    let digits = digit_pieces (0 ∷ []) (take 1 p) (length p) in
    omega (
      arith,
      length-append (p ++ prefix Md5crypt ++ s ++ around) digits,
      length-append (p ++ prefix Md5crypt ++ s) around,
      length-append (p ++ prefix Md5crypt) s,
      length-append p (prefix Md5crypt),
      length-cycle (md5 (alternate_message p s)) (length p),
      length-digit_pieces_of_password p,
    )

-- A bound on the bytes of any message of md5crypt.
abbrev pub message_limit : ℕ
message_limit = 4 * password_limit

-- md5crypt has `md5crypt_rounds + 2` messages, with `md5crypt_bytes` bytes in all.
pub HaveCountAndSum-md5crypt_messages : (p s : List ℕ) → HaveCountAndSum (md5crypt_messages p s) (md5crypt_rounds + 2) (md5crypt_bytes (length p) (length s))
HaveCountAndSum-md5crypt_messages p s = rw (← messages_to-all_rounds p s) (record {
  count = length-messages_to (md5crypt_message p s) (md5crypt_rounds + 2);
  sum = omega (
    arith,
    sum_by-messages_to_rounds (md5crypt_message p s) 2 16 (length p) (length s) (length-md5crypt_message p s) md5crypt_rounds,
    ap (sum_by length) (messages_to-two p s),
    length-alternate_message p s,
    length-opening_message p s,
  );
})
