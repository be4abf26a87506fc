-- Proves the clauses of `shacrypt`. The rounds keep four facts (Invariants): the digest is that of the specification,
-- it has `H.LEN` bytes, the meter has counted the messages so far, and their bytes are bounded so that no count
-- overflows. `rounds-init` shows these facts before the first round and `rounds-preserved` after each round. At the end
-- ShaCryptLemmas turns the counted messages into the closed form of the work.
use Rattle.crypt_core.specs.Work.{greatest_byte}
use Rattle.crypt_core.specs.Passwords.{password_limit}
use Rattle.std.proofs.Common.{◌≡◌, ℕ, List, ◌+◌, ◌≤◌, length, drop, get_or, arith, refl, sym, ◌∙◌, ap}
use Rattle.std.specs.List.{refill, repeat}
use Rattle.std.proofs.lemmas.List.{take_at}
use Rattle.crypt_core.specs.RoundMessage.{alternate_message}
use Rattle.crypt_core.specs.Messages.{shacrypt_message, shacrypt_messages}
use Rattle.crypt_core.specs.ShaCrypt.{password_repeated, password_string, salt_repeated, salt_string, sha_opening, sha_opening_message, shacrypt_digest}
use Rattle.crypt_core.specs.Private.Messages.{Strings, with_digest}
use Rattle.crypt_core.proofs.CycleLemmas.{length-cycle, length-repeat}
use Rattle.crypt_core.proofs.MessageLists.{digest_after-more, digest_after-zero, length-messages_to, messages_to-more, round_length-le}
use Rattle.crypt_core.proofs.CountSums.{with_digests-with_work, with_digests-push, with_digests-four}
use Rattle.crypt_core.proofs.ShaCryptLemmas.{shacrypt-digests_messages, sha_opening_byte-below, length-shacrypt_message, shacrypt_message-round, messages_to-all_rounds, messages_to-four, HaveCountAndSum-shacrypt_messages, round_message-same, start_bytes-le-start_limit}
use Rattle.crypt_core.proofs.shacrypt.shacrypt.Goals as goal

-- Digesting the password as often as it has bytes overflows no count.
pub string_of-password_string-requires-clause-bytes_room : goal.string_of-password_string-requires-clause-bytes_room
string_of-password_string-requires-clause-bytes_room g c =
    let h = g.H.Counted.digest in
    let p = c.bytes-password.result.now in
    let s = c.args.salt.now in
    let password_short : length p ≤ password_limit = omega (arith, ap length c.bytes-password.ensures.value, c.bytes-password.ensures.password.0) in
    omega (arith, ap (λ m. m.bytes) c.opening-digest.ensures.count, start_bytes-le-start_limit h g.H.Counted.LEN g.met.H.Counted.length_digest p s 0 g.met.H.Counted.at_most_64 password_short c.requires.salt (omega arith), c.requires.room.1)

-- Digesting the salt 16 + A[0] times, where A[0] is a byte, overflows no count.
pub string_of-salt_string-requires-clause-bytes_room : goal.string_of-salt_string-requires-clause-bytes_room
string_of-salt_string-requires-clause-bytes_room g c =
    let h = g.H.Counted.digest in
    let p = c.bytes-password.result.now in
    let s = c.args.salt.now in
    let password_short : length p ≤ password_limit = omega (arith, ap length c.bytes-password.ensures.value, c.bytes-password.ensures.password.0) in
    let first_byte = c.from-salt_times.ensures ∙ ap (λ xs. get_or xs 0 0) (c.as_slice.ensures.value ∙ c.opening-digest.ensures.digest) in
    let first_byte_below = sha_opening_byte-below h g.H.Counted.LEN g.met.H.Counted.length_digest p s g.met.H.Counted.at_least_1 g.met.H.Counted.digest_bytes in
    let times_le : 16 + c.from-salt_times.result ≤ 16 + greatest_byte = omega (arith, first_byte, first_byte_below) in
    omega (
      arith,
      ap (λ m. m.bytes) c.opening-digest.ensures.count,
      ap (λ m. m.bytes) c.string_of-password_string.ensures.count,
      length-repeat (length p) p,
      start_bytes-le-start_limit h g.H.Counted.LEN g.met.H.Counted.length_digest p s (16 + c.from-salt_times.result) g.met.H.Counted.at_most_64 password_short c.requires.salt times_le,
      c.requires.room.1,
    )

-- P and S have the lengths of the password and the salt, so the buffer for the joined strings has room.
pub new-strings-requires : goal.new-strings-requires
new-strings-requires g c =
    let h = g.H.Counted.digest in
    let p = c.bytes-password.result.now in
    let s = c.args.salt.now in
    omega (
      arith,
      ap length c.as_slice-p.ensures.value,
      ap length c.as_slice-s.ensures.value,
      ap length c.string_of-password_string.ensures.string,
      ap length c.string_of-salt_string.ensures.string,
      length-cycle (h (password_repeated p)) (length p),
      length-cycle (h (repeat (16 + c.from-salt_times.result) s)) (length s),
      ap length c.bytes-password.ensures.value,
      c.bytes-password.ensures.password.0,
      c.requires.salt,
    )

-- Shows the four facts that the rounds keep before the first round, when the meter has counted the first four messages.
pub rounds-init : goal.rounds-init
rounds-init g c =
    let h = g.H.Counted.digest in
    let a = c.args.meter.now in
    let p = c.args.password.now in
    let s = c.args.salt.now in
    let bytes_are_password = c.bytes-password.ensures.value in
    let opening_counted = rw bytes_are_password at c.opening-digest.ensures.count in
    let digest_is_opening = rw bytes_are_password at c.opening-digest.ensures.digest in
    let password_string_counted = rw bytes_are_password at c.string_of-password_string.ensures.count in
    let first_byte = c.from-salt_times.ensures ∙ ap (λ xs. get_or xs 0 0) (c.as_slice.ensures.value ∙ digest_is_opening) in
    let salt_string_counted = rw first_byte at c.string_of-salt_string.ensures.count in
    let password_short : length p ≤ password_limit = c.bytes-password.ensures.password.0 in
    let first_byte_below = sha_opening_byte-below h g.H.Counted.LEN g.met.H.Counted.length_digest p s g.met.H.Counted.at_least_1 g.met.H.Counted.digest_bytes in
    let times_le : 16 + get_or (sha_opening h p s) 0 0 ≤ 16 + greatest_byte = omega (arith, first_byte_below) in (
      digest_is_opening ∙ sym (digest_after-zero h (sha_opening h p s) (password_string h p) (salt_string h p s)),
      c.opening-digest.ensures.length,
      rw (messages_to-four h p s)
          (with_digests-four a (with_digest a (alternate_message p s)) c.opening-digest.new.meter c.string_of-password_string.new.meter c.string_of-salt_string.new.meter
          (alternate_message p s) (sha_opening_message h p s) (password_repeated p) (salt_repeated h p s) refl opening_counted password_string_counted salt_string_counted),
      omega (
        arith,
        ap (λ m. m.bytes) opening_counted,
        ap (λ m. m.bytes) password_string_counted,
        ap (λ m. m.bytes) salt_string_counted,
        length-repeat (length p) p,
        length-repeat (16 + get_or (sha_opening h p s) 0 0) s,
        start_bytes-le-start_limit h g.H.Counted.LEN g.met.H.Counted.length_digest p s (16 + get_or (sha_opening h p s) 0 0) g.met.H.Counted.at_most_64 password_short c.requires.salt times_le,
      ),
    )

pub round-requires-clause-digests_room : goal.round-requires-clause-digests_room
round-requires-clause-digests_room g c =
    let digests = ap (λ m. m.digests) c.rounds.invariant.2 in
    omega (
      arith,
      digests,
      length-messages_to (shacrypt_message g.H.Counted.digest c.args.password.now c.args.salt.now) (c.rounds.i + 4),
      c.requires.room.0,
      c.requires.most_rounds,
    )

pub returns-clause-digest : goal.returns-clause-digest
unfolding shacrypt_digest
returns-clause-digest g c =
    let h = g.H.Counted.digest in
    let p = c.args.password.now in
    let s = c.args.salt.now in
    let last_round : c.rounds.i ≡ c.args.rounds = omega arith in
    rw last_round at c.rounds.invariant.0

pub returns-clause-count : goal.returns-clause-count
returns-clause-count g c =
    let h = g.H.Counted.digest in
    let p = c.args.password.now in
    let s = c.args.salt.now in
    let last_round : c.rounds.i ≡ c.args.rounds = omega arith in
    let messages_counted = rw (last_round, messages_to-all_rounds h p s c.args.rounds) at c.rounds.invariant.2 in
    messages_counted
    ∙ with_digests-with_work c.args.meter.now (shacrypt_messages h p s c.args.rounds) (c.args.rounds + 4) _
    (HaveCountAndSum-shacrypt_messages h g.H.Counted.LEN g.met.H.Counted.length_digest p s c.args.rounds)

pub returns-clause-specified : goal.returns-clause-specified
returns-clause-specified g c =
    HaveCountAndSum-shacrypt_messages g.H.Counted.digest g.H.Counted.LEN g.met.H.Counted.length_digest c.args.password.now c.args.salt.now c.args.rounds

-- Writing a digest over one of the same length replaces all of it.
refill-whole : (old new : List ℕ) → length new ≡ length old → refill (length old) old new ≡ new
refill-whole old new same = take_at new (drop (length new) old) (length old) same

-- Shows the four facts that the rounds keep after one more round. `message_is` says that the code's message, with its
-- strings for P and S, is that of the specification.
pub rounds-preserved : goal.rounds-preserved
rounds-preserved g c =
    let h = g.H.Counted.digest in
    let p = c.args.password.now in
    let s = c.args.salt.now in
    let i = c.rounds.i in
    let bytes_are_password = c.bytes-password.ensures.value in
    let strings = c.new-strings.result in
    let first_byte = c.from-salt_times.ensures ∙ ap (λ xs. get_or xs 0 0) (c.as_slice.ensures.value ∙ rw bytes_are_password at c.opening-digest.ensures.digest) in
    let digest_is = c.as_mut_slice.ensures.value ∙ c.rounds.invariant.0 in
    let password_is =
    ap (λ (x : Strings). x.password) c.new-strings.ensures
    ∙ (c.as_slice-p.ensures.value ∙ rw bytes_are_password at c.string_of-password_string.ensures.string) in
    let salt_is =
    ap (λ (x : Strings). x.salt) c.new-strings.ensures
    ∙ (c.as_slice-s.ensures.value ∙ rw first_byte at c.string_of-salt_string.ensures.string) in
    let message_is = round_message-same h p s i c.as_mut_slice.result.now strings.password strings.salt digest_is password_is salt_is in
    let next_number : c.rounds.i + 1 + 4 ≡ c.rounds.i + 4 + 1 = omega arith in
    let messages_counted = with_digests-push c.args.meter.now c.rounds.meter c.round.new.meter _ _ c.rounds.invariant.2 c.round.ensures.count in
    let digest_length = ap length c.round.ensures.digest ∙ g.met.H.Counted.length_digest _ in
    let digest_replaced = refill-whole c.rounds.digest.items c.round.new.digest (digest_length ∙ sym c.rounds.invariant.1) in (
      digest_replaced ∙ (c.round.ensures.digest ∙ (ap h message_is ∙ sym (digest_after-more h (sha_opening h p s) (password_string h p) (salt_string h p s) i))),
      ap length digest_replaced ∙ digest_length,
      rw (next_number, messages_to-more (shacrypt_message h p s) (i + 4), shacrypt_message-round h p s i, ← message_is) messages_counted,
      omega (
        arith,
        ap (λ m. m.bytes) c.round.ensures.count,
        ap length (message_is ∙ sym (shacrypt_message-round h p s i)),
        length-shacrypt_message h g.H.Counted.LEN g.met.H.Counted.length_digest p s i,
        round_length-le i g.H.Counted.LEN (length p) (length s),
        c.rounds.invariant.3,
        g.met.H.Counted.at_most_64,
        c.bytes-password.ensures.password.0,
        c.requires.salt,
      ),
    )

pub returns-clause-messages : goal.returns-clause-messages
returns-clause-messages g c =
    shacrypt-digests_messages g.H.Counted.digest c.args.password.now c.args.salt.now c.args.rounds (omega (arith, c.requires.least_rounds))

pub returns-clause-each_round : goal.returns-clause-each_round
returns-clause-each_round g c i =
    let h = g.H.Counted.digest in
    let p = c.args.password.now in
    let s = c.args.salt.now in
    digest_after-more h (sha_opening h p s) (password_string h p) (salt_string h p s) i ∙ ap h (sym (shacrypt_message-round h p s i))

pub returns-clause-below : goal.returns-clause-below
returns-clause-below g c =
    omega (arith, ap (λ m. m.bytes) (returns-clause-count g c), c.rounds.invariant.3, c.requires.most_rounds)
