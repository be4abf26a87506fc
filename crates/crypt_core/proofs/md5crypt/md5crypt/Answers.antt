-- Proves the clauses of `md5crypt`. The rounds keep four facts (`IsAfter` in Invariants): the digest is that of the
-- definition, it has 16 bytes, the meter has counted the messages so far, and their bytes are bounded so that no count
-- overflows. `parts-init` shows these facts before the first round and `rounds-preserved` after each round. At the end
-- Md5cryptLemmas turns the counted messages into the closed form of the work.
use Rattle.std.proofs.Common.{◌≡◌, ◌+◌, ◌*◌, length, arith, refl, sym, ◌∙◌, ap}
use Rattle.prims_core.specs.Digests.{length-md5, md5}
use Rattle.crypt_core.specs.Md5crypt.{md5crypt_digest, md5crypt_opening, opening_message}
use Rattle.crypt_core.specs.Messages.{md5crypt_message, md5crypt_messages, md5crypt_rounds}
use Rattle.crypt_core.specs.RoundMessage.{round_message, alternate_message}
use Rattle.crypt_core.specs.Private.Messages.{Strings, with_digest}
use Rattle.crypt_core.proofs.CycleLemmas.{digit_bytes-le-mul}
use Rattle.crypt_core.proofs.Md5cryptLemmas.{md5crypt-digests_messages, length-md5crypt_message, length-opening_message, md5crypt_message-round, messages_to-all_rounds, HaveCountAndSum-md5crypt_messages, messages_to-two}
use Rattle.crypt_core.proofs.MessageLists.{digest_after-more, digest_after-zero, length-messages_to, length-alternate_message, messages_to-more, round_length-le}
use Rattle.crypt_core.proofs.CountSums.{with_digests-with_work, with_digests-push, with_digests-two}
use Rattle.crypt_core.proofs.md5crypt.md5crypt.Goals as goal

-- Shows the four facts of `IsAfter` before the first round, when the meter has counted the first two messages.
pub parts-init : goal.parts-init
parts-init c =
    let p = c.args.password.now in
    let s = c.args.salt.now in
    let a = c.args.meter.now in
    let first = alternate_message p s in
    let second = opening_message p s in
    let bytes_are_password = c.bytes-password.ensures.value in
    let opening_counted = rw bytes_are_password at c.opening.ensures.count in
    let opening_bytes = ap (λ m. m.bytes) opening_counted in
    let password_short = c.bytes-password.ensures.password.0 in (
      c.copy_from_slice.ensures.after ∙ (c.as_slice.ensures.value ∙ ((rw bytes_are_password at c.opening.ensures.digest) ∙ sym (digest_after-zero md5 (md5crypt_opening p s) p s))),
      ap length (c.copy_from_slice.ensures.after ∙ c.as_slice.ensures.value) ∙ c.opening.ensures.length,
      rw (messages_to-two p s) (with_digests-two a (with_digest a first) c.opening.new.meter first second refl opening_counted),
      omega (arith, opening_bytes, length-alternate_message p s, length-opening_message p s, digit_bytes-le-mul 1 1 1 (length p) (omega arith) (omega arith), password_short, c.requires.salt),
    )

pub round-requires-clause-digests_room : goal.round-requires-clause-digests_room
round-requires-clause-digests_room c =
    let digests = ap (λ m. m.digests) c.rounds.invariant.2 in
    omega (arith, digests, length-messages_to (md5crypt_message c.args.password.now c.args.salt.now) (c.rounds.i + 2), c.requires.room.0)

-- Shows the four facts of `IsAfter` after one more round. `message_is` says that the code's message is that of the
-- definition.
pub rounds-preserved : goal.rounds-preserved
rounds-preserved c =
    let p = c.args.password.now in
    let s = c.args.salt.now in
    let i = c.rounds.i in
    let before = c.rounds.digest in
    let strings = rw c.bytes-password.ensures.value at c.new-strings.ensures in
    let message_is =
    ap (λ (x : Strings). round_message i before x.password x.salt) strings
    ∙ (ap (λ x. round_message i x p s) c.rounds.invariant.0 ∙ sym (md5crypt_message-round p s i)) in
    let next_number : c.rounds.i + 1 + 2 ≡ c.rounds.i + 2 + 1 = omega arith in
    let messages_counted = with_digests-push c.args.meter.now c.rounds.meter c.round.new.meter _ _ c.rounds.invariant.2 c.round.ensures.count in
    let round_bytes = ap (λ m. m.bytes) c.round.ensures.count in (
      c.round.ensures.digest ∙ (ap md5 (message_is ∙ md5crypt_message-round p s i) ∙ sym (digest_after-more md5 (md5crypt_opening p s) p s i)),
      ap length c.round.ensures.digest ∙ length-md5 _,
      rw (next_number, messages_to-more (md5crypt_message p s) (i + 2), ← message_is) messages_counted,
      omega (
        arith,
        round_bytes,
        ap length message_is,
        length-md5crypt_message p s i,
        round_length-le i 16 (length p) (length s),
        c.rounds.invariant.3,
        c.bytes-password.ensures.password.0,
        c.requires.salt,
      ),
    )

pub returns-clause-digest : goal.returns-clause-digest
unfolding md5crypt_digest
returns-clause-digest c =
    let last_round : 50 * c.parts.part ≡ md5crypt_rounds = omega arith in
    rw last_round at c.parts.invariant.0

pub returns-clause-count : goal.returns-clause-count
returns-clause-count c =
    let p = c.args.password.now in
    let s = c.args.salt.now in
    let last_message : 50 * c.parts.part + 2 ≡ md5crypt_rounds + 2 = omega arith in
    let messages_counted = rw (last_message, messages_to-all_rounds p s) at c.parts.invariant.2 in
    messages_counted ∙ with_digests-with_work c.args.meter.now (md5crypt_messages p s) (md5crypt_rounds + 2) _ (HaveCountAndSum-md5crypt_messages p s)

pub returns-clause-specified : goal.returns-clause-specified
returns-clause-specified c = HaveCountAndSum-md5crypt_messages c.args.password.now c.args.salt.now

pub returns-clause-messages : goal.returns-clause-messages
returns-clause-messages c = md5crypt-digests_messages c.args.password.now c.args.salt.now

pub returns-clause-each_round : goal.returns-clause-each_round
returns-clause-each_round c i =
    let p = c.args.password.now in
    let s = c.args.salt.now in
    digest_after-more md5 (md5crypt_opening p s) p s i ∙ ap md5 (sym (md5crypt_message-round p s i))

pub returns-clause-below : goal.returns-clause-below
returns-clause-below c = omega (arith, ap (λ m. m.bytes) (returns-clause-count c), c.parts.invariant.3)
