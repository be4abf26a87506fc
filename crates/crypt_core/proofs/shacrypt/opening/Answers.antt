-- Proves the clause `count` of `opening` in src/shacrypt.rt, and that feeding the last piece overflows no count. The
-- lengths of the four pieces are added up one by one (CountSums), and their sum is the length of `sha_opening_message`.
use Rattle.crypt_core.specs.Passwords.{password_limit}
use Rattle.std.proofs.Common.{◌≤◌, length, arith, refl, ◌∙◌, ap}
use Rattle.crypt_core.specs.RoundMessage.{alternate_message}
use Rattle.crypt_core.specs.ShaCrypt.{sha_opening_message}
use Rattle.crypt_core.specs.Private.Messages.{with_digest}
use Rattle.crypt_core.proofs.CycleLemmas.{digit_bytes-le-mul, length-digit_pieces}
use Rattle.crypt_core.proofs.MessageLists.{length-alternate_message}
use Rattle.crypt_core.proofs.CountSums.{bytes-add_add, with_digest-from_counts}
use Rattle.crypt_core.proofs.ShaCryptLemmas.{length-sha_opening_message}
use Rattle.crypt_core.proofs.shacrypt.opening.Goals as goal

pub feed_digits-requires : goal.feed_digits-requires
feed_digits-requires g c =
    let p = c.args.password.now in
    let b = c.as_slice-b.result.now in
    let small : length b ≤ password_limit = omega (arith, ap length c.as_slice-b.ensures.value, c.alternate_digest-alternate.ensures.length, g.met.H.Counted.at_most_64) in
    omega (
      arith,
      ap (λ m. m.bytes) c.alternate_digest-alternate.ensures.count,
      ap (λ m. m.bytes) c.feed.ensures.count,
      ap (λ m. m.bytes) c.feed-2.ensures.count,
      ap (λ m. m.bytes) c.feed_cycle.ensures.count,
      c.requires.room.1,
      c.requires.password,
      c.requires.salt,
      length-alternate_message p c.args.salt.now,
      length-digit_pieces b p (length p),
      digit_bytes-le-mul (length b) (length p) password_limit (length p) small c.requires.password,
    )

pub returns-clause-count : goal.returns-clause-count
returns-clause-count g c =
    let h = g.H.Counted.digest in
    let p = c.args.password.now in
    let s = c.args.salt.now in
    let b = h (alternate_message p s) in
    let before = c.alternate_digest-alternate.new.meter in
    let last = rw (c.as_slice-b.ensures.value ∙ c.alternate_digest-alternate.ensures.digest) at c.feed_digits.ensures.count in
    let two = bytes-add_add before _ c.feed-2.new.meter _ _ _ c.feed.ensures.count c.feed-2.ensures.count refl in
    let three = bytes-add_add before _ c.feed_cycle.new.meter _ _ _ two c.feed_cycle.ensures.count refl in
    let four = bytes-add_add before _ c.feed_digits.new.meter _ _ _ three last refl in
    with_digest-from_counts before c.feed_digits.new.meter c.finish.new.meter (sha_opening_message h p s) _ four c.finish.ensures.count
    (omega (arith, length-sha_opening_message h p s, length-digit_pieces b p (length p)))
    ∙ ap (λ m. with_digest m (sha_opening_message h p s)) c.alternate_digest-alternate.ensures.count
