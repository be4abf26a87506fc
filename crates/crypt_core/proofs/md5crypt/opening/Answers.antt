-- Proves the clause `count` of `opening` in src/md5crypt.rt, and that feeding the last piece overflows no count. The
-- lengths of the five pieces are added up one by one (CountSums), and their sum is the length of `opening_message`.
use Rattle.std.proofs.Common.{◌≡◌, ℕ, List, [], ◌∷◌, length, take, arith, refl, ◌∙◌, ap}
use Rattle.std.proofs.lemmas.List.{take_min}
use Rattle.std.proofs.Math.Nat.{min_comm}
use Rattle.std.specs.Prelude.{min}
use Rattle.crypt_core.specs.Cycle.{digit_pieces}
use Rattle.crypt_core.specs.Md5crypt.{opening_message}
use Rattle.crypt_core.specs.Private.Messages.{with_digest}
use Rattle.crypt_core.proofs.CycleLemmas.{digit_bytes-le-mul}
use Rattle.crypt_core.proofs.Md5cryptLemmas.{length-digit_pieces_of_password, length-opening_message}
use Rattle.crypt_core.proofs.MessageLists.{length-alternate_message}
use Rattle.crypt_core.proofs.CountSums.{bytes-add_add, with_digest-from_counts}
use Rattle.crypt_core.proofs.md5crypt.opening.Goals as goal

-- Taking as many bytes as the smaller of the password's length and 1 takes its first byte, or nothing of an empty
-- password.
take-min_one : (p : List ℕ) (n : ℕ) → n ≡ min (length p) 1 → take n p ≡ take 1 p
take-min_one p n n_is_min = rw (n_is_min, min_comm (length p) 1) (take_min 1 p)

pub feed_digits-requires : goal.feed_digits-requires
feed_digits-requires c =
    let p = c.args.password.now in
    let first = take-min_one p c.min.result c.min.ensures in
    omega (
      arith,
      ap (λ m. m.bytes) c.alternate_digest-alternate.ensures.count,
      ap (λ m. m.bytes) c.feed.ensures.count,
      ap (λ m. m.bytes) c.feed-2.ensures.count,
      ap (λ m. m.bytes) c.feed-3.ensures.count,
      ap (λ m. m.bytes) c.feed_cycle.ensures.count,
      c.requires.room.1,
      c.requires.password,
      c.requires.salt,
      length-alternate_message p c.args.salt.now,
      ap (λ other. length (digit_pieces (0 ∷ []) other (length p))) first,
      length-digit_pieces_of_password p,
      digit_bytes-le-mul 1 1 1 (length p) (omega arith) (omega arith),
      ap length c.row.ensures.prefix,
    )

pub returns-clause-count : goal.returns-clause-count
returns-clause-count c =
    let p = c.args.password.now in
    let s = c.args.salt.now in
    let before = c.alternate_digest-alternate.new.meter in
    let last = rw (take-min_one p c.min.result c.min.ensures) at c.feed_digits.ensures.count in
    let two = bytes-add_add before _ c.feed-2.new.meter _ _ _ c.feed.ensures.count c.feed-2.ensures.count refl in
    let three = bytes-add_add before _ c.feed-3.new.meter _ _ _ two c.feed-3.ensures.count refl in
    let four = bytes-add_add before _ c.feed_cycle.new.meter _ _ _ three c.feed_cycle.ensures.count refl in
    let five = bytes-add_add before _ c.feed_digits.new.meter _ _ _ four last refl in
    with_digest-from_counts before c.feed_digits.new.meter c.finish.new.meter (opening_message p s) _ five c.finish.ensures.count
    (omega (arith, length-opening_message p s, length-digit_pieces_of_password p, ap length c.row.ensures.prefix))
    ∙ ap (λ m. with_digest m (opening_message p s)) c.alternate_digest-alternate.ensures.count
