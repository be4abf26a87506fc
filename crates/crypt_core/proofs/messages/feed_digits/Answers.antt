-- Proves the clauses `message` and `count` of `feed_digits`. Each iteration of the loop feeds the piece for the lowest
-- binary digit and halves the number. `digit_pieces` splits in the same way (CycleLemmas), so the pieces that were fed
-- and those of the number that is left are always all pieces. The precondition bounds the bytes of all pieces, so no
-- feed overflows the count.
use Rattle.std.proofs.Common.{◌≡◌, ℕ, ◌/◌, ◌%◌, List, [], ◌++◌, length, arith, refl, sym, ◌∙◌, ap, append_assoc, rules}
use Rattle.std.proofs.lemmas.List.{append-nil, length-append}
use Rattle.crypt_core.specs.Cycle.{by_digit, digit_pieces}
use Rattle.crypt_core.proofs.CycleLemmas.{digit_pieces-step, digit_pieces-zero}
use Rattle.crypt_core.proofs.CountSums.{bytes-add_add, bytes-add_zero}
use Rattle.crypt_core.proofs.messages.feed_digits.Goals.{then-rest-eq1, else-rest-eq1}
use Rattle.crypt_core.proofs.messages.feed_digits.Goals as goal

pub digits-init : goal.digits-init
digits-init g c = ([], (λ m h. rw append-nil h), refl, bytes-add_zero c.args.meter.now)

pub feed-requires : goal.feed-requires
feed-requires g c =
    let one = c.args.one.now in
    let other = c.args.other.now in
    let n = c.digits.rest in
    let piece = by_digit one other (n % 2) in
    let half = digit_pieces one other (n / 2) in
    let fed = c.digits.invariant.0 in
    let fed_bytes = ap (λ m. m.bytes) c.digits.invariant.3 in
    let all_bytes = ap length (rw (digit_pieces-step one other n c.digits-test.true) at c.digits.invariant.2) in
    let piece_is : c.if-rest-eq1.piece.now ≡ piece = elim c.if-rest-eq1.branch [
      | then-rest-eq1 w ↦ search rules
      | else-rest-eq1 w ↦ search rules
    ] in
    rw piece_is (omega (arith, fed_bytes, all_bytes, c.requires, length-append fed (piece ++ half), length-append piece half))

pub digits-preserved : goal.digits-preserved
digits-preserved g c =
    let one = c.args.one.now in
    let other = c.args.other.now in
    let n = c.digits.rest in
    let fed = c.digits.invariant.0 in
    let piece = c.if-rest-eq1.piece.now in
    let piece_is : piece ≡ by_digit one other (n % 2) = elim c.if-rest-eq1.branch [
      | then-rest-eq1 w ↦ search rules
      | else-rest-eq1 w ↦ search rules
    ] in
    let half = digit_pieces one other (n / 2) in
    let split = rw (digit_pieces-step one other n c.digits-test.true, ← piece_is) at c.digits.invariant.2 in (
      fed ++ piece,
      (λ m h. rw (← append_assoc) (c.feed.ensures.message _ (c.digits.invariant.1 m h))),
      append_assoc fed piece half ∙ split,
      bytes-add_add c.args.meter.now c.digits.meter c.feed.new.meter _ _ _ c.digits.invariant.3 c.feed.ensures.count (sym (length-append fed piece)),
    )

-- Once the number that is left is 0, all pieces have been fed.
append-digit_pieces_none_left : (one other fed all : List ℕ) (n : ℕ) → n ≡ 0 → fed ++ digit_pieces one other n ≡ all → fed ≡ all
append-digit_pieces_none_left one other fed all n none e =
    sym (append-nil fed) ∙ (ap (λ rest. fed ++ rest) (sym (digit_pieces-zero one other)) ∙ (ap (λ k. fed ++ digit_pieces one other k) (sym none) ∙ e))

-- The clause `message`: if the running digest held the message `m` before (`h`), it then holds `m` and all pieces.
pub returns-clause-message : goal.returns-clause-message
returns-clause-message g c = λ m h.
    let fed = c.digits.invariant.0 in
    rw (← append-digit_pieces_none_left c.args.one.now c.args.other.now fed _ c.digits.rest (omega arith) c.digits.invariant.2) (c.digits.invariant.1 m h)

pub returns-clause-count : goal.returns-clause-count
returns-clause-count g c =
    let fed = c.digits.invariant.0 in
    rw (← append-digit_pieces_none_left c.args.one.now c.args.other.now fed _ c.digits.rest (omega arith) c.digits.invariant.2) c.digits.invariant.3
