-- Proves the goals of `send`. The invariant of its loop, `IsUnderWay`, holds at first, and each `give` that took bytes
-- keeps it. The clause `some_turn` says that sending a text that isn't empty uses at least one I/O call: if no call was
-- used, `rest` is still the whole text, and at the end `rest` is empty, so the text was empty.
use Rattle.std.proofs.Common.{◌≡◌, arith, ap, length, inl, inr, sym, ◌∙◌}
use Rattle.std.proofs.lemmas.Bool.{cases_lt, eqb-true}
use Rattle.std.proofs.lemmas.List.{take_rest}
use Rattle.run_core.proofs.SentTexts.{IsUnderWay-start, IsUnderWay-step}
use Rattle.run_core.proofs.transfer.send.Goals as goal

pub pieces-init : goal.pieces-init
pieces-init g c = IsUnderWay-start c.args.out.now c.args.text.now c.args.left.now

pub pieces-preserved : goal.pieces-preserved
pieces-preserved g c =
    let gave = c.in-Ok.ensures in
    IsUnderWay-step c.args.out.now c.pieces.out c.give.new.self c.args.text.now c.pieces.rest.now _ c.args.left.now c.pieces.left c.in-Ok.count
    c.pieces.invariant (omega arith) c.if-count-gt0.true gave.within gave.takes gave.failures gave.calls gave.bytes gave.idle gave.unflushed
    (take_rest c.pieces.rest.now c.in-Ok.count)

pub returns-clause-some_turn : goal.returns-clause-some_turn
returns-clause-some_turn g c some =
    let under_way = c.pieces.invariant in
    let fewer = under_way.fewer in
    elim (cases_lt c.pieces.left c.args.left.now) [
      | inl less ↦ less
      | inr most ↦ absurd (let none : length c.pieces.rest.now ≡ 0 = eqb-true _ _ (sym c.is_empty.ensures ∙ c.pieces-test.false) in
          omega (arith, some, none, ap length (under_way.untried (omega arith))))
    ]
