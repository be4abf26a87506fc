-- Proves the goals of `read_first_line`. For each return, and for the pass that keeps the invariant of the loop, a
-- lemma of `FirstLineReading` is applied to what `fetch_after` and `line_feed_at` returned.
use Rattle.std.proofs.Common.{arith, sym, ◌∙◌}
use Rattle.std.proofs.lemmas.Result.{err_from_is_err_and}
use Rattle.run_core.proofs.FirstLineReading.{FindsLine-stopped, FindsLine-end_of_input, FindsLine-line_feed, FindsLine-full_buffer, IsReading-fetched}
use Rattle.run_core.proofs.one.password.read_first_line.Goals as goal

pub returns-in_err-count-clause-read : goal.returns-in_err-count-clause-read
returns-in_err-count-clause-read g c =
    let p = err_from_is_err_and c.from_residual.result c.from_residual.ensures.1 in rw (p.1, p.2) (
    FindsLine-stopped c.args.input.now c.fetches.input c.fetch_after.new.input c.fetches.buffer c.fetch_after.new.buffer c.fetches.filled c.args.left.now c.fetches.left c.fetch_after.new.left c.in_err-count.field-0.0
    c.fetches.invariant (omega arith) c.in_err-count.ensures.fetches c.in_err-count.ensures.takes_turn)

pub returns-in-Some-clause-read : goal.returns-in-Some-clause-read
returns-in-Some-clause-read g c =
    FindsLine-line_feed c.args.input.now c.fetches.input c.fetch_after.new.input c.fetches.buffer c.fetch_after.new.buffer c.fetches.filled c.in_ok-count.count c.args.left.now c.fetches.left c.fetch_after.new.left c.in-Some.at
    (record { before = c.fetches.invariant; room = omega arith; size = omega arith; kept = c.in_ok-count.ensures.kept; fetched = c.in_ok-count.ensures.fetches })
    (sym c.line_feed_at.ensures ∙ c.in-Some.is)

pub returns-then-count-eq0-clause-read : goal.returns-then-count-eq0-clause-read
returns-then-count-eq0-clause-read g c =
    FindsLine-end_of_input c.args.input.now c.fetches.input c.fetch_after.new.input c.fetches.buffer c.fetch_after.new.buffer c.fetches.filled c.in_ok-count.count c.args.left.now c.fetches.left c.fetch_after.new.left
    (record { before = c.fetches.invariant; room = omega arith; size = omega arith; kept = c.in_ok-count.ensures.kept; fetched = c.in_ok-count.ensures.fetches })
    (sym c.line_feed_at.ensures ∙ c.in_default.is) c.if-count-eq0.true

pub fetches-preserved : goal.fetches-preserved
fetches-preserved g c =
    IsReading-fetched c.args.input.now c.fetches.input c.fetch_after.new.input c.fetches.buffer c.fetch_after.new.buffer c.fetches.filled c.in_ok-count.count c.args.left.now c.fetches.left c.fetch_after.new.left
    (record { before = c.fetches.invariant; room = omega arith; size = omega arith; kept = c.in_ok-count.ensures.kept; fetched = c.in_ok-count.ensures.fetches })
    (sym c.line_feed_at.ensures ∙ c.in_default.is) c.if-count-eq0.false c.in_ok-count.ensures.takes_turn c.in_ok-count.ensures.turns

pub returns-clause-read : goal.returns-clause-read
returns-clause-read g c =
    FindsLine-full_buffer c.args.input.now c.fetches.input c.fetches.buffer c.fetches.filled c.args.left.now c.fetches.left c.fetches.invariant (omega arith)
