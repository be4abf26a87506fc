-- Proves the goals of `LineReader::next_line`. For each exit of the loop, and for the pass that keeps its invariant, a
-- lemma of `LineReading` is applied to what `take_line` and `fetch` returned. The prover finds the proof for a reader
-- that is already at the end of its input.
use Rattle.std.proofs.Common.{true, refl, arith}
use Rattle.std.proofs.lemmas.Result.{err_from_is_err_and}
use Rattle.run_core.proofs.LineReading.{HasRoomFor-fetched, GivesNext-end_of_input, HasStopped-fetch_failed, GivesNext-line_feed, IsSeeking-fetched}
use Rattle.run_core.proofs.reader.LineReader.next_line.Goals as goal

pub returns-in_err-fetch-clause-gives : goal.returns-in_err-fetch-clause-gives
returns-in_err-fetch-clause-gives g c start lines given =
    let p = err_from_is_err_and c.from_residual.result c.from_residual.ensures.1 in
    let got = c.in_err-fetch.ensures in
    rw (p.1, p.2) (HasStopped-fetch_failed start c.fetches.input c.fetch.new.input c.fetches.self.piece c.take_line.new.self c.fetch.new.self c.fetches.self.buffer c.take_line.new.buffer
    lines c.fetches.left c.fetch.new.left c.in_err-fetch.field-0.0 c.fetches-test.ensures.takes got.reads got.fetches got.takes_turn (c.fetches.invariant.seeking start lines given))

pub returns-then-not-branch-clause-gives : goal.returns-then-not-branch-clause-gives
returns-then-not-branch-clause-gives g c start lines given =
    let got = c.in_ok-fetch.ensures in
    GivesNext-end_of_input start c.fetches.input c.fetch.new.input c.fetches.self.piece c.take_line.new.self c.fetches.self.buffer
    (record { piece = c.fetch.new.self; buffer = c.take_line.new.buffer; at_end = true })
    lines c.fetches.left c.fetch.new.left c.in_ok-fetch.field-0 c.is_empty.result c.if-not-branch.true refl c.fetches-test.ensures.takes got.reads got.fetches
    c.is_empty.ensures (c.fetches.invariant.seeking start lines given)

pub fetches-preserved : goal.fetches-preserved
fetches-preserved g c =
    let got = c.in_ok-fetch.ensures in
    let is = c.fetches.invariant in
    record {
      more = is.more;
      seeking = λ start lines given. IsSeeking-fetched start c.fetches.input c.fetch.new.input c.fetches.self.piece c.take_line.new.self c.fetch.new.self c.fetches.self.buffer c.take_line.new.buffer
          lines c.fetches.left c.in_ok-fetch.field-0 c.if-not-branch.false c.fetches-test.ensures.takes got.reads got.fetches (is.seeking start lines given);
      room = HasRoomFor-fetched c.fetches.input c.fetch.new.input c.fetch.new.self c.fetches.left c.fetch.new.left c.in_ok-fetch.field-0 is.room got.reads got.fetches got.size got.some_left got.takes_turn got.turns;
      calls = (let calls = is.calls in omega (arith, calls, got.turns));
      fewer = (let fewer = is.fewer in omega (arith, fewer, got.takes_turn));
      shorter = (let shorter = is.shorter in omega (arith, shorter, got.takes_turn, got.some_left, got.size));
    }

pub returns-clause-gives : goal.returns-clause-gives
returns-clause-gives g c start lines given =
    let test = c.fetches-test.ensures in
    GivesNext-line_feed start c.fetches.input c.fetches.self.piece c.fetches.self.buffer
    (record { piece = c.take_line.new.self; buffer = c.take_line.new.buffer; at_end = c.fetches.self.at_end })
    lines c.fetches.left c.fetches.invariant.more test.takes test.size (c.fetches.invariant.seeking start lines given)
