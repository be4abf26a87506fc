-- Proves the goals of `answer_lines`, by the lemmas of `LinesRunning`. `lines-init` shows that the invariant of the
-- loop, `IsRunning`, holds at first, and `lines-preserved` that each pass keeps it. The other goals are the clause
-- `runs` at each return, and the preconditions of calls. Each proof names the states of the run, and applies a lemma to
-- what the calls returned.
use Rattle.std.proofs.Common.{◌+◌, arith}
use Rattle.std.proofs.lemmas.Result.{err_from_is_err_and}
use Rattle.run_core.specs.Runs.{run_state}
use Rattle.run_core.proofs.LinesRunning.{RunsLines-flushed, RunsLines-reading_stopped, RunsLines-out_of_memory, RunsLines-flush_failed, RunsLines-written_in_part, GivesNext-line, outcome_from_Renders, HasRoomFor-fewer, IsRunning-answered, IsRunning-start}
use Rattle.run_core.proofs.lines.answer_lines.Goals as goal

pub lines-init : goal.lines-init
lines-init g c =
    let start = run_state c.args.input.now c.args.out.now c.args.faults.now (g.R.Rng.stream c.args.rng.now) c.args.meter.now in
    IsRunning-start c.args.turns c.args.kind c.args.job.now start c.new-reader.result c.new-tally.result
    c.new-reader.ensures.unread c.new-reader.ensures.no_end c.new-tally.ensures c.requires.limit c.requires.devices c.requires.meter

-- ---- reading stopped

pub returns-in_err-next_line-clause-runs : goal.returns-in_err-next_line-clause-runs
returns-in_err-next_line-clause-runs g c =
    let running = c.lines.invariant in
    let p = err_from_is_err_and c.from_residual.result c.from_residual.ensures.1 in
    rw (p.1, p.2) (RunsLines-reading_stopped running c.next_line.new.input c.next_line.new.left c.next_line.ensures.turns c.in_err-next_line.field-0.0
    (c.in_err-next_line.ensures.gives c.args.input.now running.lines running.given))

-- ---- a line is answered

pub answer_line-requires : goal.answer_line-requires
answer_line-requires g c =
    let room = c.lines.invariant.room in
    let lines = room.lines in
    let counts = room.counts in
    record {
      digests = (let count = counts.digests in omega (arith, count, lines));
      bytes = (let count = counts.bytes in omega (arith, count, lines));
      mixes = (let count = counts.mixes in omega (arith, count, lines));
      table = (let count = counts.table in omega (arith, count, lines));
      scratch = (let count = counts.scratch in omega (arith, count, lines));
    }

pub returns-in_err-answer-clause-runs : goal.returns-in_err-answer-clause-runs
returns-in_err-answer-clause-runs g c =
    let running = c.lines.invariant in
    let p = err_from_is_err_and c.from_residual-in_err-answer.result c.from_residual-in_err-answer.ensures.1 in
    let line = GivesNext-line c.next_line.new.left c.args.input.now c.next_line.new.input c.next_line.new.self running.lines c.in_ok-next_line.field-0 c.if-branch.true (c.in_ok-next_line.ensures.gives c.args.input.now running.lines running.given) in
    let got = c.in_err-answer.ensures.decides line.0 line.1 (c.args.job.now.first_line + c.lines.tally.lines) in
    rw (p.1, p.2) (RunsLines-out_of_memory running c.next_line.new.input c.next_line.new.left c.next_line.ensures.turns c.next_line.new.self line.0 line.2 got.0 got.1
    (g.R.Rng.stream c.answer_line.new.rng) c.answer_line.new.meter got.2)

pub count_and_write-requires-clause-out_room : goal.count_and_write-requires-clause-out_room
count_and_write-requires-clause-out_room g c = HasRoomFor-fewer _ _ _ _ c.next_line.ensures.fewer c.lines.invariant.room.out

pub count_and_write-requires-clause-faults_room : goal.count_and_write-requires-clause-faults_room
count_and_write-requires-clause-faults_room g c = HasRoomFor-fewer _ _ _ _ c.next_line.ensures.fewer c.lines.invariant.room.faults

pub returns-in_err-count_and_write-clause-runs : goal.returns-in_err-count_and_write-clause-runs
returns-in_err-count_and_write-clause-runs g c =
    let running = c.lines.invariant in
    let p = err_from_is_err_and c.from_residual-in_err-count_and_write.result c.from_residual-in_err-count_and_write.ensures.1 in
    let line = GivesNext-line c.next_line.new.left c.args.input.now c.next_line.new.input c.next_line.new.self running.lines c.in_ok-next_line.field-0 c.if-branch.true (c.in_ok-next_line.ensures.gives c.args.input.now running.lines running.given) in
    let got = c.in_ok-answer.ensures.decides line.0 line.1 (c.args.job.now.first_line + c.lines.tally.lines) in
    let wrote = c.in_err-count_and_write.ensures in
    rw (p.1, p.2) (RunsLines-written_in_part running c.next_line.new.input c.next_line.new.left c.next_line.ensures.turns c.next_line.new.self line.0 line.2 got.0 got.1
    c.count_and_write.new.out c.count_and_write.new.faults (g.R.Rng.stream c.answer_line.new.rng) c.answer_line.new.meter c.count_and_write.new.left (Unit {0})
    c.in_err-count_and_write.field-0.0 got.4 got.3 (wrote.sends got.0 got.2) wrote.out_moves wrote.faults_moves wrote.failures wrote.calls)

pub lines-preserved : goal.lines-preserved
lines-preserved g c =
    let running = c.lines.invariant in
    let next = c.in_ok-next_line.ensures in
    let line = GivesNext-line c.next_line.new.left c.args.input.now c.next_line.new.input c.next_line.new.self running.lines c.in_ok-next_line.field-0 c.if-branch.true (next.gives c.args.input.now running.lines running.given) in
    let got = c.in_ok-answer.ensures.decides line.0 line.1 (c.args.job.now.first_line + c.lines.tally.lines) in
    let wrote = c.in_ok-count_and_write.ensures in
    let outcome = outcome_from_Renders c.args.job.now (c.args.job.now.first_line + c.lines.tally.lines) c.in_ok-answer.answer got.0 got.2 in
    IsRunning-answered running c.next_line.new.input c.next_line.new.left next.turns c.next_line.new.self line.0 line.2 got.0 got.1
    c.count_and_write.new.out c.count_and_write.new.faults (g.R.Rng.stream c.answer_line.new.rng) c.answer_line.new.meter c.count_and_write.new.left c.count_and_write.new.tally
    c.in_ok-count_and_write.field-0 got.4 got.3 (wrote.sends got.0 got.2) wrote.out_moves wrote.faults_moves wrote.calls wrote.fewer (next.shorter c.if-branch.true)
    (rw outcome c.count_and_write.ensures.tally) next.room wrote.out_room wrote.faults_room c.answer_line.ensures.small

-- ---- all lines were answered

pub returns-in_err-finish_both-clause-runs : goal.returns-in_err-finish_both-clause-runs
returns-in_err-finish_both-clause-runs g c =
    let running = c.lines.invariant in
    let p = err_from_is_err_and c.from_residual-in_err-finish_both.result c.from_residual-in_err-finish_both.ensures.1 in
    rw (p.1, p.2) (RunsLines-flush_failed running c.next_line.new.input c.next_line.new.left c.next_line.ensures.turns c.next_line.new.self
    c.finish_both.new.out c.finish_both.new.faults (Unit {0}) c.in_err-finish_both.field-0.0 c.in_ok-next_line.field-0 c.if-branch.false
    (c.in_ok-next_line.ensures.gives c.args.input.now running.lines running.given) c.in_err-finish_both.ensures.finishes)

pub returns-clause-runs : goal.returns-clause-runs
returns-clause-runs g c =
    let running = c.lines.invariant in
    (RunsLines-flushed running c.next_line.new.input c.next_line.new.left c.next_line.ensures.turns c.next_line.new.self
    c.finish_both.new.out c.finish_both.new.faults c.in_ok-finish_both.field-0 c.in_ok-next_line.field-0 c.if-branch.false
    (c.in_ok-next_line.ensures.gives c.args.input.now running.lines running.given) c.in_ok-finish_both.ensures.finishes)
