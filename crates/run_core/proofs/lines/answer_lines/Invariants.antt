-- The invariant of the loop in `answer_lines` is `IsRunning`, between the state at the call and the present state. The
-- loop ends since each pass lowers `to_read`, the number of bytes that can still be split into lines.
use Rattle.run_core.specs.Runs.{run_state}
use Rattle.run_core.specs.Private.Headroom.{to_read}
use Rattle.run_core.proofs.LinesRunning.{IsRunning}
use Rattle.run_core.proofs.lines.answer_lines.Given as goal

abbrev pub invariant-lines : goal.invariant-lines
invariant-lines g l = IsRunning l.fn.turns l.fn.kind l.fn.job
    (run_state l.fn.input l.fn.out l.fn.faults (g.R.Rng.stream l.fn.rng) l.fn.meter)
    (run_state l.input l.out l.faults (g.R.Rng.stream l.rng) l.meter) l.reader l.tally l.left

abbrev pub decreases-lines : goal.decreases-lines
decreases-lines g l = to_read l.left l.reader.piece
