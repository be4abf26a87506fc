-- The invariant of the loop in `read_first_line` is `IsReading`: the buffer holds `filled` bytes, none of them a line
-- feed. The loop ends since each pass fills more of the buffer.
use Rattle.std.proofs.Common.{length, ◌-◌}
use Rattle.run_core.proofs.FirstLineReading.{IsReading}
use Rattle.run_core.proofs.one.password.read_first_line.Given as goal

abbrev pub invariant-fetches : goal.invariant-fetches
invariant-fetches g l = IsReading l.fn.input l.input l.buffer l.filled l.fn.left l.left

abbrev pub decreases-fetches : goal.decreases-fetches
decreases-fetches g l = length l.buffer - l.filled
