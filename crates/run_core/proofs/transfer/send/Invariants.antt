-- The invariant of the loop in `send` is `IsUnderWay`: all bytes before `rest` were taken. The loop ends since each
-- pass takes bytes from `rest`.
use Rattle.std.proofs.Common.{length}
use Rattle.run_core.proofs.SentTexts.{IsUnderWay}
use Rattle.run_core.proofs.transfer.send.Given as goal

abbrev pub invariant-pieces : goal.invariant-pieces
invariant-pieces g l = IsUnderWay l.fn.out l.out l.text l.rest l.fn.left l.left

abbrev pub decreases-pieces : goal.decreases-pieces
decreases-pieces g l = length l.rest
