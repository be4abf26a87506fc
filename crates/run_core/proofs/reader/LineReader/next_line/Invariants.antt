-- The invariant of the loop in `LineReader::next_line` is `SeeksNextLine`. The loop ends since each pass uses an I/O
-- call.
use Rattle.run_core.proofs.LineReading.{SeeksNextLine}
use Rattle.run_core.proofs.reader.LineReader.next_line.Given as goal

abbrev pub invariant-fetches : goal.invariant-fetches
invariant-fetches g l = SeeksNextLine l.fn.self l.fn.input l.input l.self l.fn.left l.left

abbrev pub decreases-fetches : goal.decreases-fetches
decreases-fetches g l = l.left
