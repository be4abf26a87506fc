-- Limits on the counts and texts of a run, within which nothing overflows.
use Rattle.std.specs.Prelude.{ℕ, ◌^◌, ◌+◌, ◌*◌, ◌≤◌, List, length}
use Rattle.prims_core.specs.Work.{IsAtMost}
use Rattle.prims_core.specs.declared.meter.Work.{Work}
use Rattle.crypt_core.specs.TextLimits.{hash_limit}
use Rattle.crypt_core.specs.Work.{work_limit}
use Rattle.run_core.specs.Devices.{Device, turns_limit}
use Rattle.run_core.specs.Lines.{name_limit}
use Rattle.run_core.specs.LineRuns.{piece_size}
use Rattle.run_core.specs.Runs.{RunState}
use Rattle.run_core.specs.declared.tally.Tally.{Tally}

-- line_work_limit is more than any count of the work for one line, which takes at most two hashes.
abbrev pub line_work_limit : ℕ
line_work_limit = 2 * work_limit

-- front_limit is the maximum length of a name and its colon.
abbrev pub front_limit : ℕ
front_limit = name_limit + 1

-- verdict_front_limit is the maximum length of a name, its colon and `ok`.
abbrev pub verdict_front_limit : ℕ
verdict_front_limit = front_limit + 2

-- count_limit is the maximum length of a count, which is a colon and a 64-bit number.
abbrev pub count_limit : ℕ
count_limit = 21

-- number_limit is the maximum number of digits of a 32-bit number.
abbrev pub number_limit : ℕ
number_limit = 10

-- rounds_limit is the maximum length of the rounds in a finding: for scrypt, three numbers with two slashes between
-- them.
abbrev pub rounds_limit : ℕ
rounds_limit = 3 * number_limit + 2

-- finding_limit is the maximum length of a finding: the name of a method, a colon and the rounds, a count, a colon and
-- a standing. A method's name has at most 11 bytes (`sha512crypt`), and so has a standing (`over budget`).
abbrev pub finding_limit : ℕ
finding_limit = 11 + 1 + rounds_limit + count_limit + 1 + 11

-- answer_limit is the maximum length of an answer: a name, `:ok:`, a hash, four counts and a line feed.
abbrev pub answer_limit : ℕ
answer_limit = verdict_front_limit + 1 + hash_limit + 4 * count_limit + 1

-- HasRoomFor size left device: no count of the device can overflow in the `left` I/O calls that are left, if each moves
-- at most `size` bytes, or in one more such call.
pub record HasRoomFor {T : Type 0} (size left : ℕ) (device : Device T) : Type 0 where
  pub failures : device.failures ≤ 2 ^ 62
  pub calls : device.calls + left ≤ 2 ^ 63
  pub bytes : device.bytes + size * (left + 1) ≤ 2 ^ 63

-- HasCountsForLine counts: no count can overflow while the hashes of one more line are computed. Each hash needs counts
-- of at most 2^120 (`HasRoom`), and a run over lines keeps them below 2^110 (`HasRoomForLines`).
abbrev pub HasCountsForLine : Work → Type 0
HasCountsForLine counts = IsAtMost counts (2 ^ 110)

-- to_read left piece is the maximum number of bytes that a run can still split into lines, with this number of I/O
-- calls left: the unused bytes of the last read, and those of later reads. It is lower after each line.
abbrev pub to_read : ℕ → List ℕ → ℕ
to_read left piece = piece_size * left + length piece

-- lines_limit is a bound on the number of lines of a run, since each line takes at least one byte.
abbrev pub lines_limit : ℕ
lines_limit = piece_size * turns_limit

-- HasRoomForLines left piece tally now: with `left` I/O calls and the unused bytes `piece` of the last read, nothing
-- can overflow in the rest of a run over lines.
pub record HasRoomForLines {I O E : Type 0} (left : ℕ) (piece : List ℕ) (tally : Tally) (now : RunState I O E) : Type 0 where
  pub lines : tally.lines + to_read left piece ≤ lines_limit
  pub refused : tally.refused ≤ tally.lines
  pub misfits : tally.misfits ≤ tally.lines
  pub input : HasRoomFor piece_size left now.input
  pub out : HasRoomFor answer_limit left now.out
  pub faults : HasRoomFor answer_limit left now.faults
  pub flushes : (now.out.flushes ≤ 2 ^ 62) × (now.faults.flushes ≤ 2 ^ 62)
  pub counts : IsAtMost now.counts (2 ^ 100 + line_work_limit * tally.lines)
