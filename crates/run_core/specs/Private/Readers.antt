-- What a reader of lines has read, and which lines it has returned.
use Rattle.std.specs.Prelude.{◌≡◌, ℕ, ◌<◌, Bool, true, false, List, [], ◌∷◌, ◌++◌, length, Result, Ok, Err}
use Rattle.std.specs.Io.KnownBytes.{IsAtEnd}
use Rattle.run_core.specs.DeviceCalls.{as_count}
use Rattle.run_core.specs.Devices.{Device, MovesBytes}
use Rattle.run_core.specs.Input.{Reads}
use Rattle.run_core.specs.LineRuns.{HasLines, lines_of, piece_size}
use Rattle.run_core.specs.Private.Deliveries.{IsUnfailed}
use Rattle.run_core.specs.Private.Fetching.{StopsFetching}
use Rattle.run_core.specs.Private.Lines.{Represents}
use Rattle.run_core.specs.Texts.{HasNoLineFeed, line_feed}
use Rattle.run_core.specs.declared.fault.RunFault.{RunFault}
use Rattle.run_core.specs.declared.reader.LineReader.{LineReader}
use Rattle.run_core.specs.declared.reader.buffer.LineBuffer.{LineBuffer}

-- ---- one read

-- TakesLine old new buffer new_buffer found: the bytes before the first line feed were moved into the buffer, or all
-- bytes if there is no line feed. `found` says whether there is one.
abbrev pub TakesLine : List ℕ → List ℕ → LineBuffer → LineBuffer → Bool → Type 0
TakesLine old new buffer new_buffer true = (front : List ℕ) × (old ≡ front ++ line_feed ∷ new) × HasNoLineFeed front
    × ((part : List ℕ) → Represents buffer part → Represents new_buffer (part ++ front))
TakesLine old new buffer new_buffer false = (new ≡ []) × HasNoLineFeed old
    × ((part : List ℕ) → Represents buffer part → Represents new_buffer (part ++ old))

-- FetchesPiece left old new piece result: one `fetch` read the bytes `piece` and returned this result.
--   true   no call failed, and the read returned a byte
--   false  the input is at its end
--   Err    nothing was read
abbrev pub FetchesPiece : {I : Type 0} → ℕ → Device I → Device I → List ℕ → Result Bool RunFault → Type 0
FetchesPiece left old new piece (Ok true) = IsUnfailed old new × MovesBytes 0 old new
FetchesPiece left old new piece (Ok false) = IsUnfailed old new × MovesBytes 1 old new × (piece ≡ []) × IsAtEnd new.shown
FetchesPiece left old new piece (Err fault) = (piece ≡ []) × StopsFetching left old new fault

-- ---- lines

module _ {I : Type 0} where
  -- IsAt now piece at_end lines bytes: if `at_end` is false, the bytes are these lines, each with its line feed, and
  -- then `piece`, which has fewer than `piece_size` bytes. If `at_end` is true, the input is at its end, and these are
  -- all lines of the bytes, of which the last may lack its line feed.
  abbrev pub IsAt : Device I → List ℕ → Bool → List (List ℕ) → List ℕ → Type 0
  IsAt now piece false lines bytes = HasLines bytes lines piece × (length piece < piece_size)
  IsAt now piece true lines bytes = IsAtEnd now.shown × (lines ≡ lines_of bytes)

  -- HasGiven start now reader lines: the reader has returned these lines, and no call failed.
  pub record HasGiven (start now : Device I) (reader : LineReader) (lines : List (List ℕ)) : Type 0 where
    pub bytes : List ℕ
    pub reads : Reads start now bytes
    pub unfailed : IsUnfailed start now
    pub moves : MovesBytes (as_count reader.at_end) start now
    pub at : IsAt now reader.piece reader.at_end lines bytes

  -- HasStopped left start now lines fault: reading stopped, because a read failed or no I/O call was left. The bytes
  -- that were read are these lines, each with its line feed, and a rest without a line feed.
  pub record HasStopped (left : ℕ) (start now : Device I) (lines : List (List ℕ)) (fault : RunFault) : Type 0 where
    pub bytes : List ℕ
    pub rest : List ℕ
    pub reads : Reads start now bytes
    pub has : HasLines bytes lines rest
    pub no_feed : HasNoLineFeed rest
    pub stops : StopsFetching left start now fault

  -- GivesNext left start now reader lines result: the reader returned the next line, or there is none, or reading
  -- stopped.
  abbrev pub GivesNext : ℕ → Device I → Device I → LineReader → List (List ℕ) → Result Bool RunFault → Type 0
  GivesNext left start now reader lines (Ok true) =
      (line : List ℕ) × Represents reader.buffer line × HasGiven start now reader (lines ++ line ∷ [])
  GivesNext left start now reader lines (Ok false) = (reader.at_end ≡ true) × HasGiven start now reader lines
  GivesNext left start now reader lines (Err fault) = HasStopped left start now lines fault
