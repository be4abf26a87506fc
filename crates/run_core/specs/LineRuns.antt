-- The lines of an input, and how a run over them ends.
use Rattle.std.specs.Prelude.{◌≡◌, ℕ, ◌<◌, ◌==◌, ◌⊎◌, List, [], ◌∷◌, ◌++◌, length, flat_map, Result}
use Rattle.std.specs.List.{slice_split, AllByRecursion}
use Rattle.std.specs.Io.KnownBytes.{IsAtEnd}
use Rattle.run_core.specs.Input.{Reads}
use Rattle.run_core.specs.LineAnswers.{AreAnswers}
use Rattle.run_core.specs.Runs.{EndsBy, IsWithinTurns, RunState}
use Rattle.run_core.specs.Texts.{HasNoLineFeed, line_feed}
use Rattle.run_core.specs.declared.fault.RunFault.{RunFault}
use Rattle.run_core.specs.declared.job.Job.{Job}
use Rattle.run_core.specs.declared.line.Kind.{Kind}
use Rattle.run_core.specs.declared.tally.Tally.{Tally}

-- without_empty_end parts is the list without its last part if that part is empty.
abbrev pub without_empty_end : List (List ℕ) → List (List ℕ)
without_empty_end [] = []
without_empty_end ([] ∷ []) = []
without_empty_end ((b ∷ bs) ∷ []) = (b ∷ bs) ∷ []
without_empty_end (part ∷ next ∷ parts) = part ∷ without_empty_end (next ∷ parts)

-- lines_of input is the list of the lines of the input, which is split at its line feeds. What follows the last line
-- feed is a line only if it is not empty.
unfoldable pub lines_of : List ℕ → List (List ℕ)
lines_of input = without_empty_end (slice_split (λ b. b == line_feed) input)

-- HasLines bytes lines rest: the bytes are these lines, each with a line feed after it, followed by `rest`.
abbrev pub HasLines : List ℕ → List (List ℕ) → List ℕ → Type 0
HasLines bytes lines rest = (bytes ≡ flat_map (λ line. line ++ line_feed ∷ []) lines ++ rest) × AllByRecursion HasNoLineFeed lines

-- piece_size is the number of bytes that one `fetch` asks for.
abbrev pub piece_size : ℕ
piece_size = 512

-- EndsLines turns kind job old new result: a run over lines, which has read `bytes`, ends with this result. It
-- finishes, stops while it reads, or stops at an answer.
--   finishes       at the end of the input, after the answers to all lines
--   stops reading  after the answers to all lines whose line feed was read
--   stops at       the answer to a line whose line feed is among the last `piece_size` bytes that were read, or, at the
--                  end of the input, the answer to the last line
abbrev pub EndsLines : {I O E : Type 0} → ℕ → Kind → Job → RunState I O E → RunState I O E → Result Tally RunFault → Type 0
EndsLines turns kind job old new result = (bytes : List ℕ) × Reads old.input new.input bytes × EndsBy
    (λ answers. IsAtEnd new.input.shown × AreAnswers kind job job.first_line (lines_of bytes) old.stream answers)
    (λ done. (lines : List (List ℕ)) × (rest : List ℕ) × HasLines bytes lines rest × HasNoLineFeed rest
    × AreAnswers kind job job.first_line lines old.stream done)
    (λ answers. (lines : List (List ℕ)) × AreAnswers kind job job.first_line lines old.stream answers
    × (((rest : List ℕ) × HasLines bytes lines rest × (length rest < piece_size)) ⊎ (IsAtEnd new.input.shown × (lines ≡ lines_of bytes))))
    (λ fault. ⊥) turns old new result

-- RunsLines turns kind job old new result: a run over lines ends with this result, within `turns` I/O calls.
pub record RunsLines {I O E : Type 0} (turns : ℕ) (kind : Kind) (job : Job) (old new : RunState I O E) (result : Result Tally RunFault) : Type 0 where
  pub ends : EndsLines turns kind job old new result
  pub within_turns : IsWithinTurns turns old new
