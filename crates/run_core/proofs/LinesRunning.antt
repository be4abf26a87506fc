-- Lemmas for the clause `runs` of `answer_lines`, and so of `run_batch`, `run_check` and `run_audit`. The invariant of
-- the loop is `IsRunning`: each line that the reader has returned is answered, the outputs have taken these answers and
-- nothing else, and no count can overflow in the rest of the run. `IsRunning-start` shows that it holds at first, and
-- `IsRunning-answered` that it still holds when one more answer is written. For each exit of the loop, a lemma shows
-- `RunsLines`: reading stopped, scrypt could not allocate memory, an answer was written only in part, or all lines are
-- answered and both outputs were flushed, or a flush failed. Where the run stops at an answer, the case of `EndsBy` is
-- the third, `inr (inr (inl ..))`. In it, `inl` is a failed write, `inr (inl ..)` that no I/O call was left, and
-- `inr (inr ..)` that scrypt could not allocate memory.
use Rattle.std.proofs.Common.{◌≡◌, ℕ, ◌+◌, ◌*◌, ◌^◌, ◌≤◌, ◌<◌, ◌⊎◌, Bool, true, false, MatchBool, List, [], ◌∷◌, ◌++◌, length, Result, Ok, Err, refl, sym, ap, subst, ◌∙◌, add-zero, append-nil, arith, inl, inr}
use Rattle.std.specs.Io.KnownBytes.{IsAtEnd}
use Rattle.std.proofs.Math.Nat.{mul-le-mul_left}
use Rattle.rand_core.specs.Stream.{Stream}
use Rattle.prims_core.specs.Work.{IsAtMost}
use Rattle.prims_core.specs.declared.meter.Work.{Work}
use Rattle.run_core.specs.Answers.{Answer, IsRefusedAmong, after_work, fault_texts, hashings_of, is_misfit, is_refusal, stream_left, tally_of, texts}
use Rattle.run_core.specs.DeviceCalls.{as_count}
use Rattle.run_core.specs.Devices.{Device, HasRoomBeforeRun, MovesBytes, turns_limit}
use Rattle.run_core.specs.LineAnswers.{AreAnswers, IsAnswer}
use Rattle.run_core.specs.LineRuns.{RunsLines, HasLines, lines_of, piece_size}
use Rattle.run_core.specs.Output.{Takes, TakesFront}
use Rattle.run_core.specs.Private.Answers.{IsRaisedBelow, Renders, counted, outcome_of}
use Rattle.run_core.specs.Private.Deliveries.{FinishesBoth, HasSameContents, IsFinished, IsUnfinished, Sends}
use Rattle.run_core.specs.Private.Fetching.{StopsFetching}
use Rattle.run_core.specs.Private.Headroom.{HasRoomFor, HasRoomForLines, answer_limit, line_work_limit, to_read}
use Rattle.run_core.specs.Private.Lines.{Represents}
use Rattle.run_core.specs.Private.Readers.{GivesNext, HasGiven, HasStopped, IsAt}
use Rattle.run_core.specs.Runs.{IsAfter, IsWithinTurns, RunState, TakeInPart, calls_of, run_state}
use Rattle.run_core.specs.declared.answer.Answered.{Answered}
use Rattle.run_core.specs.declared.fault.RunFault.{RunFault}
use Rattle.run_core.specs.declared.fault.RunFault.TheVariants.{OutOfMemory}
use Rattle.run_core.specs.declared.job.Job.{Job}
use Rattle.run_core.specs.declared.line.Kind.{Kind}
use Rattle.run_core.specs.declared.line.LineFault.{LineFault}
use Rattle.run_core.specs.declared.reader.LineReader.{LineReader}
use Rattle.run_core.specs.declared.tally.Tally.{Tally}
use Rattle.run_core.proofs.Flushes.{HasAnswered, Finishes-flushed, Finishes-flush_failed}
use Rattle.run_core.proofs.LineAnswering.{AreAnswers-push, after_work-push, fault_texts-push, length_from_AreAnswers, stream_left-push, tally_of-push, texts-push}
use Rattle.run_core.proofs.LineReading.{HasGiven-nil}
use Rattle.run_core.proofs.MovedBytes.{MovesBytes-none, MovesBytes-trans}
use Rattle.run_core.proofs.SentTexts.{Takes-trans, TakesFront-after, Takes-nil}

-- ---- counts that cannot overflow

-- If `HasRoomFor` holds for some number of I/O calls, it holds for any smaller number.
pub HasRoomFor-fewer : {T : Type 0} (size left fewer : ℕ) (device : Device T) → fewer ≤ left → HasRoomFor size left device → HasRoomFor size fewer device
HasRoomFor-fewer size left fewer device less room = record {
  failures = room.failures;
  calls = (let calls = room.calls in omega (arith, calls, less));
  bytes = (let bytes = room.bytes in
      let most : size * (fewer + 1) ≤ size * (left + 1) = mul-le-mul_left size (omega (arith, less)) in omega (arith, bytes, most));
}

as_count-le-one : (seen : Bool) → as_count seen ≤ 1
as_count-le-one true = omega arith
as_count-le-one false = omega arith

-- If the meter's counts are within the bound for some lines, then after the hashes of one more line they are within the
-- bound for one line more.
IsAtMost-line_work : (lines : ℕ) (old new : Work) → IsAtMost old (2 ^ 100 + line_work_limit * lines) → IsRaisedBelow line_work_limit old new
    → IsAtMost new (2 ^ 100 + line_work_limit * (lines + 1))
IsAtMost-line_work lines old new room small = record {
  digests = (let before = room.digests in let more = small.digests in omega arith);
  bytes = (let before = room.bytes in let more = small.bytes in omega arith);
  mixes = (let before = room.mixes in let more = small.mixes in omega arith);
  table = (let before = room.table in let more = small.table in omega arith);
  scratch = (let before = room.scratch in let more = small.scratch in omega arith);
}

-- ---- I/O calls

module _ {I O E : Type 0} where
  abbrev failures_of : RunState I O E → ℕ
  failures_of now = now.input.failures + now.out.failures + now.faults.failures

  -- A run with `left` of its `turns` I/O calls left is within its limits if at most one call failed, and all others but
  -- one read moved a byte. So it made at most two more calls than it moved bytes.
  IsWithinTurns-one_failure : (turns left : ℕ) (start new : RunState I O E) → calls_of new + left ≡ calls_of start + turns → failures_of new ≤ failures_of start + 1
      → MovesBytes 1 start.input new.input → MovesBytes 0 start.out new.out → MovesBytes 0 start.faults new.faults → IsWithinTurns turns start new
  IsWithinTurns-one_failure turns left start new calls once input out faults = record {
    at_most_turns = omega (arith, calls);
    at_most_bytes = omega (arith, once, input.calls, out.calls, faults.calls);
    of_input = input;
    of_out = out;
    of_faults = faults;
  }

MovesBytes-at_end : {I : Type 0} (at_end : Bool) (start now : Device I) → MovesBytes (as_count at_end) start now → MovesBytes 1 start now
MovesBytes-at_end true start now moves = moves
MovesBytes-at_end false start now moves = record { idle = omega (arith, moves.idle); calls = omega (arith, moves.calls) }

-- A read that stops a run adds at most one failure.
StopsFetching-failures : {I : Type 0} (left : ℕ) (start now : Device I) (fault : RunFault) → StopsFetching left start now fault → now.failures ≤ start.failures + 1
StopsFetching-failures left start now fault (moves, inl stops) = omega (arith, stops.1)
StopsFetching-failures left start now fault (moves, inr stops) = omega (arith, stops.1)

-- A flush makes no I/O call, so `MovesBytes` holds for it.
MovesBytes_from_HasSameContents : {T : Type 0} (old new : Device T) → HasSameContents old new → old.failures ≤ new.failures → MovesBytes 0 old new
MovesBytes_from_HasSameContents old new kept failures = record {
  idle = omega (arith, kept.idle);
  calls = omega (arith, kept.calls, kept.bytes, failures);
}

MovesBytes_from_IsFinished : {T : Type 0} (old new : Device T) → IsFinished old new → MovesBytes 0 old new
MovesBytes_from_IsFinished old new finished = MovesBytes_from_HasSameContents old new finished.kept (let unfailed = finished.unfailed in omega (arith, unfailed))

MovesBytes_from_IsUnfinished : {T : Type 0} (old new : Device T) → IsUnfinished old new → MovesBytes 0 old new
MovesBytes_from_IsUnfinished old new unfinished = MovesBytes_from_HasSameContents old new unfinished.kept (let failed = unfinished.failed in omega (arith, failed))

-- Flushing both outputs makes no I/O call, and at most one flush fails.
MovesBytes_from_FinishesBoth : {O E : Type 0} (out new_out : Device O) (faults new_faults : Device E) {A : Type 0} (result : Result A RunFault)
    → FinishesBoth out faults new_out new_faults result
    → MovesBytes 0 out new_out × MovesBytes 0 faults new_faults × (new_out.calls + new_faults.calls ≡ out.calls + faults.calls)
    × (new_out.failures + new_faults.failures ≤ out.failures + faults.failures + 1)
MovesBytes_from_FinishesBoth out new_out faults new_faults (Ok done) (first, second) = (
  MovesBytes_from_IsFinished out new_out first,
  MovesBytes_from_IsFinished faults new_faults second,
  omega (arith, first.kept.calls, second.kept.calls),
  omega (arith, first.unfailed, second.unfailed),
)
MovesBytes_from_FinishesBoth out new_out faults new_faults (Err fault) (is, inl (first, same)) = (
  MovesBytes_from_IsUnfinished out new_out first,
  rw same (MovesBytes-none faults),
  omega (arith, first.kept.calls, ap (λ d. d.calls) same),
  omega (arith, first.failed, ap (λ d. d.failures) same),
)
MovesBytes_from_FinishesBoth out new_out faults new_faults (Err fault) (is, inr (first, second)) = (
  MovesBytes_from_IsFinished out new_out first,
  MovesBytes_from_IsUnfinished faults new_faults second,
  omega (arith, first.kept.calls, second.kept.calls),
  omega (arith, first.unfailed, second.failed),
)

-- ---- the lines that were returned

-- The line feed of the last line that was returned is among the last `piece_size` bytes that were read, or the input is
-- at its end.
IsAt-cases : {I : Type 0} (now : Device I) (piece : List ℕ) (at_end : Bool) (lines : List (List ℕ)) (bytes : List ℕ) → IsAt now piece at_end lines bytes
    → ((rest : List ℕ) × HasLines bytes lines rest × (length rest < piece_size)) ⊎ (IsAtEnd now.shown × (lines ≡ lines_of bytes))
IsAt-cases now piece false lines bytes at = inl (piece, at.0, at.1)
IsAt-cases now piece true lines bytes at = inr at

-- The full answer has the outcome that `answer_line` returned.
pub outcome_from_Renders : (job : Job) (number : ℕ) (value : Result Answered LineFault) (next : Answer) → Renders job number value next → next.outcome ≡ outcome_of value
outcome_from_Renders job number (Ok answered) next renders = ap (λ (a : Answer). a.outcome) renders.0
outcome_from_Renders job number (Err fault) next renders = ap (λ (a : Answer). a.outcome) renders

-- If some answers were written in full and then one in part, the outputs have taken them all in this order.
TakeInPart-after : {O E : Type 0} (failures : ℕ) (done : List Answer) (next : Answer) (start old new : Device O) (fault_start faults new_faults : Device E)
    → Takes 0 0 start old (texts done) → Takes 0 0 fault_start faults (fault_texts done)
    → TakeInPart failures [] next old faults new new_faults → TakeInPart failures done next start fault_start new new_faults
TakeInPart-after failures done next start old new fault_start faults new_faults text fault_text front = go (is_refusal next.outcome) front where
  go : (refused : Bool) → MatchBool refused
      (Takes 0 0 old new [] × TakesFront failures faults new_faults [] next.text)
      (TakesFront failures old new [] next.text × Takes 0 0 faults new_faults [])
      → MatchBool refused
      (Takes 0 0 start new (texts done) × TakesFront failures fault_start new_faults (fault_texts done) next.text)
      (TakesFront failures start new (texts done) next.text × Takes 0 0 fault_start new_faults (fault_texts done))
  go true (none, part) = (
    subst (Takes 0 0 start new) (append-nil (texts done)) (Takes-trans start old new (texts done) [] text none),
    TakesFront-after fault_start faults new_faults (fault_texts done) next.text fault_text part,
  )
  go false (part, none) = (
    TakesFront-after start old new (texts done) next.text text part,
    subst (Takes 0 0 fault_start new_faults) (append-nil (fault_texts done)) (Takes-trans fault_start faults new_faults (fault_texts done) [] fault_text none),
  )

module _ {I O E : Type 0} where
  -- The loop's invariant: each line that the reader has returned is answered.
  pub record IsRunning (turns : ℕ) (kind : Kind) (job : Job) (start now : RunState I O E) (reader : LineReader) (tally : Tally) (left : ℕ) : Type 0 where
    pub lines : List (List ℕ)
    pub answers : List Answer
    pub given : HasGiven start.input now.input reader lines
    pub are : AreAnswers kind job job.first_line lines start.stream answers
    pub tallied : tally ≡ tally_of answers
    pub answered : HasAnswered answers start now
    pub calls : calls_of now + left ≡ calls_of start + turns
    pub out_moves : MovesBytes 0 start.out now.out
    pub faults_moves : MovesBytes 0 start.faults now.faults
    pub room : HasRoomForLines left reader.piece tally now

  pub IsRunning-start : (turns : ℕ) (kind : Kind) (job : Job) (start : RunState I O E) (reader : LineReader) (tally : Tally)
      → reader.piece ≡ [] → reader.at_end ≡ false → tally ≡ tally_of [] → turns ≤ turns_limit
      → HasRoomBeforeRun start.input × HasRoomBeforeRun start.out × HasRoomBeforeRun start.faults → IsAtMost start.counts (2 ^ 100)
      → IsRunning turns kind job start start reader tally turns
  IsRunning-start turns kind job start reader tally unread more none within (input, out, faults) counts = record {
    lines = [];
    answers = [];
    given = HasGiven-nil start.input reader unread more;
    are = tt;
    tallied = none;
    answered = record {
      takes = record { of_input = sym (add-zero _); text = Takes-nil start.out; fault_text = Takes-nil start.faults };
      after = record { stream = refl; counts = refl };
    };
    calls = refl;
    out_moves = MovesBytes-none start.out;
    faults_moves = MovesBytes-none start.faults;
    room = rw (none, unread) (record {
      lines = omega (arith, within);
      refused = omega arith;
      misfits = omega arith;
      input = record { failures = input.0; calls = omega (arith, input.1, within); bytes = omega (arith, input.2, within) };
      out = record { failures = out.0; calls = omega (arith, out.1, within); bytes = omega (arith, out.2, within) };
      faults = record { failures = faults.0; calls = omega (arith, faults.1, within); bytes = omega (arith, faults.2, within) };
      flushes = (out.3, faults.3);
      counts = counts;
    });
  }

-- In this module, the run has called `next_line`, after which the input is `input`, and `mid` I/O calls are left.
module _ {I O E : Type 0} {turns : ℕ} {kind : Kind} {job : Job} {start old : RunState I O E} {reader : LineReader} {tally : Tally} {left : ℕ}
    (running : IsRunning turns kind job start old reader tally left) (input : Device I) (mid : ℕ) (read_calls : input.calls + mid ≡ old.input.calls + left) where
  -- The run is within its limits if at most one of all its calls failed, all others but one read moved a byte, and the
  -- outputs made no more I/O calls after `next_line` than were left.
  IsWithinTurns-after_read : (new_left : ℕ) (new : RunState I O E) → MovesBytes 1 start.input new.input → MovesBytes 0 old.out new.out → MovesBytes 0 old.faults new.faults
      → failures_of new ≤ failures_of start + 1 → new.input.calls ≡ input.calls
      → new.out.calls + new.faults.calls + new_left ≡ old.out.calls + old.faults.calls + mid → IsWithinTurns turns start new
  IsWithinTurns-after_read new_left new read out faults once same calls =
      let before = running.calls in
      IsWithinTurns-one_failure turns new_left start new (omega (arith, before, read_calls, calls, same)) once read
      (MovesBytes-trans 0 start.out old.out new.out running.out_moves out) (MovesBytes-trans 0 start.faults old.faults new.faults running.faults_moves faults)

  -- Exit while reading: if a read failed or no I/O call was left, the run ends with this error.
  pub RunsLines-reading_stopped : (fault : RunFault) → HasStopped mid start.input input running.lines fault → RunsLines turns kind job start (run_state input old.out old.faults old.stream old.counts) (Err fault)
  RunsLines-reading_stopped fault stop =
      let now = run_state input old.out old.faults old.stream old.counts in
      let takes = running.answered.takes in
      let calls = running.calls in
      let once = StopsFetching-failures mid start.input input fault stop.stops in
      let of_out = takes.text.failed in
      let of_faults = takes.fault_text.failed in
      record {
        ends = (
          stop.bytes,
          stop.reads,
          inr (inl (
            running.answers,
            (running.lines, stop.rest, stop.has, stop.no_feed, running.are),
            (
              record { stream = running.answered.after.stream; counts = running.answered.after.counts },
              stop.stops.0,
              elim stop.stops.1 [
                | inl (of, failed) ↦ inl (of, record { of_input = failed; text = takes.text; fault_text = takes.fault_text })
                | inr (of, unfailed, none) ↦ inr (
                  of,
                  record { of_input = unfailed ∙ sym (add-zero _); text = takes.text; fault_text = takes.fault_text },
                  omega (arith, calls, read_calls, none),
                )
              ],
            ),
          )),
        );
        within_turns = IsWithinTurns-after_read mid now (MovesBytes-at_end false start.input input stop.stops.0) (MovesBytes-none old.out) (MovesBytes-none old.faults)
            (omega (arith, once, of_out, of_faults)) refl refl;
      }

  -- If the reader found the end of the input, the answers so far are those to all lines of the input.
  AreAnswers-at_end : (next : LineReader) (given : HasGiven start.input input next running.lines) → next.at_end ≡ true
      → (IsAtEnd input.shown × AreAnswers kind job job.first_line (lines_of given.bytes) start.stream running.answers)
      × HasAnswered running.answers start (run_state input old.out old.faults old.stream old.counts)
  AreAnswers-at_end next given at_end =
      let at = subst (λ end. IsAt input next.piece end running.lines given.bytes) at_end given.at in (
        (at.0, subst (λ lines. AreAnswers kind job job.first_line lines start.stream running.answers) at.1 running.are),
        record {
          takes = record { of_input = given.unfailed ∙ sym (add-zero _); text = running.answered.takes.text; fault_text = running.answered.takes.fault_text };
          after = record { stream = running.answered.after.stream; counts = running.answered.after.counts };
        },
      )

  -- Flushing both outputs leaves the run within its I/O calls.
  IsWithinTurns-flushed : (next : LineReader) (out : Device O) (faults : Device E) {A : Type 0} (result : Result A RunFault) → HasGiven start.input input next running.lines
      → FinishesBoth old.out old.faults out faults result → IsWithinTurns turns start (run_state input out faults old.stream old.counts)
  IsWithinTurns-flushed next out faults result given flushes =
      let moved = MovesBytes_from_FinishesBoth old.out out old.faults faults result flushes in
      let unfailed = given.unfailed in
      let of_out = running.answered.takes.text.failed in
      let of_faults = running.answered.takes.fault_text.failed in
      IsWithinTurns-after_read mid (run_state input out faults old.stream old.counts) (MovesBytes-at_end next.at_end start.input input given.moves) moved.0 moved.1
      (omega (arith, unfailed, of_out, of_faults, moved.3)) refl (omega (arith, moved.2))

  -- Exit after the last line: if both outputs were flushed, the run ends with its tally.
  pub RunsLines-flushed : (next : LineReader) (out : Device O) (faults : Device E) {A : Type 0} (done : A) (more : Bool) → more ≡ false
      → GivesNext mid start.input input next running.lines (Ok more)
      → FinishesBoth old.out old.faults out faults (Ok done) → RunsLines turns kind job start (run_state input out faults old.stream old.counts) (Ok tally)
  RunsLines-flushed next out faults done true none gives flushes = absurd (cc)
  RunsLines-flushed next out faults done false none (at_end, given) flushes =
      let all = AreAnswers-at_end next given at_end in
      record {
        ends = (given.bytes, given.reads, (running.answers, all.0, Finishes-flushed running.answers start _ out faults tally done all.1 running.tallied flushes));
        within_turns = IsWithinTurns-flushed next out faults (Ok done) given flushes;
      }

  -- Exit after the last line: if a flush failed, the run ends with this error.
  pub RunsLines-flush_failed : (next : LineReader) (out : Device O) (faults : Device E) (A : Type 0) (fault : RunFault) (more : Bool) → more ≡ false
      → GivesNext mid start.input input next running.lines (Ok more)
      → FinishesBoth old.out old.faults out faults {A = A} (Err fault) → RunsLines turns kind job start (run_state input out faults old.stream old.counts) (Err fault)
  RunsLines-flush_failed next out faults A fault true none gives flushes = absurd (cc)
  RunsLines-flush_failed next out faults A fault false none (at_end, given) flushes =
      let all = AreAnswers-at_end next given at_end in
      record {
        ends = (given.bytes, given.reads, inl (running.answers, all.0, Finishes-flush_failed running.answers start _ out faults A fault all.1 flushes));
        within_turns = IsWithinTurns-flushed next out faults {A = A} (Err fault) given flushes;
      }

-- If `next_line` returned true, there is one more line, and it is in the reader's buffer.
pub GivesNext-line : {I : Type 0} (left : ℕ) (start now : Device I) (reader : LineReader) (lines : List (List ℕ)) (more : Bool) → more ≡ true
    → GivesNext left start now reader lines (Ok more) → (line : List ℕ) × Represents reader.buffer line × HasGiven start now reader (lines ++ line ∷ [])
GivesNext-line left start now reader lines true some gives = gives
GivesNext-line left start now reader lines false some gives = absurd (cc)

-- In this module, `next_line` returned a line whose answer is `answer`.
module _ {I O E : Type 0} {turns : ℕ} {kind : Kind} {job : Job} {start old : RunState I O E} {reader : LineReader} {tally : Tally} {left : ℕ}
    (running : IsRunning turns kind job start old reader tally left) (input : Device I) (mid : ℕ) (read_calls : input.calls + mid ≡ old.input.calls + left)
    (next : LineReader) (line : List ℕ) (given : HasGiven start.input input next (running.lines ++ line ∷ []))
    (answer : Answer) (answers : IsAnswer kind job (job.first_line + tally.lines) line old.stream answer) where
  -- The answers so far, and then `answer`, are the answers to all lines that were returned.
  AreAnswers-next_line : AreAnswers kind job job.first_line (running.lines ++ line ∷ []) start.stream (running.answers ++ answer ∷ [])
  AreAnswers-next_line =
      let lengths = length_from_AreAnswers kind job job.first_line running.lines start.stream running.answers running.are in
      let number : job.first_line + tally.lines ≡ job.first_line + length running.lines = omega (arith, ap (λ t. t.lines) running.tallied, lengths) in
      AreAnswers-push kind job job.first_line running.lines line start.stream running.answers answer running.are (rw (number, running.answered.after.stream) at answers)

  -- After the hashes for `answer`, exactly the hashes for the answers so far and for `answer` have been computed.
  IsAfter-push : (new : RunState I O E) → new.stream ≡ stream_left old.stream answer.hashings → new.counts ≡ after_work old.counts answer.hashings
      → IsAfter (hashings_of (running.answers ++ answer ∷ [])) start new
  IsAfter-push new stream counts = record {
    stream = stream ∙ (ap (λ s. stream_left s answer.hashings) running.answered.after.stream ∙ sym (stream_left-push start.stream running.answers answer));
    counts = counts ∙ (ap (λ c. after_work c answer.hashings) running.answered.after.counts ∙ sym (after_work-push start.counts running.answers answer));
  }

  -- Exit without memory: if scrypt could not allocate memory for a hash of `answer`, the run ends with `OutOfMemory`.
  pub RunsLines-out_of_memory : (stream : Stream) (counts : Work) → IsRefusedAmong old.counts answer.hashings counts stream
      → RunsLines turns kind job start (run_state input old.out old.faults stream counts) (Err OutOfMemory)
  RunsLines-out_of_memory stream counts refused =
      let unfailed = given.unfailed in
      let of_out = running.answered.takes.text.failed in
      let of_faults = running.answered.takes.fault_text.failed in
      record {
        ends = (
          given.bytes,
          given.reads,
          inr (inr (inl (
            running.answers,
            answer,
            (running.lines ++ line ∷ [], AreAnswers-next_line, IsAt-cases input next.piece next.at_end _ given.bytes given.at),
            inr (inr (
              refl,
              record { of_input = unfailed ∙ sym (add-zero _); text = running.answered.takes.text; fault_text = running.answered.takes.fault_text },
              subst (λ (work : Work). IsRefusedAmong work answer.hashings counts stream) running.answered.after.counts refused,
            )),
          ))),
        );
        within_turns = IsWithinTurns-after_read running input mid read_calls mid _ (MovesBytes-at_end next.at_end start.input input given.moves)
            (MovesBytes-none old.out) (MovesBytes-none old.faults) (omega (arith, unfailed, of_out, of_faults)) refl refl;
      }

  -- Exit while writing: if `answer` was written only in part, because a write failed or no I/O call was left, the run
  -- ends with this error.
  pub RunsLines-written_in_part : (out : Device O) (faults : Device E) (stream : Stream) (counts : Work) (new_left : ℕ) (A : Type 0) (fault : RunFault)
      → stream ≡ stream_left old.stream answer.hashings → counts ≡ after_work old.counts answer.hashings
      → Sends new_left answer old.out old.faults out faults {A = A} (Err fault)
      → MovesBytes 0 old.out out → MovesBytes 0 old.faults faults → out.failures + faults.failures ≤ old.out.failures + old.faults.failures + 1
      → out.calls + faults.calls + new_left ≡ old.out.calls + old.faults.calls + mid
      → RunsLines turns kind job start (run_state input out faults stream counts) (Err fault)
  RunsLines-written_in_part out faults stream counts new_left A fault stream_is counts_is sends out_moves faults_moves once calls =
      let new = run_state input out faults stream counts in
      let takes = running.answered.takes in
      let unfailed = given.unfailed in
      let of_out = takes.text.failed in
      let of_faults = takes.fault_text.failed in
      let before = running.calls in
      let after = IsAfter-push new stream_is counts_is in
      record {
        ends = (
          given.bytes,
          given.reads,
          inr (inr (inl (
            running.answers,
            answer,
            (running.lines ++ line ∷ [], AreAnswers-next_line, IsAt-cases input next.piece next.at_end _ given.bytes given.at),
            elim sends [
              | inl (of, front) ↦ inl (
                of,
                (unfailed, TakeInPart-after 1 running.answers answer start.out old.out out start.faults old.faults faults takes.text takes.fault_text front, after),
              )
              | inr (of, none, front) ↦ inr (inl (
                of,
                (unfailed, TakeInPart-after 0 running.answers answer start.out old.out out start.faults old.faults faults takes.text takes.fault_text front, after),
                omega (arith, before, read_calls, calls, none),
              ))
            ],
          ))),
        );
        within_turns = IsWithinTurns-after_read running input mid read_calls new_left new (MovesBytes-at_end next.at_end start.input input given.moves)
            out_moves faults_moves (omega (arith, unfailed, of_out, of_faults, once)) refl calls;
      }

  -- The invariant is kept if `answer` was written in full.
  pub IsRunning-answered : (out : Device O) (faults : Device E) (stream : Stream) (counts : Work) (new_left : ℕ) (new_tally : Tally) {A : Type 0} (done : A)
      → stream ≡ stream_left old.stream answer.hashings → counts ≡ after_work old.counts answer.hashings
      → Sends new_left answer old.out old.faults out faults (Ok done)
      → MovesBytes 0 old.out out → MovesBytes 0 old.faults faults
      → out.calls + faults.calls + new_left ≡ old.out.calls + old.faults.calls + mid → new_left ≤ mid → to_read mid next.piece < to_read left reader.piece
      → new_tally ≡ counted tally answer.outcome
      → HasRoomFor piece_size mid input → HasRoomFor answer_limit new_left out → HasRoomFor answer_limit new_left faults → IsRaisedBelow line_work_limit old.counts counts
      → IsRunning turns kind job start (run_state input out faults stream counts) next new_tally new_left
  IsRunning-answered out faults stream counts new_left new_tally done stream_is counts_is (text, fault_text) out_moves faults_moves calls fewer shorter tallied in_room out_room faults_room small =
      let new = run_state input out faults stream counts in
      let takes = running.answered.takes in
      let room = running.room in
      let before = running.calls in
      let lines_room = room.lines in
      let refused = room.refused in
      let misfits = room.misfits in
      let out_flushes = text.tried in
      let faults_flushes = fault_text.tried in
      let flushes = room.flushes in
      record {
        lines = running.lines ++ line ∷ [];
        answers = running.answers ++ answer ∷ [];
        given = given;
        are = AreAnswers-next_line;
        tallied = tallied ∙ (ap (λ t. counted t answer.outcome) running.tallied ∙ sym (tally_of-push running.answers answer));
        answered = record {
          takes = record {
            of_input = given.unfailed ∙ sym (add-zero _);
            text = subst (Takes 0 0 start.out out) (sym (texts-push running.answers answer))
                (Takes-trans start.out old.out out (texts running.answers) (texts (answer ∷ [])) takes.text text);
            fault_text = subst (Takes 0 0 start.faults faults) (sym (fault_texts-push running.answers answer))
                (Takes-trans start.faults old.faults faults (fault_texts running.answers) (fault_texts (answer ∷ [])) takes.fault_text fault_text);
          };
          after = IsAfter-push new stream_is counts_is;
        };
        calls = omega (arith, before, read_calls, calls);
        out_moves = MovesBytes-trans 0 start.out old.out out running.out_moves out_moves;
        faults_moves = MovesBytes-trans 0 start.faults old.faults faults running.faults_moves faults_moves;
        room = rw tallied (record {
          lines = omega (arith, lines_room, fewer, shorter);
          refused = omega (arith, refused, as_count-le-one (is_refusal answer.outcome));
          misfits = omega (arith, misfits, as_count-le-one (is_misfit answer.outcome));
          input = HasRoomFor-fewer piece_size mid new_left input fewer in_room;
          out = out_room;
          faults = faults_room;
          flushes = (omega (arith, out_flushes, flushes.0), omega (arith, faults_flushes, flushes.1));
          counts = IsAtMost-line_work tally.lines old.counts counts room.counts small;
        });
      }
