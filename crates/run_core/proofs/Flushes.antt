-- Lemmas for the clauses `runs` of `run_one` and `answer_lines` at the end of a run. Once all answers are written, and
-- `finish_both` has flushed both outputs or failed to, the run has finished (`Finishes`). A flush changes neither the
-- contents of an output nor its count of bytes. So what the output has taken stays the same, and only its counts of
-- flushes and failures change (`Takes-IsFinished`, `Takes-IsUnfinished`).
use Rattle.std.proofs.Common.{◌≡◌, ℕ, List, Option, Some, None, Ok, Err, ◌∙◌, arith, inl, inr}
use Rattle.std.specs.Io.KnownBytes.{Appends, Keeps}
use Rattle.run_core.specs.Answers.{Answer, fault_texts, hashings_of, tally_of, texts}
use Rattle.run_core.specs.Devices.{Device}
use Rattle.run_core.specs.Output.{Takes}
use Rattle.run_core.specs.Private.Deliveries.{FinishesBoth, IsFinished, IsUnfinished}
use Rattle.run_core.specs.Runs.{Finishes, RunState, IsAfter, TakeAll, run_state}
use Rattle.run_core.specs.declared.fault.RunFault.{RunFault}
use Rattle.run_core.specs.declared.tally.Tally.{Tally}

-- ---- one output

Appends-Keeps : (old mid new : Option (List ℕ)) (bs : List ℕ) → Appends old mid bs → Keeps mid new → Appends old new bs
Appends-Keeps None mid new bs a k = tt
Appends-Keeps (Some xs) None new bs a k = absurd a
Appends-Keeps (Some xs) (Some ys) None bs a k = absurd k
Appends-Keeps (Some xs) (Some ys) (Some zs) bs a k = k ∙ a

module _ {T : Type 0} where
  pub Takes-IsFinished : (old mid new : Device T) (bytes : List ℕ) → Takes 0 0 old mid bytes → IsFinished mid new → Takes 0 1 old new bytes
  Takes-IsFinished old mid new bytes takes finished =
      let tried = takes.tried in
      let tried_now = finished.flushed.flushes in
      record {
        shown = Appends-Keeps _ mid.shown _ bytes takes.shown finished.kept.shown;
        counted = finished.kept.bytes ∙ takes.counted;
        failed = finished.unfailed ∙ takes.failed;
        tried = omega (arith, tried, tried_now);
        flushed = finished.flushed.flushed;
      }

  -- If an output has taken bytes and then fails to flush, it has taken these bytes, with one failure and one flush.
  pub Takes-IsUnfinished : (old mid new : Device T) (bytes : List ℕ) → Takes 0 0 old mid bytes → IsUnfinished mid new → Takes 1 1 old new bytes
  Takes-IsUnfinished old mid new bytes takes unfinished =
      let failed = takes.failed in
      let failed_now = unfinished.failed in
      let tried = takes.tried in
      let tried_now = unfinished.flush_failed.flushes in
      record {
        shown = Appends-Keeps _ mid.shown _ bytes takes.shown unfinished.kept.shown;
        counted = unfinished.kept.bytes ∙ takes.counted;
        failed = omega (arith, failed, failed_now);
        tried = omega (arith, tried, tried_now);
        flushed = unfinished.flush_failed.flushed ∙ takes.flushed;
      }

-- ---- both outputs

module _ {I O E : Type 0} where
  -- All these answers were written, and no call failed.
  pub record HasAnswered (answers : List Answer) (old mid : RunState I O E) : Type 0 where
    pub takes : TakeAll 0 0 0 0 0 answers old mid
    pub after : IsAfter (hashings_of answers) old mid

  -- state_after_flushes mid out faults: the state `mid` of the run, with the outputs after the flushes.
  abbrev pub state_after_flushes : RunState I O E → Device O → Device E → RunState I O E
  state_after_flushes mid out faults = run_state mid.input out faults mid.stream mid.counts

  -- If all answers were written and both flushes succeeded, the run has finished with their tally.
  pub Finishes-flushed : (answers : List Answer) (old mid : RunState I O E) (out : Device O) (faults : Device E) (tally : Tally) {A : Type 0} (done : A)
      → HasAnswered answers old mid → tally ≡ tally_of answers
      → FinishesBoth mid.out mid.faults out faults (Ok done)
      → Finishes answers old (state_after_flushes mid out faults) (Ok tally)
  Finishes-flushed answers old mid out faults tally done answered is flushes = (
    is,
    record {
      of_input = answered.takes.of_input;
      text = Takes-IsFinished old.out mid.out out (texts answers) answered.takes.text flushes.0;
      fault_text = Takes-IsFinished old.faults mid.faults faults (fault_texts answers) answered.takes.fault_text flushes.1;
    },
    record { stream = answered.after.stream; counts = answered.after.counts },
  )

  -- If all answers were written and a flush failed, the run has finished with this error.
  pub Finishes-flush_failed : (answers : List Answer) (old mid : RunState I O E) (out : Device O) (faults : Device E) (A : Type 0) (fault : RunFault)
      → HasAnswered answers old mid
      → FinishesBoth mid.out mid.faults out faults {A = A} (Err fault)
      → Finishes answers old (state_after_flushes mid out faults) (Err fault)
  Finishes-flush_failed answers old mid out faults A fault answered (is, flushes) = (
    is,
    elim flushes [
      | inl (first, same) ↦ inl (record {
        of_input = answered.takes.of_input;
        text = Takes-IsUnfinished old.out mid.out out (texts answers) answered.takes.text first;
        fault_text = rw same answered.takes.fault_text;
      })
      | inr (first, second) ↦ inr (record {
        of_input = answered.takes.of_input;
        text = Takes-IsFinished old.out mid.out out (texts answers) answered.takes.text first;
        fault_text = Takes-IsUnfinished old.faults mid.faults faults (fault_texts answers) answered.takes.fault_text second;
      })
    ],
    record { stream = answered.after.stream; counts = answered.after.counts },
  )
