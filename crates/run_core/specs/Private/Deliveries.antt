-- The effects and results of writing a text to one output, and of flushing both outputs.
use Rattle.std.specs.Prelude.{◌≡◌, ℕ, ◌+◌, ◌⊎◌, List, [], ◌∷◌, Result, Ok, Err}
use Rattle.std.specs.Io.KnownBytes.{Keeps}
use Rattle.run_core.specs.Answers.{Answer, fault_texts, texts}
use Rattle.run_core.specs.DeviceCalls.{FailsToFlush, IsFlushed}
use Rattle.run_core.specs.Devices.{Device}
use Rattle.run_core.specs.Output.{Takes, TakesFront}
use Rattle.run_core.specs.Runs.{TakeInPart}
use Rattle.run_core.specs.declared.fault.RunFault.{RunFault}
use Rattle.run_core.specs.declared.fault.RunFault.TheVariants.{Write, Turns}

module _ {T : Type 0} where
  -- IsUnfailed old new: no call failed.
  abbrev pub IsUnfailed : Device T → Device T → Type 0
  IsUnfailed old new = new.failures ≡ old.failures

  -- FailsOnce old new: exactly one call failed.
  abbrev pub FailsOnce : Device T → Device T → Type 0
  FailsOnce old new = new.failures ≡ old.failures + 1

  -- Delivers turns old new text result: writing `text` ended with this result.
  --   Ok     the whole text was taken
  --   Write  a proper prefix of the text was taken, and one call failed
  --   Turns  a proper prefix of the text was taken, `turns` calls were made, and none failed
  abbrev pub Delivers : ℕ → Device T → Device T → List ℕ → {A : Type 0} → Result A RunFault → Type 0
  Delivers turns old new text (Ok answer) = Takes 0 0 old new text
  Delivers turns old new text (Err fault) = ((fault ≡ Write) × TakesFront 1 old new [] text)
      ⊎ ((fault ≡ Turns) × TakesFront 0 old new [] text × (new.calls ≡ old.calls + turns))

  -- HasSameContents old new: the device has the same contents, and the same counts of calls, bytes and idle calls.
  pub record HasSameContents (old new : Device T) : Type 0 where
    pub shown : Keeps old.shown new.shown
    pub calls : new.calls ≡ old.calls
    pub bytes : new.bytes ≡ old.bytes
    pub idle : new.idle ≡ old.idle

  -- IsFinished old new: the output was flushed.
  pub record IsFinished (old new : Device T) : Type 0 where
    pub kept : HasSameContents old new
    pub unfailed : IsUnfailed old new
    pub flushed : IsFlushed old new

  -- IsUnfinished old new: a flush was tried and failed.
  pub record IsUnfinished (old new : Device T) : Type 0 where
    pub kept : HasSameContents old new
    pub failed : FailsOnce old new
    pub flush_failed : FailsToFlush old new

module _ {O E : Type 0} where
  -- FinishesBoth out faults new_out new_faults result: first `out` and then `faults` was flushed, up to the first flush
  -- that failed.
  abbrev pub FinishesBoth : Device O → Device E → Device O → Device E → {A : Type 0} → Result A RunFault → Type 0
  FinishesBoth out faults new_out new_faults (Ok done) = IsFinished out new_out × IsFinished faults new_faults
  FinishesBoth out faults new_out new_faults (Err fault) = (fault ≡ Write)
      × ((IsUnfinished out new_out × (new_faults ≡ faults)) ⊎ (IsFinished out new_out × IsUnfinished faults new_faults))

  -- Sends left answer out faults new_out new_faults result: the answer was written in full, or in part because a call
  -- failed or no I/O call was left.
  abbrev pub Sends : ℕ → Answer → Device O → Device E → Device O → Device E → {A : Type 0} → Result A RunFault → Type 0
  Sends left answer out faults new_out new_faults (Ok done) =
      Takes 0 0 out new_out (texts (answer ∷ [])) × Takes 0 0 faults new_faults (fault_texts (answer ∷ []))
  Sends left answer out faults new_out new_faults (Err fault) =
      ((fault ≡ Write) × TakeInPart 1 [] answer out faults new_out new_faults)
      ⊎ ((fault ≡ Turns) × (left ≡ 0) × TakeInPart 0 [] answer out faults new_out new_faults)
