-- The effect of a run on its three devices, on the random numbers of its generator and on its meter. Many definitions
-- take as arguments the answers that the run wrote in full, and the answer at which it stopped.
use Rattle.std.specs.Prelude.{◌≡◌, ℕ, ◌+◌, ◌^◌, ◌≤◌, ◌⊎◌, List, [], ◌∷◌, ◌++◌, replicate, MatchBool, Result, Ok, Err}
use Rattle.rand_core.specs.Stream.{Stream}
use Rattle.prims_core.specs.Work.{IsAtMost}
use Rattle.prims_core.specs.declared.meter.Work.{Work}
use Rattle.crypt_core.specs.declared.password.PasswordFault.{PasswordFault}
use Rattle.run_core.specs.Answers.{Answer, Hashing, IsRefusedAmong, after_work, fault_texts, hashings_of, is_refusal, stream_left, tally_of, texts}
use Rattle.run_core.specs.Devices.{Device, HasRoomBeforeRun, MovesBytes, turns_limit}
use Rattle.run_core.specs.Output.{Takes, TakesFront}
use Rattle.run_core.specs.declared.fault.RunFault.{RunFault}
use Rattle.run_core.specs.declared.fault.RunFault.TheVariants.{Read, Write, OutOfMemory, Turns, Password}
use Rattle.run_core.specs.declared.tally.Tally.{Tally}

-- A `RunState` is what a run works on: its input, its output, its second output for messages about refused lines, the
-- random numbers that are left, and the counts of the meter.
pub record RunState (I O E : Type 0) : Type 0 where
  pub input : Device I
  pub out : Device O
  pub faults : Device E
  pub stream : Stream
  pub counts : Work

-- no_numbers is the stream of a run without a generator. It consists of zeros, and the run draws none of them.
abbrev pub no_numbers : Stream
no_numbers = record { u32_after = λ calls. 0; u64_after = λ calls. 0; bytes_after = λ calls count. replicate count 0 }

-- run_state input out faults stream counts is the `RunState` with these parts.
abbrev pub run_state : {I O E : Type 0} → Device I → Device O → Device E → Stream → Work → RunState I O E
run_state input out faults stream counts = record { input = input; out = out; faults = faults; stream = stream; counts = counts }

-- IsReady turns input out faults counts: a run can begin. `turns` is at most the limit on I/O calls, and no count of
-- the devices or of the meter can overflow during the run.
pub record IsReady {I O E : Type 0} (turns : ℕ) (input : Device I) (out : Device O) (faults : Device E) (counts : Work) : Type 0 where
  pub limit : turns ≤ turns_limit
  pub devices : HasRoomBeforeRun input × HasRoomBeforeRun out × HasRoomBeforeRun faults
  pub meter : IsAtMost counts (2 ^ 100)

-- TakeInPart failures done next out faults new_out new_faults: the outputs have taken the answers `done`, and the
-- output to which `next` goes has then taken a proper prefix of `next`. Exactly `failures` calls of that output failed,
-- and no call of the other output.
abbrev pub TakeInPart : {O E : Type 0} → ℕ → List Answer → Answer → Device O → Device E → Device O → Device E → Type 0
TakeInPart failures done next out faults new_out new_faults = MatchBool (is_refusal next.outcome)
    (Takes 0 0 out new_out (texts done) × TakesFront failures faults new_faults (fault_texts done) next.text)
    (TakesFront failures out new_out (texts done) next.text × Takes 0 0 faults new_faults (fault_texts done))

module _ {I O E : Type 0} where
  -- ---- I/O calls

  -- calls_of state is the number of I/O calls of all three devices. An I/O call is a call that moves bytes.
  abbrev pub calls_of : RunState I O E → ℕ
  calls_of state = state.input.calls + state.out.calls + state.faults.calls

  -- IsWithinTurns turns old new: the run made at most `turns` I/O calls. It made at most two more calls than it moved
  -- bytes, because each call moved a byte, except at most one that failed and one read that found the end of the input.
  pub record IsWithinTurns (turns : ℕ) (old new : RunState I O E) : Type 0 where
    pub at_most_turns : calls_of new ≤ calls_of old + turns
    pub at_most_bytes : calls_of new + old.input.bytes + old.out.bytes + old.faults.bytes ≤ calls_of old + new.input.bytes + new.out.bytes + new.faults.bytes + 2
    pub of_input : MovesBytes 1 old.input new.input
    pub of_out : MovesBytes 0 old.out new.out
    pub of_faults : MovesBytes 0 old.faults new.faults

  -- ---- the effect of answers

  -- TakeAll input out faults out_flushes fault_flushes answers old new: the outputs have taken exactly these answers.
  --   input, out, faults          the number of failed calls of each device
  --   out_flushes, fault_flushes  the number of flushes of each output
  pub record TakeAll (input out faults out_flushes fault_flushes : ℕ) (answers : List Answer) (old new : RunState I O E) : Type 0 where
    pub of_input : new.input.failures ≡ old.input.failures + input
    pub text : Takes out out_flushes old.out new.out (texts answers)
    pub fault_text : Takes faults fault_flushes old.faults new.faults (fault_texts answers)

  -- IsAfter made old new: exactly the hashes `made` were computed, and exactly the random numbers for them were drawn.
  pub record IsAfter (made : List Hashing) (old new : RunState I O E) : Type 0 where
    pub stream : new.stream ≡ stream_left old.stream made
    pub counts : new.counts ≡ after_work old.counts made

  -- ---- the end of a run

  -- Finishes answers old new result: the run has written all its answers. In each `TakeAll`, the first three numbers
  -- are the failed calls of `input`, `out` and `faults`, and the last two are the flushes of `out` and `faults`.
  --   Ok     both outputs were flushed, and no call failed
  --   Write  the flush of `out` failed, and `faults` was not flushed; or the flush of `faults` failed
  abbrev pub Finishes : List Answer → RunState I O E → RunState I O E → Result Tally RunFault → Type 0
  Finishes answers old new (Ok tally) =
      (tally ≡ tally_of answers) × TakeAll 0 0 0 1 1 answers old new × IsAfter (hashings_of answers) old new
  Finishes answers old new (Err fault) =
      (fault ≡ Write) × (TakeAll 0 1 0 1 0 answers old new ⊎ TakeAll 0 0 1 1 1 answers old new) × IsAfter (hashings_of answers) old new

  -- StopsReading turns done old new fault: the run stopped while it read. It had written the answers `done`, and
  -- flushed nothing. Each `fetch` returned a byte or failed, so the run did not find the end of the input.
  --   Read   one read failed
  --   Turns  `turns` calls were made, and none failed
  abbrev pub StopsReading : ℕ → List Answer → RunState I O E → RunState I O E → RunFault → Type 0
  StopsReading turns done old new fault = IsAfter (hashings_of done) old new × MovesBytes 0 old.input new.input
      × (((fault ≡ Read) × TakeAll 1 0 0 0 0 done old new)
      ⊎ ((fault ≡ Turns) × TakeAll 0 0 0 0 0 done old new × (calls_of new ≡ calls_of old + turns)))

  -- IsCutShort failures done next old new: the outputs have taken the answers `done` and a proper prefix of `next`. The
  -- hashes for `next` were computed too. Exactly `failures` calls failed, all of them on the output of `next`.
  abbrev pub IsCutShort : ℕ → List Answer → Answer → RunState I O E → RunState I O E → Type 0
  IsCutShort failures done next old new = (new.input.failures ≡ old.input.failures)
      × TakeInPart failures done next old.out old.faults new.out new.faults × IsAfter (hashings_of (done ++ next ∷ [])) old new

  -- StopsAt turns done next old new fault: the run stopped at the answer `next`, and flushed nothing. It had written
  -- the answers `done` in full.
  --   Write        one call of the output of `next` failed
  --   Turns        `turns` calls were made, and none failed
  --   OutOfMemory  scrypt could not allocate memory for a hash of `next`, and nothing of `next` was written
  abbrev pub StopsAt : ℕ → List Answer → Answer → RunState I O E → RunState I O E → RunFault → Type 0
  StopsAt turns done next old new fault =
      ((fault ≡ Write) × IsCutShort 1 done next old new)
      ⊎ (((fault ≡ Turns) × IsCutShort 0 done next old new × (calls_of new ≡ calls_of old + turns))
      ⊎ ((fault ≡ OutOfMemory) × TakeAll 0 0 0 0 0 done old new
      × IsRefusedAmong (after_work old.counts (hashings_of done)) next.hashings new.counts new.stream))

  -- EndsBy AreAll AreBefore AreUpTo IsBad turns old new result: the run ends with this result. It finishes, stops while
  -- it reads, stops at an answer, or refuses the password. The first four arguments are statements about the answers,
  -- or about the rule that the password breaks.
  --   AreAll     these are all the answers of a run that finished
  --   AreBefore  these are the answers that the run had written when it stopped while it read
  --   AreUpTo    these are the answers up to and including the one at which the run stopped
  --   IsBad      this is the rule that the password breaks; nothing was written, drawn or hashed
  abbrev pub EndsBy : (List Answer → Type 0) → (List Answer → Type 0) → (List Answer → Type 0) → (PasswordFault → Type 0)
      → ℕ → RunState I O E → RunState I O E → Result Tally RunFault → Type 0
  EndsBy AreAll AreBefore AreUpTo IsBad turns old new (Ok tally) =
      (answers : List Answer) × AreAll answers × Finishes answers old new (Ok tally)
  EndsBy AreAll AreBefore AreUpTo IsBad turns old new (Err fault) =
      ((answers : List Answer) × AreAll answers × Finishes answers old new (Err fault))
      ⊎ (((done : List Answer) × AreBefore done × StopsReading turns done old new fault)
      ⊎ (((done : List Answer) × (next : Answer) × AreUpTo (done ++ next ∷ []) × StopsAt turns done next old new fault)
      ⊎ ((bad : PasswordFault) × (fault ≡ Password bad) × IsBad bad × TakeAll 0 0 0 0 0 [] old new × IsAfter [] old new)))
