-- What the steps of the command do to its devices.
use Rattle.std.specs.Prelude.{◌≡◌, ℕ, ◌&&◌, Bool, true, false, not, List, [], Result, Ok, Err}
use Rattle.clap.specs.Words.{kind_of}
use Rattle.clap.specs.declared.error.Error.{Error}
use Rattle.run_core.specs.Devices.{Device}
use Rattle.run_core.specs.Output.{Shows}
use Rattle.run_core.specs.Runs.{RunState}
use Rattle.run_core.specs.Answers.{tally_of}
use Rattle.run_core.specs.declared.fault.RunFault.{RunFault}
use Rattle.run_core.specs.declared.tally.Tally.{Tally}
use Rattle.mkpasswd.specs.Commands.{Ends, wants_generator}
use Rattle.mkpasswd.specs.Faults.{IsReported, fault_row, parse_status}
use Rattle.mkpasswd.specs.declared.fault.Fault.{Fault}
use Rattle.mkpasswd.specs.declared.fault.Fault.TheVariants.{Start, Usage, Run}
use Rattle.mkpasswd.specs.declared.fault.UsageFault.{UsageFault}
use Rattle.mkpasswd.specs.declared.fault.UsageFault.TheVariants.{Parse, OutOfMemory}
use Rattle.mkpasswd.specs.declared.plan.Plan.{Plan}

-- lacks_generator generates plan: whether the plan needs a generator and there is none.
abbrev pub lacks_generator : Bool → Plan → Bool
lacks_generator generates plan = wants_generator plan && not generates

module _ {I O E : Type 0} where
  -- RunsOrLacks turns generates plan old new result: the run of the plan ended with this result; or the plan needs a
  -- generator, there is none, and the command did nothing.
  abbrev pub RunsOrLacks : ℕ → Bool → Plan → RunState I O E → RunState I O E → Result Tally Fault → Type 0
  RunsOrLacks turns generates plan old new (Ok tally) = (lacks_generator generates plan ≡ false) × Ends turns plan old new (Ok tally)
  RunsOrLacks turns generates plan old new (Err (Run fault)) = (lacks_generator generates plan ≡ false) × Ends turns plan old new (Err fault)
  RunsOrLacks turns generates plan old new (Err Start) = (lacks_generator generates plan ≡ true) × (new ≡ old)
  RunsOrLacks turns generates plan old new (Err (Usage fault)) = ⊥

-- ErrorShown error turns out faults new_out new_faults status: the command reported an error of `clap`, in one of these
-- ways.
--   mistake  the command wrote the message about the arguments to `faults`, or tried to
--   help     the command wrote help or the version to `out`
--   front    writing help or the version to `out` failed, and the command reported this error
--   no_text  an allocation for the message failed, and the command reported this error
pub data ErrorShown {O E : Type 0} (error : Error) (turns : ℕ) (out : Device O) (faults : Device E) (new_out : Device O)
    (new_faults : Device E) (status : ℕ) : Type 0 where
  mistake : (text : List ℕ) → (result : Result Tally RunFault) → parse_status (kind_of error) ≡ 2
      → Shows turns faults new_faults text result → new_out ≡ out → status ≡ 2
      → ErrorShown error turns out faults new_out new_faults status
  help : (text : List ℕ) → parse_status (kind_of error) ≡ 0
      → Shows turns out new_out text (Ok (tally_of [])) → new_faults ≡ faults → status ≡ 0
      → ErrorShown error turns out faults new_out new_faults status
  front : (text : List ℕ) → (fault : RunFault) → parse_status (kind_of error) ≡ 0
      → Shows {A = Tally} turns out new_out text (Err fault) → IsReported (Run fault) faults new_faults → status ≡ (fault_row (Run fault)).0
      → ErrorShown error turns out faults new_out new_faults status
  no_text : IsReported (Usage OutOfMemory) faults new_faults → new_out ≡ out → status ≡ (fault_row (Usage OutOfMemory)).0
      → ErrorShown error turns out faults new_out new_faults status

-- RefusalShown fault turns out faults new_out new_faults status: the command reported the refusal of the arguments.
abbrev pub RefusalShown : {O E : Type 0} → UsageFault → ℕ → Device O → Device E → Device O → Device E → ℕ → Type 0
RefusalShown (Parse error) turns out faults new_out new_faults status = ErrorShown error turns out faults new_out new_faults status
RefusalShown fault turns out faults new_out new_faults status =
    IsReported (Usage fault) faults new_faults × (new_out ≡ out) × (status ≡ (fault_row (Usage fault)).0)
