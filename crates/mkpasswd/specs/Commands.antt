-- The whole command, from the arguments and the devices to the exit status.
use Rattle.std.specs.Prelude.{◌≡◌, ℕ, ◌&&◌, zero, suc, Bool, true, false, not, List, [], ◌++◌, length, codes, Option, MatchBool, Result, Ok, Err, IfOk}
use Rattle.std.specs.Option.{option_map_or}
use Rattle.clap.specs.Words.{Text, kind_of}
use Rattle.rand_core.specs.Stream.{Stream}
use Rattle.mkpasswd.specs.Faults.{fault_row, parse_status}
use Rattle.run_core.specs.Answers.{tally_of, tally_status}
use Rattle.run_core.specs.LineRuns.{RunsLines}
use Rattle.run_core.specs.Methods.{methods_text}
use Rattle.run_core.specs.One.{RunsOne}
use Rattle.mkpasswd.specs.Options.{Plans}
use Rattle.run_core.specs.Output.{Shows}
use Rattle.run_core.specs.Runs.{RunState, no_numbers}
use Rattle.run_core.specs.Texts.{as_line}
use Rattle.mkpasswd.specs.declared.fault.Fault.{Fault}
use Rattle.mkpasswd.specs.declared.fault.Fault.TheVariants.{Start, Usage, Run}
use Rattle.run_core.specs.declared.fault.RunFault.{RunFault}
use Rattle.mkpasswd.specs.declared.fault.UsageFault.{UsageFault}
use Rattle.mkpasswd.specs.declared.fault.UsageFault.TheVariants.{Parse}
use Rattle.mkpasswd.specs.declared.plan.Plan.{Plan}
use Rattle.mkpasswd.specs.declared.plan.Plan.TheVariants.{Methods, One, Batch, Check, Audit}
use Rattle.run_core.specs.declared.line.Kind.TheVariants as kinds
use Rattle.run_core.specs.declared.tally.Tally.{Tally}

-- wants_generator plan: whether the plan needs a generator of random numbers. It does if it hashes or checks passwords.
-- The list of the methods and an audit do not.
abbrev pub wants_generator : Plan → Bool
wants_generator Methods = false
wants_generator (Audit job) = false
wants_generator plan = true

-- wants_by planned: whether the command needs a generator. Refused arguments, help and the version need none.
abbrev pub wants_by : Result Plan UsageFault → Bool
wants_by (Ok plan) = wants_generator plan
wants_by (Err fault) = false

-- IsAsked Made IsNotCalled wants: if `wants` is true, the command asks for a generator once, and `Made` says what it
-- gets. Otherwise the command does not ask, and `IsNotCalled` says so.
abbrev pub IsAsked : Type 0 → Type 0 → Bool → Type 0
IsAsked Made IsNotCalled wants = MatchBool wants Made IsNotCalled

-- stream_in stream generator: the random numbers that the generator will give, or no numbers if there is no generator.
abbrev pub stream_in : {R : Type 0} → (R → Stream) → Option R → Stream
stream_in stream generator = option_map_or stream generator no_numbers

module _ {I O E : Type 0} where
  -- Prints turns text old new result: the command writes the text to `out` and flushes it, in at most `turns` calls
  -- that write. If that fails, `result` is the error. Only `out` changes.
  abbrev pub Prints : ℕ → List ℕ → RunState I O E → RunState I O E → Result Tally RunFault → Type 0
  Prints turns text old new result =
      Shows turns old.out new.out text result × (new ≡ record old { out = new.out }) × IfOk result (λ tally. tally ≡ tally_of [])

  -- ReportsFault fault old new status: the command writes `mkpasswd: MESSAGE` and a line feed to `faults`, in at most
  -- as many calls as this line has bytes, and flushes it. If that fails, a prefix of the line may have been written.
  -- Only `faults` changes, and the status is that of the error.
  abbrev pub ReportsFault : Fault → RunState I O E → RunState I O E → ℕ → Type 0
  ReportsFault fault old new status =
      let line = as_line (codes "mkpasswd: " ++ (fault_row fault).1) in
      (result : Result Tally RunFault) × Shows (length line) old.faults new.faults line result
      × (new ≡ record old { faults = new.faults }) × (status ≡ (fault_row fault).0)

  -- Concludes result old new status: what the command does after a run. If the run ended with a tally of its answers,
  -- the command changes nothing more, and its status is that of the tally. If the run ended with an error, the command
  -- reports it.
  abbrev pub Concludes : Result Tally RunFault → RunState I O E → RunState I O E → ℕ → Type 0
  Concludes (Ok tally) old new status = (new ≡ old) × (status ≡ tally_status tally)
  Concludes (Err fault) old new status = ReportsFault (Run fault) old new status

  -- Ends turns plan old new result: the run of the plan ends with this result, in at most `turns` I/O calls. It lists
  -- the methods, hashes one password, or hashes, checks or audits lines.
  abbrev pub Ends : ℕ → Plan → RunState I O E → RunState I O E → Result Tally RunFault → Type 0
  Ends turns Methods old new result = Prints turns methods_text old new result
  Ends turns (One job from) old new result = RunsOne turns job from old new result
  Ends turns (Batch job) old new result = RunsLines turns kinds.Batch job old new result
  Ends turns (Check job) old new result = RunsLines turns kinds.Check job old new result
  Ends turns (Audit job) old new result = RunsLines turns kinds.Audit job old new result

  -- ShowsError parse_status turns old new status: the command reports an error of `clap` whose exit status is
  -- `parse_status`. If that is 0, the command writes help or the version to `out`, and if this fails, reports that.
  -- Otherwise it writes a message to `faults`, and its own status is 2 even if that fails.
  abbrev pub ShowsError : ℕ → ℕ → RunState I O E → RunState I O E → ℕ → Type 0
  ShowsError zero turns old new status =
      (text : List ℕ) × (mid : RunState I O E) × (result : Result Tally RunFault)
      × Prints turns text old mid result × Concludes result mid new status
  ShowsError (suc n) turns old new status =
      (text : List ℕ) × (result : Result Tally RunFault) × Shows turns old.faults new.faults text result
      × (new ≡ record old { faults = new.faults }) × (status ≡ 2)

  -- Follows turns generates planned old new status: what the command does after planning. If there is a plan, the
  -- command runs it, which leads to the state `mid`, and concludes with the result of the run. If the plan needs a
  -- generator and `generates` says that there is none, the command runs nothing and reports the error `Start`. If the
  -- arguments are refused, it reports the refusal.
  abbrev pub Follows : ℕ → Bool → Result Plan UsageFault → RunState I O E → RunState I O E → ℕ → Type 0
  Follows turns generates (Ok plan) old new status =
      MatchBool (wants_generator plan && not generates) (ReportsFault Start old new status)
      ((mid : RunState I O E) × (result : Result Tally RunFault) × Ends turns plan old mid result × Concludes result mid new status)
  Follows turns generates (Err (Parse error)) old new status = ShowsError (parse_status (kind_of error)) turns old new status
  Follows turns generates (Err fault) old new status = ReportsFault (Usage fault) old new status

  -- Serves turns Made IsNotCalled generates arguments old new status: the command makes a plan from the arguments, asks
  -- for a generator if the plan needs one, and runs the plan or reports why there is none. `Plans` allows that an
  -- allocation fails for any arguments. `Made` says that the command called `make` once, `IsNotCalled` that it did not,
  -- and `generates` that there is a generator.
  abbrev pub Serves : ℕ → Type 0 → Type 0 → Bool → List Text → RunState I O E → RunState I O E → ℕ → Type 0
  Serves turns Made IsNotCalled generates arguments old new status =
      (planned : Result Plan UsageFault) × Plans arguments planned × IsAsked Made IsNotCalled (wants_by planned)
      × Follows turns generates planned old new status
