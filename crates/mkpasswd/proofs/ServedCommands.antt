-- Lemmas for the clause `serves` of `run_command`, and for the clauses of `report_fault`, `show_error` and
-- `show_refusal`. They derive these clauses from what the called functions promise, in each case of the definitions:
-- the command wrote the line that reports an error, it wrote `clap`'s message, or a run ended with a tally.
use Rattle.std.proofs.Common.{◌≡◌, ◌≢◌, ◌⊎◌, ℕ, List, [], length, Bool, false, Result, Ok, Err, ap, refl, inl, inr}
use Rattle.clap.specs.Words.{Text}
use Rattle.clap.specs.declared.error.kind.ErrorKind.{ErrorKind}
use Rattle.clap.specs.declared.error.kind.ErrorKind.TheVariants as kind
use Rattle.clap.specs.declared.error.Error.{Error}
use Rattle.mkpasswd.specs.Commands.{IsAsked, ReportsFault, Serves, wants_generator}
use Rattle.mkpasswd.specs.Faults.{IsReported, fault_line, fault_row, parse_status}
use Rattle.mkpasswd.specs.Private.Commands.{ErrorShown, RefusalShown, RunsOrLacks, front, help, mistake, no_text}
use Rattle.run_core.specs.Devices.{Device}
use Rattle.mkpasswd.specs.Options.{Plans}
use Rattle.run_core.specs.Output.{Shows}
use Rattle.run_core.specs.Runs.{RunState}
use Rattle.run_core.specs.Answers.{tally_of, tally_status}
use Rattle.mkpasswd.specs.declared.fault.Fault.{Fault}
use Rattle.mkpasswd.specs.declared.fault.Fault.TheVariants.{Start, Usage, Run}
use Rattle.run_core.specs.declared.fault.RunFault.{RunFault}
use Rattle.mkpasswd.specs.declared.fault.UsageFault.{UsageFault}
use Rattle.mkpasswd.specs.declared.fault.UsageFault.TheVariants.{Parse, OutOfMemory as NoMemory}
use Rattle.run_core.proofs.SentTexts.{as_tally, Shows-as_tally}
use Rattle.mkpasswd.specs.declared.plan.Plan.{Plan}
use Rattle.run_core.specs.declared.tally.Tally.{Tally}

-- ---- A text that was written

module _ {T : Type 0} where
  -- If `Shows` holds for the line that reports an error, and for as many calls as the line has bytes, then `IsReported`
  -- holds.
  pub IsReported_from_Shows : {A : Type 0} (fault : Fault) (old new : Device T) (line : List ℕ) (turns : ℕ) (result : Result A RunFault)
      → line ≡ fault_line fault → turns ≡ length line → Shows turns old new line result → IsReported fault old new
  IsReported_from_Shows {A} fault old new line turns result line_is turns_is shows =
      let tallied : Shows turns old new line (as_tally result) = Shows-as_tally turns old new line result shows in
      let shown : Shows (length line) old new line (as_tally result) = rw turns_is at tallied in
      (as_tally result, rw line_is at shown)

-- ---- `clap`'s message

-- The status of an error of `clap` is 0 if the error is help or the version, and otherwise 2.
pub parse_status-cases : (which : ErrorKind)
    → ((which ≢ kind.DisplayHelp) × (which ≢ kind.DisplayVersion) × (parse_status which ≡ 2))
    ⊎ ((¬ ((which ≢ kind.DisplayHelp) × (which ≢ kind.DisplayVersion))) × (parse_status which ≡ 0))
parse_status-cases kind.DisplayHelp = inr ((λ others. others.0 refl), refl)
parse_status-cases kind.DisplayVersion = inr ((λ others. others.1 refl), refl)
parse_status-cases which = inl ((λ help. cc), (λ version. cc), refl)

-- Help and the version have status 0.
pub parse_status-help : (which : ErrorKind) → ¬ ((which ≢ kind.DisplayHelp) × (which ≢ kind.DisplayVersion)) → parse_status which ≡ 0
parse_status-help which asked = elim (parse_status-cases which) [
  | inl other ↦ absurd (asked (other.0, other.1))
  | inr own ↦ own.1
]

-- An error of `clap` other than help and the version has status 2.
pub parse_status-mistake : (which : ErrorKind) → (which ≢ kind.DisplayHelp) × (which ≢ kind.DisplayVersion) → parse_status which ≡ 2
parse_status-mistake which other = elim (parse_status-cases which) [
  | inl own ↦ own.2
  | inr asked ↦ absurd (asked.0 other)
]

module _ {O E : Type 0} where
  -- If an error that is not `clap`'s was reported with its line and its status, and nothing was written to `out`, then
  -- `RefusalShown` holds.
  pub RefusalShown-reported : (fault : UsageFault) (turns : ℕ) (out : Device O) (faults : Device E) (new_faults : Device E) (status : ℕ)
      → ((error : Error) → fault ≢ Parse error) → IsReported (Usage fault) faults new_faults → status ≡ (fault_row (Usage fault)).0
      → RefusalShown fault turns out faults out new_faults status
  RefusalShown-reported (Parse error) turns out faults new_faults status other reported status_is = absurd (other error refl)
  RefusalShown-reported fault turns out faults new_faults status other reported status_is = (reported, refl, status_is)

-- ---- The command

module _ {I O E : Type 0} where
  -- with_faults old faults: the state `old` with `faults` in place of its own.
  abbrev pub with_faults : RunState I O E → Device E → RunState I O E
  with_faults old faults = record old { faults = faults }

  -- with_outs old out faults: the state `old` with these two outputs in place of its own.
  abbrev pub with_outs : RunState I O E → Device O → Device E → RunState I O E
  with_outs old out faults = record old { out = out; faults = faults }

  -- If a run ended with a tally, the clause `serves` holds with the status of the tally.
  pub Serves-run : (turns : ℕ) (Made IsNotCalled : Type 0) (generates : Bool) (arguments : List Text) (plan : Plan) (old new : RunState I O E) (tally : Tally) (status : ℕ)
      → Plans arguments (Ok plan) → IsAsked Made IsNotCalled (wants_generator plan) → RunsOrLacks turns generates plan old new (Ok tally) → status ≡ tally_status tally
      → Serves turns Made IsNotCalled generates arguments old new status
  Serves-run turns Made IsNotCalled generates arguments plan old new tally status planned asks runs status_is =
      (Ok plan, planned, asks, rw runs.0 (new, Ok tally, runs.1, (refl, status_is)))

  -- If `IsReported` holds, nothing but `faults` has changed, and the status is that of the error, then `ReportsFault`
  -- holds.
  ReportsFault_from_IsReported : (fault : Fault) (old : RunState I O E) (faults : Device E) (status : ℕ) → IsReported fault old.faults faults → status ≡ (fault_row fault).0
      → ReportsFault fault old (with_faults old faults) status
  ReportsFault_from_IsReported fault old faults status (result, shows) status_is = (result, shows, refl, status_is)

  -- If a run ended with an error, or lacked a generator, and the error was reported, the clause `serves` holds.
  pub Serves-run_fault : (turns : ℕ) (Made IsNotCalled : Type 0) (generates : Bool) (arguments : List Text) (plan : Plan) (old mid : RunState I O E) (faults : Device E) (fault : Fault) (status : ℕ)
      → Plans arguments (Ok plan) → IsAsked Made IsNotCalled (wants_generator plan) → RunsOrLacks turns generates plan old mid (Err fault) → IsReported fault mid.faults faults
      → status ≡ (fault_row fault).0 → Serves turns Made IsNotCalled generates arguments old (with_faults mid faults) status
  Serves-run_fault turns Made IsNotCalled generates arguments plan old mid faults Start status planned asks runs is_reported status_is =
      (Ok plan, planned, asks, rw (runs.0, ← runs.1) (ReportsFault_from_IsReported Start mid faults status is_reported status_is))
  Serves-run_fault turns Made IsNotCalled generates arguments plan old mid faults (Run fault) status planned asks runs is_reported status_is =
      (Ok plan, planned, asks, rw runs.0 (mid, Err fault, runs.1, ReportsFault_from_IsReported (Run fault) mid faults status is_reported status_is))
  Serves-run_fault turns Made IsNotCalled generates arguments plan old mid faults (Usage fault) status planned asks runs is_reported status_is = absurd runs

  -- If `ErrorShown` holds for an error of `clap`, which may be help or the version, the clause `serves` holds.
  pub Serves-clap_error : (turns : ℕ) (Made IsNotCalled : Type 0) (generates : Bool) (arguments : List Text) (error : Error) (old : RunState I O E) (out : Device O) (faults : Device E) (status : ℕ)
      → Plans arguments (Err (Parse error)) → IsAsked Made IsNotCalled false → ErrorShown error turns old.out old.faults out faults status
      → Serves turns Made IsNotCalled generates arguments old (with_outs old out faults) status
  Serves-clap_error turns Made IsNotCalled generates arguments error old out faults status planned asks (mistake text result by shows same status_is) =
      (Err (Parse error), planned, asks, rw by (text, result, shows, ap (λ (o : Device O). with_outs old o faults) same, status_is))
  Serves-clap_error turns Made IsNotCalled generates arguments error old out faults status planned asks (help text by shows same status_is) = (
    Err (Parse error),
    planned,
    asks,
    rw by (
      text,
      with_outs old out old.faults,
      Ok (tally_of []),
      (shows, refl, refl),
      (ap (λ (f : Device E). with_outs old out f) same, status_is),
    ),
  )
  Serves-clap_error turns Made IsNotCalled generates arguments error old out faults status planned asks (front text fault by shows reported status_is) = (
    Err (Parse error),
    planned,
    asks,
    rw by (
      text,
      with_outs old out old.faults,
      Err fault,
      (shows, refl, tt),
      ReportsFault_from_IsReported (Run fault) (with_outs old out old.faults) faults status reported status_is,
    ),
  )
  Serves-clap_error turns Made IsNotCalled generates arguments error old out faults status planned asks (no_text reported same status_is) =
      (Err NoMemory, tt, asks, rw same (ReportsFault_from_IsReported (Usage NoMemory) old faults status reported status_is))

  -- If `RefusalShown` holds for the arguments' error, the clause `serves` holds.
  pub Serves-refusal : (turns : ℕ) (Made IsNotCalled : Type 0) (generates : Bool) (arguments : List Text) (fault : UsageFault) (old : RunState I O E) (out : Device O) (faults : Device E) (status : ℕ)
      → Plans arguments (Err fault) → IsAsked Made IsNotCalled false → RefusalShown fault turns old.out old.faults out faults status
      → Serves turns Made IsNotCalled generates arguments old (with_outs old out faults) status
  Serves-refusal turns Made IsNotCalled generates arguments (Parse error) old out faults status planned asks shown =
      Serves-clap_error turns Made IsNotCalled generates arguments error old out faults status planned asks shown
  Serves-refusal turns Made IsNotCalled generates arguments fault old out faults status planned asks (reported, same, status_is) =
      (Err fault, planned, asks, rw same (ReportsFault_from_IsReported (Usage fault) old faults status reported status_is))
