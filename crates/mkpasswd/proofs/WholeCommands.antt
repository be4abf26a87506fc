-- What status 0 means, for the clause `whole` of `run_command`: everything that the arguments ask for was done, or help
-- or the version was printed in full. The proof goes through the cases of `Serves`. An error of a run, a missing
-- generator and refused arguments have other statuses. So the run ended with a tally, and by its clauses all answers
-- were written.
use Rattle.std.proofs.Common.{◌≡◌, ℕ, Bool, true, false, not, ◌&&◌, Result, List, [], Option, Some, None, Ok, Err, refl, zero, suc, inl, inr, subst, sym, ◌∙◌, arith}
use Rattle.std.specs.Prelude.{MatchBool}
use Rattle.std.specs.Io.KnownBytes.{Consumes}
use Rattle.clap.specs.Words.{Text, kind_of}
use Rattle.clap.specs.declared.error.Error.{Error}
use Rattle.run_core.specs.Answers.{Answer, tally_status}
use Rattle.mkpasswd.specs.Commands.{Concludes, Ends, IsAsked, ReportsFault, Serves, ShowsError, wants_generator}
use Rattle.mkpasswd.specs.Corollaries.{IsDone, EndsWhole, Succeeds, SucceedsByLines}
use Rattle.mkpasswd.specs.declared.fault.Fault.TheVariants.{Start}
use Rattle.run_core.specs.Devices.{Device}
use Rattle.mkpasswd.specs.Faults.{parse_status, run_row}
use Rattle.run_core.specs.Input.{Reads}
use Rattle.run_core.specs.LineRuns.{EndsLines}
use Rattle.mkpasswd.specs.Options.{Plans}
use Rattle.run_core.specs.Runs.{Finishes, RunState}
use Rattle.run_core.specs.declared.fault.RunFault.{RunFault}
use Rattle.run_core.specs.declared.fault.RunFault.TheVariants.{Read}
use Rattle.mkpasswd.specs.declared.fault.UsageFault.TheVariants.{Parse}
use Rattle.run_core.specs.declared.job.Job.{Job}
use Rattle.run_core.specs.One.{EndsOne}
use Rattle.run_core.specs.declared.job.PasswordFrom.{PasswordFrom}
use Rattle.run_core.specs.declared.job.PasswordFrom.TheVariants.{Word, Input}
use Rattle.mkpasswd.specs.declared.plan.Plan.{Plan}
use Rattle.mkpasswd.specs.declared.plan.Plan.TheVariants.{Methods, One, Batch, Check, Audit}
use Rattle.run_core.specs.declared.line.Kind.{Kind}
use Rattle.run_core.specs.declared.line.Kind.TheVariants as kinds
use Rattle.run_core.specs.declared.tally.Tally.{Tally}

-- ---- No error of a run has status 0

run_row-nonzero : (fault : RunFault) → (run_row fault).0 ≡ 0 → ⊥
run_row-nonzero Read is = absurd (omega (arith, is))
run_row-nonzero fault is = absurd (omega (arith, is))

Consumes-nothing : (known : Option (List ℕ)) → Consumes known known []
Consumes-nothing None = tt
Consumes-nothing (Some bytes) = refl

Reads-nothing : {I : Type 0} (input : Device I) → Reads input input []
Reads-nothing input = record { shown = Consumes-nothing input.shown; counted = omega arith }

module _ {I O E : Type 0} where
  -- ---- A plan whose run has a tally of status 0

  -- If the tally of a run has status 0, the run succeeded: it wrote all its answers, no line was refused or got the
  -- verdict `no`, and no audited account needs care.
  Succeeds_from_Finishes : (answers : List Answer) (read : List ℕ) (old new : RunState I O E) (tally : Tally) → tally_status tally ≡ 0
      → Reads old.input new.input read → Finishes answers old new (Ok tally)
      → Succeeds read answers old new
  Succeeds_from_Finishes answers read old new tally well input (is, takes, after) = record {
    input = input;
    run = (refl, takes, after);
    status = rw is at well;
  }

  -- If the run of one password ends with a tally of status 0, the plan to hash this password is done.
  IsDone_from_EndsOne : (turns : ℕ) (job : Job) (from : PasswordFrom) (old new : RunState I O E) (tally : Tally) → tally_status tally ≡ 0
      → EndsOne turns job from old new (Ok tally) → IsDone (One job from) old new
  IsDone_from_EndsOne turns job (Word password) old new tally well (same, (answers, (known, is_password, are), finishes)) = (
    is_password,
    same,
    Succeeds_from_Finishes _ [] old new tally well (rw same (Reads-nothing old.input)) (subst (λ (a : List Answer). Finishes a old new (Ok tally)) are finishes),
  )
  IsDone_from_EndsOne turns job Input old new tally well (bytes, reads, (answers, (decided, is_password, are), finishes)) = (
    bytes,
    decided,
    is_password,
    Succeeds_from_Finishes _ bytes old new tally well reads (subst (λ (a : List Answer). Finishes a old new (Ok tally)) are finishes),
  )

  -- If a run over lines ends with a tally of status 0, it succeeded on all lines.
  SucceedsByLines_from_EndsLines : (turns : ℕ) (kind : Kind) (job : Job) (old new : RunState I O E) (tally : Tally) → tally_status tally ≡ 0
      → EndsLines turns kind job old new (Ok tally) → SucceedsByLines kind job old new
  SucceedsByLines_from_EndsLines turns kind job old new tally well (bytes, reads, (answers, (read_out, are), finishes)) =
      (bytes, answers, read_out, are, Succeeds_from_Finishes answers bytes old new tally well reads finishes)

  -- If the run of any plan ends with a tally of status 0, the plan is done.
  IsDone_from_Ends : (turns : ℕ) (plan : Plan) (old new : RunState I O E) (tally : Tally) → tally_status tally ≡ 0
      → Ends turns plan old new (Ok tally) → IsDone plan old new
  IsDone_from_Ends turns Methods old new tally well (shows, same, is) =
      record { others = same; gives = shows.0 }
  IsDone_from_Ends turns (One job from) old new tally well runs = IsDone_from_EndsOne turns job from old new tally well runs.ends
  IsDone_from_Ends turns (Batch job) old new tally well runs = SucceedsByLines_from_EndsLines turns kinds.Batch job old new tally well runs.ends
  IsDone_from_Ends turns (Check job) old new tally well runs = SucceedsByLines_from_EndsLines turns kinds.Check job old new tally well runs.ends
  IsDone_from_Ends turns (Audit job) old new tally well runs = SucceedsByLines_from_EndsLines turns kinds.Audit job old new tally well runs.ends

  -- If the arguments make a plan and the status is 0, all of the plan was done.
  EndsWhole-plan : (lacks : Bool) (turns : ℕ) (Made IsNotCalled : Type 0) (plan : Plan) (arguments : List Text) (old new : RunState I O E) (status : ℕ) → status ≡ 0 → Plans arguments (Ok plan)
      → IsAsked Made IsNotCalled (wants_generator plan)
      → MatchBool lacks (ReportsFault Start old new status)
      ((mid : RunState I O E) × (result : Result Tally RunFault) × Ends turns plan old mid result × Concludes result mid new status)
      → EndsWhole Made IsNotCalled arguments old new
  EndsWhole-plan true turns Made IsNotCalled plan arguments old new status well planned asks (result, shows, same, is) = absurd (omega (arith, is, well))
  EndsWhole-plan false turns Made IsNotCalled plan arguments old new status well planned asks (mid, Ok tally, ends, (same, is)) =
      rw same (inl (plan, planned, asks, IsDone_from_Ends turns plan old mid tally (sym is ∙ well) ends))
  EndsWhole-plan false turns Made IsNotCalled plan arguments old new status well planned asks (mid, Err fault, ends, (result, shows, same, is)) =
      absurd (run_row-nonzero fault (sym is ∙ well))

  -- ---- Arguments that are refused

  -- If `clap` returns an error and the status is 0, help or the version was printed in full.
  EndsWhole-clap_error : (kept : ℕ) (turns : ℕ) (Made IsNotCalled : Type 0) (arguments : List Text) (error : Error) (old new : RunState I O E) (status : ℕ) → status ≡ 0
      → Plans arguments (Err (Parse error)) → IsAsked Made IsNotCalled false → parse_status (kind_of error) ≡ kept
      → ShowsError kept turns old new status → EndsWhole Made IsNotCalled arguments old new
  EndsWhole-clap_error zero turns Made IsNotCalled arguments error old new status well planned asks by (text, mid, Ok tally, (shows, rest, none), (same, is)) =
      inr (asks, (error, planned, by, text, rw same (record { others = rest; gives = shows.0 })))
  EndsWhole-clap_error zero turns Made IsNotCalled arguments error old new status well planned asks by (text, mid, Err fault, prints, (result, shows, same, is)) =
      absurd (run_row-nonzero fault (sym is ∙ well))
  EndsWhole-clap_error (suc n) turns Made IsNotCalled arguments error old new status well planned asks by (text, result, shows, same, is) =
      absurd (omega (arith, is, well))

  -- If a command that `Serves` describes has status 0, it did all that its arguments ask for, or printed help or the
  -- version.
  pub EndsWhole_from_Serves : (turns : ℕ) (Made IsNotCalled : Type 0) (generates : Bool) (arguments : List Text) (old new : RunState I O E) (status : ℕ) → status ≡ 0
      → Serves turns Made IsNotCalled generates arguments old new status → EndsWhole Made IsNotCalled arguments old new
  EndsWhole_from_Serves turns Made IsNotCalled generates arguments old new status well (Ok plan, planned, asks, follows) =
      EndsWhole-plan (wants_generator plan && not generates) turns Made IsNotCalled plan arguments old new status well planned asks follows
  EndsWhole_from_Serves turns Made IsNotCalled generates arguments old new status well (Err (Parse error), planned, asks, follows) =
      EndsWhole-clap_error (parse_status (kind_of error)) turns Made IsNotCalled arguments error old new status well planned asks refl follows
  EndsWhole_from_Serves turns Made IsNotCalled generates arguments old new status well (Err fault, planned, asks, (result, shows, same, is)) = absurd (omega (arith, is, well))
