-- Consequences of the clauses of `run_command`: what status 0 means, and what the arguments for one hash print.
use Rattle.std.specs.Prelude.{◌≡◌, ℕ, ◌⊎◌, false, List, [], ◌∷◌, codes, Ok, Err}
use Rattle.std.specs.Io.KnownBytes.{Appends, IsAtEnd}
use Rattle.clap.specs.Words.{Text, kind_of}
use Rattle.clap.specs.declared.error.Error.{Error}
use Rattle.crypt_core.specs.Crypt.{crypt}
use Rattle.crypt_core.specs.MadeSettings.{made_scheme}
use Rattle.crypt_core.specs.Passwords.{IsPassword}
use Rattle.crypt_core.specs.Settings.{BeginsWith}
use Rattle.crypt_core.specs.declared.method.Method.{Method}
use Rattle.run_core.specs.Answers.{Answer, password_answer, tally_of, tally_status}
use Rattle.mkpasswd.specs.Commands.{IsAsked, wants_generator}
use Rattle.mkpasswd.specs.Faults.{parse_status}
use Rattle.run_core.specs.Devices.{Device}
use Rattle.run_core.specs.Input.{IsDecided, Reads, first_line}
use Rattle.run_core.specs.LineAnswers.{AreAnswers}
use Rattle.run_core.specs.LineRuns.{lines_of}
use Rattle.run_core.specs.Methods.{methods_text}
use Rattle.mkpasswd.specs.Options.{Plans}
use Rattle.run_core.specs.Output.{Takes}
use Rattle.run_core.specs.Runs.{Finishes, RunState}
use Rattle.run_core.specs.Texts.{as_line}
use Rattle.mkpasswd.specs.declared.fault.UsageFault.TheVariants.{Parse}
use Rattle.run_core.specs.declared.job.Job.{Job}
use Rattle.run_core.specs.declared.job.PasswordFrom.TheVariants.{Word, Input}
use Rattle.mkpasswd.specs.declared.plan.Plan.{Plan}
use Rattle.mkpasswd.specs.declared.plan.Plan.TheVariants.{Methods, One, Batch, Check, Audit}
use Rattle.run_core.specs.declared.line.Kind.{Kind}
use Rattle.run_core.specs.declared.line.Kind.TheVariants as kinds

-- ---- Status 0

module _ {I O E : Type 0} where
  -- GivesOnly text old new: `out` took this text and was flushed. No call failed, and nothing but `out` changed.
  pub record GivesOnly (text : List ℕ) (old new : RunState I O E) : Type 0 where
    pub others : new ≡ record old { out = new.out }
    pub gives : Takes 0 1 old.out new.out text

  -- Succeeds read answers old new: a run read these bytes and wrote these answers. No line was refused or got the
  -- verdict `no`, and no audited account needs care, so the status is 0.
  pub record Succeeds (read : List ℕ) (answers : List Answer) (old new : RunState I O E) : Type 0 where
    pub input : Reads old.input new.input read
    pub run : Finishes answers old new (Ok (tally_of answers))
    pub status : tally_status (tally_of answers) ≡ 0

  -- SucceedsByLines kind job old new: a run read the input to its end and answered each of its lines, with status 0.
  abbrev pub SucceedsByLines : Kind → Job → RunState I O E → RunState I O E → Type 0
  SucceedsByLines kind job old new =
      (bytes : List ℕ) × (answers : List Answer) × IsAtEnd new.input.shown × AreAnswers kind job job.first_line (lines_of bytes) old.stream answers
      × Succeeds bytes answers old new

  -- IsDone plan old new: the command did everything that the plan asks for. If the password is an argument, the input
  -- is unchanged. If it is in the input, the bytes that were read determine it.
  abbrev pub IsDone : Plan → RunState I O E → RunState I O E → Type 0
  IsDone Methods old new = GivesOnly methods_text old new
  IsDone (One job (Word password)) old new =
      IsPassword password.items × (new.input ≡ old.input)
      × Succeeds [] (password_answer job password.items old.stream ∷ []) old new
  IsDone (One job Input) old new =
      (bytes : List ℕ) × IsDecided new.input bytes × IsPassword (first_line bytes)
      × Succeeds bytes (password_answer job (first_line bytes) old.stream ∷ []) old new
  IsDone (Batch job) old new = SucceedsByLines kinds.Batch job old new
  IsDone (Check job) old new = SucceedsByLines kinds.Check job old new
  IsDone (Audit job) old new = SucceedsByLines kinds.Audit job old new

  -- IsHelped arguments old new: the arguments ask for help or the version. Some text was written to `out`, and nothing
  -- else changed.
  abbrev pub IsHelped : List Text → RunState I O E → RunState I O E → Type 0
  IsHelped arguments old new =
      (error : Error) × Plans arguments (Err (Parse error)) × (parse_status (kind_of error) ≡ 0)
      × (text : List ℕ) × GivesOnly text old new

  -- EndsWhole Made IsNotCalled arguments old new: the arguments make a plan, and all of it was done; or they ask for
  -- help or the version, which was printed. `Made` says that the command asked for a generator, and `IsNotCalled` that
  -- it did not.
  abbrev pub EndsWhole : Type 0 → Type 0 → List Text → RunState I O E → RunState I O E → Type 0
  EndsWhole Made IsNotCalled arguments old new =
      ((plan : Plan) × Plans arguments (Ok plan) × IsAsked Made IsNotCalled (wants_generator plan) × IsDone plan old new)
      ⊎ (IsAsked Made IsNotCalled false × IsHelped arguments old new)

-- ---- One hash

-- hash_arguments method salt password: the arguments `-m TYPE -S SALT PASSWORD`.
abbrev pub hash_arguments : Text → Text → Text → List Text
hash_arguments method salt password = codes "-m" ∷ method ∷ codes "-S" ∷ salt ∷ password ∷ []

-- IsNoOption word: the argument does not begin with a hyphen, or is a single hyphen. `clap` takes it as a value.
abbrev pub IsNoOption : Text → Type 0
IsNoOption word = (word ≡ codes "-") ⊎ ¬ BeginsWith word (codes "-")

-- PrintsHash method salt password old new: the output took the hash of the password and a line feed. The hash has this
-- method, its default rounds and this salt.
abbrev pub PrintsHash : {O : Type 0} → Method → Text → Text → Device O → Device O → Type 0
PrintsHash method salt password old new =
    Appends old.shown new.shown (as_line (crypt password (record { scheme = made_scheme method 0; salt = salt })))
