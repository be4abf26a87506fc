-- The arguments `-m TYPE -S SALT PASSWORD` print the hash of the password, for the clause `prints` of `run_command`.
-- With status 0 the command did all that they ask for (WholeCommands), and `clap` found exactly the three texts
-- (GivenArguments). So the plan is to hash this password with this salt, since every other plan contradicts what `clap`
-- found.
use Rattle.std.proofs.Common.{◌≡◌, Bool, List, Some, true, false, true≢false, codes, ap, subst, sym, ◌∙◌, inl, inr, append-nil, arith}
use Rattle.std.proofs.lemmas.Option.{none-some}
use Rattle.clap.specs.Words.{Row, Text, matches_of}
use Rattle.rand_core.specs.Stream.{Stream}
use Rattle.crypt_core.specs.Crypt.{crypt}
use Rattle.crypt_core.specs.MadeSettings.{made_scheme}
use Rattle.crypt_core.specs.Methods.{method_named}
use Rattle.crypt_core.specs.Settings.{BeginsWith}
use Rattle.crypt_core.specs.declared.method.Method.{Method}
use Rattle.run_core.specs.Answers.{password_answer}
use Rattle.mkpasswd.specs.Corollaries.{IsNoOption, EndsWhole, PrintsHash, hash_arguments}
use Rattle.mkpasswd.specs.Options.{IsJob, command}
use Rattle.run_core.specs.Runs.{RunState}
use Rattle.run_core.specs.Texts.{as_line}
use Rattle.run_core.specs.declared.job.Job.{Job}
use Rattle.run_core.specs.declared.job.PasswordFrom.TheVariants.{Word, Input}
use Rattle.mkpasswd.specs.declared.plan.Plan.TheVariants.{Methods, One, Batch, Check, Audit}
use Rattle.mkpasswd.proofs.GivenArguments.{IsGiven, fault_of-hash_arguments, IsGiven-hash_arguments}

-- ---- The name of a method is no option

module _ (name : Text) (method : Method) (named : method_named name ≡ Some method) where
  method_named-no_hyphen : ¬ BeginsWith name (codes "-")
  method_named-no_hyphen (rest, is) = none-some method (subst (λ (text : Text). method_named text ≡ Some method) is named)

  method_named-not_help : ¬ (name ≡ codes "help")
  method_named-not_help is = none-some method (subst (λ (text : Text). method_named text ≡ Some method) is named)

-- ---- What the arguments mean

-- The answer of a job with this method, this salt and no counts of the work is the line with the hash.
text-password_answer : (method : Method) (salt password : Text) (job : Job) (bytes : Text) (stream : Stream)
    → job.maker ≡ record { scheme = made_scheme method 0; salt = Some salt } → job.work ≡ false → bytes ≡ password
    → (password_answer job bytes stream).text ≡ as_line (crypt password (record { scheme = made_scheme method 0; salt = salt }))
text-password_answer method salt password job bytes stream maker_is work_is bytes_is =
    rw (maker_is, work_is, bytes_is) (ap as_line (append-nil (crypt password (record { scheme = made_scheme method 0; salt = salt }))))

module _ (name salt password : Text) (method : Method) (named : method_named name ≡ Some method)
    (salt_is : IsNoOption salt) (password_is : IsNoOption password) where
  -- The name of a method is no option, because it does not begin with a hyphen.
  name-IsNoOption : IsNoOption name
  name-IsNoOption = inr (method_named-no_hyphen name method named)

  IsGiven-matches_of : (arguments : List Text) → arguments ≡ hash_arguments name salt password → IsGiven name salt password (matches_of command arguments)
  IsGiven-matches_of arguments are = IsGiven-hash_arguments name salt password arguments are name-IsNoOption salt_is password_is

  method_named-unique : (own : Method) → method_named name ≡ Some own → own ≡ method
  method_named-unique own own_named = let own_here = own_named in let named_here = named in cc

  -- A job for rows with these three texts answers with the line of this hash.
  text-IsJob : (rows : List Row) (job : Job) (bytes : Text) (stream : Stream) → IsGiven name salt password rows → IsJob rows job
      → bytes ≡ password → (password_answer job bytes stream).text ≡ as_line (crypt password (record { scheme = made_scheme method 0; salt = salt }))
  text-IsJob rows job bytes stream found is_job bytes_is =
      let own = method_named-unique is_job.maker.0 (rw found.type at is_job.maker.1) in
      text-password_answer method salt password job bytes stream (rw (found.audit, found.rounds, found.salt_is, own) at is_job.maker.2) (is_job.work ∙ found.work) bytes_is

  -- A flag can't be both set and not set.
  not_set_and_unset : {set : Bool} → set ≡ false → set ≡ true → ⊥
  not_set_and_unset off on = true≢false (sym on ∙ off)

  -- If the command did all that `-m TYPE -S SALT PASSWORD` asks for, it printed the hash. No other plan fits these
  -- arguments.
  pub PrintsHash_from_EndsWhole : {I O E : Type 0} (Made IsNotCalled : Type 0) (arguments : List Text) (old new : RunState I O E) → arguments ≡ hash_arguments name salt password
      → EndsWhole Made IsNotCalled arguments old new → PrintsHash method salt password old.out new.out
  PrintsHash_from_EndsWhole Made IsNotCalled arguments old new are (inr (asked, (error, refuses, by, text, gives))) =
      absurd (rw (are, fault_of-hash_arguments name salt password name-IsNoOption salt_is password_is) at refuses.called_for)
  PrintsHash_from_EndsWhole Made IsNotCalled arguments old new are (inl (Methods, (taken, asks), asked, done)) = absurd (method_named-not_help name method named (rw (IsGiven-matches_of arguments are).type at asks))
  PrintsHash_from_EndsWhole Made IsNotCalled arguments old new are (inl (One job (Word typed), (taken, (other, unbroken, (is_job, is))), asked, done)) =
      let found = IsGiven-matches_of arguments are in
      let same : Some typed.items ≡ Some password = sym is ∙ found.word in
      rw (text-IsJob (matches_of command arguments) job typed.items old.stream found is_job cc, append-nil) at done.2.run.1.text.shown
  PrintsHash_from_EndsWhole Made IsNotCalled arguments old new are (inl (One job Input, (taken, (other, unbroken, (is_job, inl is))), asked, done)) =
      absurd (not_set_and_unset (IsGiven-matches_of arguments are).stdin is)
  PrintsHash_from_EndsWhole Made IsNotCalled arguments old new are (inl (One job Input, (taken, (other, unbroken, (is_job, inr none))), asked, done)) =
      absurd (omega (arith, (IsGiven-matches_of arguments are).modes))
  PrintsHash_from_EndsWhole Made IsNotCalled arguments old new are (inl (Batch job, (taken, (other, unbroken, (is_job, is))), asked, done)) =
      absurd (not_set_and_unset (IsGiven-matches_of arguments are).batch is)
  PrintsHash_from_EndsWhole Made IsNotCalled arguments old new are (inl (Check job, (taken, (other, unbroken, (is_job, is))), asked, done)) =
      absurd (not_set_and_unset (IsGiven-matches_of arguments are).check is)
  PrintsHash_from_EndsWhole Made IsNotCalled arguments old new are (inl (Audit job, (taken, (other, unbroken, (is_job, is))), asked, done)) =
      absurd (not_set_and_unset (IsGiven-matches_of arguments are).audit is)
