-- Lemmas for the clause `runs` of `run_one`. The function has no loop, so there is a lemma for each of its exits, which
-- shows `EndsOne` from the clauses of the steps before it. The exits are, in order: there is no password, scrypt could
-- not allocate memory, writing stopped, both outputs were flushed, or a flush failed. `EndsOne_from_EndsPassword`
-- covers both sources of the password, so the lemmas after it need not know where the password came from.
--
-- The cases of `EndsPassword` are those of `EndsBy`, in order: the hash was written but a flush failed (`inl`), reading
-- stopped (`inr (inl ..)`), the run stopped at the answer (`inr (inr (inl ..))`), or the password was refused (`inr
-- (inr (inr ..))`). The run stops at the answer in one of three cases: a write failed, no I/O call was left, or scrypt
-- could not allocate memory.
use Rattle.std.proofs.Common.{◌≡◌, ℕ, ◌+◌, ◌≤◌, List, [], ◌∷◌, length, Result, Ok, Err, refl, sym, ap, subst, ◌∙◌, add-zero, append-nil, arith, inl, inr}
use Rattle.std.specs.Prelude.{⊤}
use Rattle.rand_core.specs.Stream.{Stream}
use Rattle.prims_core.specs.declared.meter.Work.{Work}
use Rattle.crypt_core.specs.Crypt.{IsAfterFailedAllocation}
use Rattle.crypt_core.specs.Passwords.{IsPassword, password_limit}
use Rattle.crypt_core.specs.Work.{raised_by, work}
use Rattle.run_core.specs.Answers.{hashings_of, new_hashing, password_answer}
use Rattle.run_core.specs.Devices.{Device}
use Rattle.run_core.specs.Input.{IsDecided, first_line}
use Rattle.run_core.specs.Makers.{next_setting, stream_after}
use Rattle.run_core.specs.One.{EndsOne, EndsPassword}
use Rattle.run_core.specs.Output.{Takes}
use Rattle.run_core.specs.Private.Deliveries.{Delivers, FinishesBoth}
use Rattle.run_core.specs.Private.Fetching.{IsPasswordFault, ObtainsFrom, StopsFetching}
use Rattle.run_core.specs.Runs.{IsAfter, RunState, TakeAll, run_state}
use Rattle.run_core.specs.Texts.{HasNoLineFeed}
use Rattle.run_core.specs.declared.fault.RunFault.{RunFault}
use Rattle.run_core.specs.declared.fault.RunFault.TheVariants.{OutOfMemory}
use Rattle.run_core.specs.declared.job.Job.{Job}
use Rattle.run_core.specs.declared.job.PasswordFrom.{PasswordFrom}
use Rattle.run_core.specs.declared.job.PasswordFrom.TheVariants.{Word, Input}
use Rattle.run_core.specs.declared.tally.Tally.{Tally}
use Rattle.run_core.proofs.Flushes.{HasAnswered, Finishes-flushed, Finishes-flush_failed}
use Rattle.run_core.proofs.SentTexts.{Takes-nil}

-- If a password was obtained, it is valid, and no read failed.
IsPassword_from_ObtainsFrom : {I : Type 0} (from : PasswordFrom) (old input : Device I) (left : ℕ) (password : List ℕ)
    → ObtainsFrom from old input left (Ok password) → IsPassword password × (input.failures ≡ old.failures)
IsPassword_from_ObtainsFrom (Word word) old input left password (same, (is, ok)) = (subst IsPassword (sym is) ok, ap (λ d. d.failures) same)
IsPassword_from_ObtainsFrom Input old input left password (bytes, reads, (unfailed, decided, is, ok)) = (ok, unfailed)

module _ {I O E : Type 0} (turns : ℕ) (job : Job) where
  -- outputs_kept old input stream counts: the state of the run after steps that left both outputs as they were.
  abbrev outputs_kept : RunState I O E → Device I → Stream → Work → RunState I O E
  outputs_kept old input stream counts = run_state input old.out old.faults stream counts

  -- If the outputs are as they were, and exactly `failed` reads failed, then `TakeAll` holds for no answers and this
  -- number of failures.
  TakeAll-nil : (old : RunState I O E) (input : Device I) (stream : Stream) (counts : Work) (failed : ℕ)
      → input.failures ≡ old.input.failures + failed → TakeAll failed 0 0 0 0 [] old (outputs_kept old input stream counts)
  TakeAll-nil old input stream counts failed failures =
      record { of_input = failures; text = Takes-nil old.out; fault_text = Takes-nil old.faults }

  -- If no hash was computed and no number drawn, the state is that after an empty list of hashes.
  IsAfter-nil : (old : RunState I O E) (input : Device I) → IsAfter [] old (outputs_kept old input old.stream old.counts)
  IsAfter-nil old input = record { stream = refl; counts = refl }

  -- ---- the password

  -- If no read failed and the password is refused, the run ends with this error.
  EndsPassword-refused : (Decided Undecided : Type 0) (password : List ℕ) (old : RunState I O E) (input : Device I) (fault : RunFault)
      → Decided → input.failures ≡ old.input.failures → IsPasswordFault fault password
      → EndsPassword Decided Undecided turns job password old (outputs_kept old input old.stream old.counts) (Err fault)
  EndsPassword-refused Decided Undecided password old input fault decided unfailed (rule, is, refused) = inr (inr (inr (
    rule,
    is,
    (decided, refused),
    TakeAll-nil old input old.stream old.counts 0 (unfailed ∙ sym (add-zero _)),
    IsAfter-nil old input,
  )))

  -- If a read failed or no I/O call was left before the whole password was read, the run ends with this error.
  EndsPassword-undecided : (Decided Undecided : Type 0) (password : List ℕ) (old : RunState I O E) (input : Device I) (left : ℕ) (fault : RunFault)
      → Undecided → StopsFetching left old.input input fault → input.calls + left ≡ old.input.calls + turns
      → EndsPassword Decided Undecided turns job password old (outputs_kept old input old.stream old.counts) (Err fault)
  EndsPassword-undecided Decided Undecided password old input left fault undecided (moves, stops) calls = inr (inl (
    [],
    (undecided, refl),
    (
      IsAfter-nil old input,
      moves,
      elim stops [
        | inl (is, failed) ↦ inl (is, TakeAll-nil old input old.stream old.counts 1 failed)
        | inr (is, unfailed, none) ↦ inr (is, TakeAll-nil old input old.stream old.counts 0 (unfailed ∙ sym (add-zero _)), omega (arith, none, calls))
      ],
    ),
  ))

  -- Exit without a password: if the password was refused, a read failed or no I/O call was left, the run ends with this
  -- error.
  pub EndsOne-without_password : (from : PasswordFrom) (old : RunState I O E) (input : Device I) (left : ℕ) (fault : RunFault)
      → ObtainsFrom from old.input input left (Err fault) → input.calls + left ≡ old.input.calls + turns
      → EndsOne turns job from old (outputs_kept old input old.stream old.counts) (Err fault)
  EndsOne-without_password (Word word) old input left fault (same, refused) calls =
      (same, EndsPassword-refused ⊤ ⊥ word.items old input fault tt (ap (λ d. d.failures) same) refused)
  EndsOne-without_password Input old input left fault (bytes, reads, inl (undecided, stops)) calls =
      (bytes, reads, EndsPassword-undecided (IsDecided input bytes) _ (first_line bytes) old input left fault undecided stops calls)
  EndsOne-without_password Input old input left fault (bytes, reads, inr (unfailed, decided, refused)) calls =
      (bytes, reads, EndsPassword-refused (IsDecided input bytes) _ (first_line bytes) old input fault decided unfailed refused)

  -- If a run has obtained its password, `EndsPassword` for this password gives `EndsOne`, whether the password is an
  -- argument or comes from the input.
  EndsOne_from_EndsPassword : (from : PasswordFrom) (old new : RunState I O E) (left : ℕ) (password : List ℕ) (result : Result Tally RunFault)
      → ObtainsFrom from old.input new.input left (Ok password)
      → ((Decided Undecided : Type 0) → Decided → EndsPassword Decided Undecided turns job password old new result)
      → EndsOne turns job from old new result
  EndsOne_from_EndsPassword (Word word) old new left password result (same, (is, ok)) ends =
      (same, subst (λ (p : List ℕ). EndsPassword ⊤ ⊥ turns job p old new result) is (ends ⊤ ⊥ tt))
  EndsOne_from_EndsPassword Input old new left password result (bytes, reads, (unfailed, decided, is, ok)) ends =
      let Undecided = HasNoLineFeed bytes × (length bytes ≤ password_limit) in (
        bytes,
        reads,
        subst (λ (p : List ℕ). EndsPassword (IsDecided new.input bytes) Undecided turns job p old new result) is
            (ends (IsDecided new.input bytes) Undecided decided),
      )

  -- ---- the hash

  -- Exit without memory: if scrypt could not allocate memory for the hash, the run ends with `OutOfMemory`.
  pub EndsOne-out_of_memory : (from : PasswordFrom) (password : List ℕ) (old : RunState I O E) (input : Device I) (stream : Stream) (counts : Work) (left : ℕ)
      → ObtainsFrom from old.input input left (Ok password) → stream ≡ stream_after job.maker old.stream
      → IsAfterFailedAllocation old.counts (next_setting job.maker old.stream).scheme counts
      → EndsOne turns job from old (outputs_kept old input stream counts) (Err OutOfMemory)
  EndsOne-out_of_memory from password old input stream counts left obtains drawn refused =
      let is = IsPassword_from_ObtainsFrom from old.input input left password obtains in
      EndsOne_from_EndsPassword from old (outputs_kept old input stream counts) left password (Err OutOfMemory) obtains (λ Decided Undecided decided. inr (inr (inl (
        [],
        password_answer job password old.stream,
        (decided, is.0, refl),
        inr (inr (
          refl,
          TakeAll-nil old input stream counts 0 (is.1 ∙ sym (add-zero _)),
          ([], new_hashing job password old.stream, [], refl, refused, drawn),
        )),
      ))))

  -- The hash was computed. Its random numbers have been drawn, its work has been counted, and `line` is its output
  -- line.
  pub record HasHash (from : PasswordFrom) (password line : List ℕ) (old : RunState I O E) (input : Device I) (stream : Stream) (counts : Work) (left : ℕ) : Type 0 where
    pub obtains : ObtainsFrom from old.input input left (Ok password)
    pub calls : input.calls + left ≡ old.input.calls + turns
    pub line_is : line ≡ (password_answer job password old.stream).text
    pub stream_is : stream ≡ stream_after job.maker old.stream
    pub counts_are : counts ≡ raised_by old.counts (work password (next_setting job.maker old.stream))

  pub HasHash-hashed : (from : PasswordFrom) (password line : List ℕ) (old : RunState I O E) (input : Device I) (stream : Stream) (counts : Work) (left : ℕ)
      → ObtainsFrom from old.input input left (Ok password) → input.calls + left ≡ old.input.calls + turns
      → stream ≡ stream_after job.maker old.stream → counts ≡ raised_by old.counts (work password (next_setting job.maker old.stream))
      → line ≡ (password_answer job password old.stream).text
      → HasHash from password line old input stream counts left
  HasHash-hashed from password line old input stream counts left obtains calls drawn is_counted hashed =
      record { obtains = obtains; calls = calls; line_is = hashed; stream_is = drawn; counts_are = is_counted }

  IsAfter_from_HasHash : (from : PasswordFrom) (password line : List ℕ) (old : RunState I O E) (input : Device I) (out : Device O) (faults : Device E) (stream : Stream) (counts : Work) (left : ℕ)
      → HasHash from password line old input stream counts left
      → IsAfter (hashings_of (password_answer job password old.stream ∷ [])) old (run_state input out faults stream counts)
  IsAfter_from_HasHash from password line old input out faults stream counts left has = record { stream = has.stream_is; counts = has.counts_are }

  -- ---- writing

  -- Exit while writing: if only a prefix of the line was written, because a write failed or no I/O call was left, the
  -- run ends with this error.
  pub EndsOne-written_in_part : (from : PasswordFrom) (password line : List ℕ) (old : RunState I O E) (input : Device I) (out : Device O) (stream : Stream) (counts : Work) (left : ℕ) (fault : RunFault)
      → HasHash from password line old input stream counts left
      → Delivers left old.out out line {A = Unit {0}} (Err fault)
      → EndsOne turns job from old (run_state input out old.faults stream counts) (Err fault)
  EndsOne-written_in_part from password line old input out stream counts left fault has delivers =
      let is = IsPassword_from_ObtainsFrom from old.input input left password has.obtains in
      let after = IsAfter_from_HasHash from password line old input out old.faults stream counts left has in
      EndsOne_from_EndsPassword from old (run_state input out old.faults stream counts) left password (Err fault) has.obtains (λ Decided Undecided decided. inr (inr (inl (
        [],
        password_answer job password old.stream,
        (decided, is.0, refl),
        elim delivers [
          | inl (stop, (sent, unsent, split, some, takes)) ↦
              inl (stop, (is.1, ((sent, unsent, split ∙ has.line_is, some, takes), Takes-nil old.faults), after))
          | inr (stop, (sent, unsent, split, some, takes), made) ↦
              inr (inl (
                stop,
                (is.1, ((sent, unsent, split ∙ has.line_is, some, takes), Takes-nil old.faults), after),
                (let calls = has.calls in omega (arith, calls, made)),
              ))
        ],
      ))))

  -- If the whole line was written, the answer to the password is all that the run has written.
  HasAnswered_from_HasHash : (from : PasswordFrom) (password line : List ℕ) (old : RunState I O E) (input : Device I) (out : Device O) (stream : Stream) (counts : Work) (left : ℕ)
      → HasHash from password line old input stream counts left → Takes 0 0 old.out out line
      → HasAnswered (password_answer job password old.stream ∷ []) old (run_state input out old.faults stream counts)
  HasAnswered_from_HasHash from password line old input out stream counts left has takes =
      let is = IsPassword_from_ObtainsFrom from old.input input left password has.obtains in
      record {
        takes = record {
          of_input = is.1 ∙ sym (add-zero _);
          text = subst (Takes 0 0 old.out out) (has.line_is ∙ sym (append-nil _)) takes;
          fault_text = Takes-nil old.faults;
        };
        after = IsAfter_from_HasHash from password line old input out old.faults stream counts left has;
      }

  -- Last exit: if the line was written and both outputs were flushed, the run ends with a tally of one line.
  pub EndsOne-flushed : (from : PasswordFrom) (password line : List ℕ) (old : RunState I O E) (input : Device I) (out new_out : Device O) (faults : Device E) (stream : Stream) (counts : Work) (left : ℕ) {A : Type 0} (done : A)
      → HasHash from password line old input stream counts left → Takes 0 0 old.out out line
      → FinishesBoth out old.faults new_out faults (Ok done)
      → EndsOne turns job from old (run_state input new_out faults stream counts) (Ok (record { lines = 1; refused = 0; misfits = 0 }))
  EndsOne-flushed from password line old input out new_out faults stream counts left done has takes flushes =
      let answer = password_answer job password old.stream in
      let tally : Tally = record { lines = 1; refused = 0; misfits = 0 } in
      let ok = (IsPassword_from_ObtainsFrom from old.input input left password has.obtains).0 in
      EndsOne_from_EndsPassword from old (run_state input new_out faults stream counts) left password (Ok tally) has.obtains (λ Decided Undecided decided. (
        answer ∷ [],
        (decided, ok, refl),
        Finishes-flushed (answer ∷ []) old (run_state input out old.faults stream counts) new_out faults tally done
            (HasAnswered_from_HasHash from password line old input out stream counts left has takes) refl flushes,
      ))

  -- Exit while flushing: if the line was written but a flush failed, the run ends with this error.
  pub EndsOne-flush_failed : (from : PasswordFrom) (password line : List ℕ) (old : RunState I O E) (input : Device I) (out new_out : Device O) (faults : Device E) (stream : Stream) (counts : Work) (left : ℕ) (A : Type 0) (fault : RunFault)
      → HasHash from password line old input stream counts left → Takes 0 0 old.out out line
      → FinishesBoth out old.faults new_out faults {A = A} (Err fault)
      → EndsOne turns job from old (run_state input new_out faults stream counts) (Err fault)
  EndsOne-flush_failed from password line old input out new_out faults stream counts left A fault has takes flushes =
      let answer = password_answer job password old.stream in
      let ends = Finishes-flush_failed (answer ∷ []) old (run_state input out old.faults stream counts) new_out faults A fault
      (HasAnswered_from_HasHash from password line old input out stream counts left has takes) flushes in
      let ok = (IsPassword_from_ObtainsFrom from old.input input left password has.obtains).0 in
      EndsOne_from_EndsPassword from old (run_state input new_out faults stream counts) left password (Err fault) has.obtains
      (λ Decided Undecided decided. inl (answer ∷ [], (decided, ok, refl), ends))
