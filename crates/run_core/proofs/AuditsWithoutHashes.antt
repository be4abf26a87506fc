-- Lemmas for the clauses `hashes_none` and `allocates_none` of `run_audit`. No answer of an audit has a hash, so by
-- induction over the lines neither has the whole run. `HashesNothing_from_EndsLines` goes through the ways in which a
-- run over lines can end (`EndsLines`). In each of them the meter has counted exactly the hashes of the answers, which
-- are none. The run cannot end with `OutOfMemory`, since this error needs a hash for which scrypt could not allocate
-- memory.
use Rattle.std.specs.Prelude.{◌≢◌}
use Rattle.std.proofs.Common.{◌≡◌, ℕ, ◌+◌, List, [], ◌∷◌, ◌++◌, Result, Ok, Err, inl, inr, refl, sym, ap, ◌∙◌}
use Rattle.std.proofs.lemmas.List.Concat.{flat_map-append}
use Rattle.rand_core.specs.Stream.{Stream}
use Rattle.prims_core.specs.declared.meter.Work.{Work}
use Rattle.run_core.specs.Answers.{Answer, Hashing, IsRefusedAmong, hashings_of, stream_left}
use Rattle.run_core.specs.LineAnswers.{AreAnswers, IsAuditAnswer}
use Rattle.run_core.specs.LineRuns.{EndsLines}
use Rattle.run_core.specs.Runs.{IsAfter, RunState}
use Rattle.run_core.specs.declared.fault.RunFault.{RunFault}
use Rattle.run_core.specs.declared.fault.RunFault.TheVariants.{OutOfMemory}
use Rattle.run_core.specs.declared.job.Job.{Job}
use Rattle.run_core.specs.declared.line.Kind.TheVariants.{Audit}
use Rattle.run_core.specs.declared.tally.Tally.{Tally}

-- ---- no answer has a hash

hashings-audit_answer : (job : Job) (number : ℕ) (line : List ℕ) (answer : Answer) → IsAuditAnswer job number line answer → answer.hashings ≡ []
hashings-audit_answer job number line answer (inl (fault, refused, is)) = ap (λ (a : Answer). a.hashings) is
hashings-audit_answer job number line answer (inr (sound, parts, has, field, some, finding, finds, is)) = ap (λ (a : Answer). a.hashings) is

hashings_of-audit_answers : (job : Job) (number : ℕ) (lines : List (List ℕ)) (stream : Stream) (answers : List Answer)
    → AreAnswers Audit job number lines stream answers → hashings_of answers ≡ []
hashings_of-audit_answers job number [] stream [] are = refl
hashings_of-audit_answers job number (line ∷ lines) stream (answer ∷ answers) are =
    let first = hashings-audit_answer job number line answer are.0 in
    let others = hashings_of-audit_answers job (number + 1) lines (stream_left stream answer.hashings) answers are.1 in
    rw (first, others) refl
hashings_of-audit_answers job number [] stream (answer ∷ answers) are = absurd are
hashings_of-audit_answers job number (line ∷ lines) stream [] are = absurd are

-- If joining two lists gives the empty list, both are empty.
append-nil-parts : (front back : List Hashing) → front ++ back ≡ [] → (front ≡ []) × (back ≡ [])
append-nil-parts [] back is = (refl, is)
append-nil-parts (made ∷ front) back is = absurd cc

-- If the answers have no hashes, the last one has none.
hashings-last-nil : (done : List Answer) (next : Answer) → hashings_of (done ++ next ∷ []) ≡ [] → next.hashings ≡ []
hashings-last-nil done next none =
    let parts = append-nil-parts (hashings_of done) (hashings_of (next ∷ [])) (sym (flat_map-append _ done (next ∷ [])) ∙ none) in
    (append-nil-parts next.hashings [] parts.1).0

-- An empty list of hashes contains no hash for which scrypt could not allocate memory.
not_IsRefusedAmong-nil : (before after : Work) (hashings : List Hashing) (stream : Stream) → hashings ≡ [] → IsRefusedAmong before hashings after stream → ⊥
not_IsRefusedAmong-nil before after hashings stream none (made, next, others, are, failed, same) =
    let cut = append-nil-parts made (next ∷ others) (sym are ∙ none) in
    absurd (let some = cut.1 in cc)

-- ---- how the run ends

module _ {I O E : Type 0} where
  -- A run counted no work, and did not end with `OutOfMemory`. The two clauses of `run_audit` state this.
  pub record HashesNothing (old new : RunState I O E) (result : Result Tally RunFault) : Type 0 where
    pub hashes_none : new.counts ≡ old.counts
    pub allocates_none : result ≢ Err OutOfMemory

  -- A run that computed no hashes and did not end for a lack of memory hashes nothing.
  HashesNothing_from_IsAfter : (made : List Hashing) (old new : RunState I O E) (result : Result Tally RunFault) → made ≡ [] → IsAfter made old new → result ≢ Err OutOfMemory
      → HashesNothing old new result
  HashesNothing_from_IsAfter made old new result none after other = record {
    hashes_none = rw none at after.counts;
    allocates_none = other;
  }

  -- The cases are those of `EndsBy`, in order: all lines are answered; reading stopped, because a read failed or no I/O
  -- call was left; the run stopped at an answer, because a write failed, no I/O call was left or scrypt could not
  -- allocate memory; or a password was refused, which a run over lines never does.
  pub HashesNothing_from_EndsLines : (turns : ℕ) (job : Job) (old new : RunState I O E) (result : Result Tally RunFault) → EndsLines turns Audit job old new result → HashesNothing old new result
  HashesNothing_from_EndsLines turns job old new (Ok tally) (bytes, reads, (answers, (at_end, are), (is, takes, after))) =
      HashesNothing_from_IsAfter _ old new (Ok tally) (hashings_of-audit_answers job job.first_line _ old.stream answers are) after (λ same. cc)
  HashesNothing_from_EndsLines turns job old new (Err fault) (bytes, reads, inl (answers, (at_end, are), (is, takes, after))) =
      HashesNothing_from_IsAfter _ old new (Err fault) (hashings_of-audit_answers job job.first_line _ old.stream answers are) after (λ same. cc)
  HashesNothing_from_EndsLines turns job old new (Err fault) (bytes, reads, inr (inl (done, (lines, rest, has, no_feed, are), (after, moves, inl (is, takes))))) =
      HashesNothing_from_IsAfter _ old new (Err fault) (hashings_of-audit_answers job job.first_line lines old.stream done are) after (λ same. cc)
  HashesNothing_from_EndsLines turns job old new (Err fault) (bytes, reads, inr (inl (done, (lines, rest, has, no_feed, are), (after, moves, inr (is, takes, calls))))) =
      HashesNothing_from_IsAfter _ old new (Err fault) (hashings_of-audit_answers job job.first_line lines old.stream done are) after (λ same. cc)
  HashesNothing_from_EndsLines turns job old new (Err fault) (bytes, reads, inr (inr (inl (done, next, (lines, are, place), inl (is, (failures, takes, after)))))) =
      HashesNothing_from_IsAfter _ old new (Err fault) (hashings_of-audit_answers job job.first_line lines old.stream (done ++ next ∷ []) are) after (λ same. cc)
  HashesNothing_from_EndsLines turns job old new (Err fault) (bytes, reads, inr (inr (inl (done, next, (lines, are, place), inr (inl (is, (failures, takes, after), calls)))))) =
      HashesNothing_from_IsAfter _ old new (Err fault) (hashings_of-audit_answers job job.first_line lines old.stream (done ++ next ∷ []) are) after (λ same. cc)
  HashesNothing_from_EndsLines turns job old new (Err fault) (bytes, reads, inr (inr (inl (done, next, (lines, are, place), inr (inr (is, takes, refused)))))) =
      absurd (not_IsRefusedAmong-nil _ _ next.hashings _ (hashings-last-nil done next (hashings_of-audit_answers job job.first_line lines old.stream (done ++ next ∷ []) are)) refused)
  HashesNothing_from_EndsLines turns job old new (Err fault) (bytes, reads, inr (inr (inr (bad, is, broken, takes, after)))) = absurd broken
