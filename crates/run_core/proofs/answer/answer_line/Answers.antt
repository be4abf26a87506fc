-- Proves the goals of `answer_line`: its clause `decides` at each return, the clause `short`, and the precondition of
-- `unwrap`. A line that is too long is refused as `LineTooLong`. Any other line that `inspect` accepts has its parts,
-- to which the clause `settles` of `outcome_of` applies. The work in the answer is the difference of two readings of
-- the meter, which is the work of the hashes (`after_work-told`). In each `decides`, `text` is the line in the buffer
-- (`stands`), and the answer is right whatever the number of the line is (`number`).
use Rattle.std.proofs.Common.{◌≡◌, ℕ, List, ap, sym, subst, ◌∙◌, refl, rules, Option, Some, None}
use Rattle.std.specs.Prelude.{Result, Ok, MatchOption}
use Rattle.std.specs.Option.{IsSome}
use Rattle.std.proofs.lemmas.Result.{err_from_is_err_and}
use Rattle.prims_core.specs.Work.{no_work}
use Rattle.prims_core.specs.declared.meter.Work.{Work}
use Rattle.crypt_core.specs.Work.{raised_by}
use Rattle.run_core.specs.Answers.{Hashing, after_work}
use Rattle.run_core.specs.LineAnswers.{answer_of, refusal}
use Rattle.run_core.specs.Lines.{HasParts, Parts}
use Rattle.run_core.specs.Private.Answers.{Concludes}
use Rattle.run_core.specs.Private.Lines.{HasSoundParts, Represents, parts_of}
use Rattle.run_core.specs.declared.answer.Outcome.{Outcome}
use Rattle.run_core.specs.declared.line.LineFault.{LineFault}
use Rattle.run_core.specs.declared.line.LineFault.TheVariants.{LineTooLong, NoPassword}
use Rattle.run_core.specs.declared.reader.buffer.LineBuffer.{LineBuffer}
use Rattle.run_core.proofs.CountedWork.{after_work-raised_by}
use Rattle.run_core.proofs.LineOutcomes.{IsAnswer-refusal}
use Rattle.run_core.proofs.LineRules.{length-name-le, too_long-refused}
use Rattle.run_core.proofs.answer.answer_line.Goals as goal

pub returns-in_default-clause-decides : goal.returns-in_default-clause-decides
returns-in_default-clause-decides g c = λ text stands number.
    let refused = too_long-refused c.args.kind text (subst (λ (buffer : LineBuffer). Represents buffer text) c.in_default.is stands) in (
      refusal number LineTooLong,
      IsAnswer-refusal c.args.kind c.args.job.now number text (g.R.Rng.stream c.args.rng.now) LineTooLong refused,
      refl,
      refl,
      refl,
    )

-- If `None` would state something that is false, the result is `Some`.
IsSome-never_lacks : {A : Type 0} (result : Option A) (Lacks : Type 0) (Has : A → Type 0) → MatchOption result Lacks Has → ¬ Lacks → IsSome result
IsSome-never_lacks (Some found) Lacks Has has never = search rules
IsSome-never_lacks None Lacks Has lacks never = absurd (never lacks)

pub unwrap-parts-requires : goal.unwrap-parts-requires
unwrap-parts-requires g c =
    IsSome-never_lacks c.of.result ((parts : Parts) → ¬ HasParts c.args.kind c.as_slice-bytes.result.now parts) _ c.of.ensures
    (c.in_default-inspect.ensures.sound NoPassword)

pub returns-in_err-outcome-clause-decides : goal.returns-in_err-outcome-clause-decides
returns-in_err-outcome-clause-decides g c = λ text stands.
    let is : c.in-Bytes.bytes.items ≡ text = subst (λ (buffer : LineBuffer). Represents buffer text) c.in-Bytes.is stands in
    let parts = parts_of c.unwrap-parts.result in
    let taken : HasSoundParts c.args.kind c.as_slice-bytes.result.now parts =
    record { sound = c.in_default-inspect.ensures.sound; cut = rw c.unwrap-parts.ensures at c.of.ensures } in
    let p = err_from_is_err_and c.from_residual.result c.from_residual.ensures.1 in
    let ends = c.in_err-outcome.ensures.settles text (subst (λ (t : List ℕ). HasSoundParts c.args.kind t parts) (c.as_slice-bytes.ensures.value ∙ is) taken) in
    rw p.1 (λ number. (answer_of c.args.job.now parts.name ends.0 ends.1, ends.2 number, ends.3))

-- The work that the meter counted between its two readings is that of the hashes.
after_work-told : (before after reading told : Work) (hashings : List Hashing) → after ≡ after_work before hashings → reading ≡ before
    → ((more : Work) → after ≡ raised_by reading more → told ≡ more) → after_work no_work hashings ≡ told
after_work-told before after reading told hashings made read raised =
    sym (raised (after_work no_work hashings) (made ∙ (after_work-raised_by before hashings ∙ ap (λ (w : Work). raised_by w (after_work no_work hashings)) (sym read))))

pub returns-clause-decides : goal.returns-clause-decides
returns-clause-decides g c = λ text stands number.
    let job = c.args.job.now in
    let stream = g.R.Rng.stream c.args.rng.now in
    let is : c.in-Bytes.bytes.items ≡ text = subst (λ (buffer : LineBuffer). Represents buffer text) c.in-Bytes.is stands in
    let parts = parts_of c.unwrap-parts.result in
    let taken : HasSoundParts c.args.kind c.as_slice-bytes.result.now parts =
    record { sound = c.in_default-inspect.ensures.sound; cut = rw c.unwrap-parts.ensures at c.of.ensures } in
    let result : c.in_ok-outcome.field-0 ≡ Ok c.in-Ok.outcome = c.in-Ok.is in
    let settles = c.in_ok-outcome.ensures.settles text (subst (λ (t : List ℕ). HasSoundParts c.args.kind t parts) (c.as_slice-bytes.ensures.value ∙ is) taken) in
    let ends = subst (λ (r : Result Outcome LineFault).
    Concludes c.args.kind job text parts.name stream c.args.meter.now c.outcome_of.new.meter (g.R.Rng.stream c.outcome_of.new.rng) (Ok r)) result settles in (
      answer_of job parts.name c.in-Ok.outcome ends.0,
      ends.1 number,
      (
        refl,
        after_work-told c.args.meter.now c.outcome_of.new.meter c.reading-before.result c.work_since.result ends.0 ends.2 c.reading-before.ensures c.work_since.ensures.raised,
      ),
      ends.2,
      ends.3,
    )

pub returns-clause-short : goal.returns-clause-short
returns-clause-short g c =
    let parts = parts_of c.unwrap-parts.result in
    let taken : HasSoundParts c.args.kind c.as_slice-bytes.result.now parts =
    record { sound = c.in_default-inspect.ensures.sound; cut = rw c.unwrap-parts.ensures at c.of.ensures } in
    length-name-le c.args.kind c.as_slice-bytes.result.now parts taken
