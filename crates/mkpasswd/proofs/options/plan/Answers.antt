-- Proves the clause of `plan` where `parse` or `Maker::new` returns an error. If `parse` fails, the error is a refusal
-- by `clap` or a failed allocation. If `Maker::new` refuses, the arguments break no earlier rule, and its error is that
-- of the first rule that they break (PlannedMeaning).
use Rattle.std.proofs.Common.{◌≡◌, ◌≢◌, ◌∙◌, Err, List, codes, inr, subst, sym, true≢false}
use Rattle.std.proofs.lemmas.Slice.Eq.{bytes_eq-Decides}
use Rattle.std.proofs.lemmas.Result.{err_from_is_err_and}
use Rattle.clap.specs.Words.{Row, Text, kind_of}
use Rattle.clap.specs.declared.error.Error.{Error}
use Rattle.clap.specs.declared.error.kind.ErrorKind.TheVariants as kind
use Rattle.mkpasswd.specs.Options.{Means, Plans, Refuses}
use Rattle.mkpasswd.specs.declared.fault.UsageFault.{UsageFault}
use Rattle.mkpasswd.specs.declared.fault.UsageFault.TheVariants.{Parse, Make, OutOfMemory}
use Rattle.mkpasswd.proofs.PlannedMeaning.{IsFirstBroken-Make}
use Rattle.mkpasswd.proofs.options.plan.Goals as goal

-- An error of `clap` is a refusal of the arguments, or a failed allocation.
Plans-clap_error : (arguments : List Text) (error : Error) (fault : UsageFault) → (kind_of error ≡ kind.OutOfMemory → fault ≡ OutOfMemory) → (kind_of error ≢ kind.OutOfMemory → fault ≡ Parse error)
    → (kind_of error ≢ kind.OutOfMemory → Refuses arguments error) → Plans arguments (Err fault)
Plans-clap_error arguments error OutOfMemory memory other refuses = tt
Plans-clap_error arguments error (Parse e) memory other refuses =
    let not_memory : kind_of error ≢ kind.OutOfMemory = λ is. let bad = memory is in cc in
    let same : error ≡ e = let is = other not_memory in cc in
    subst (λ (x : Error). Refuses arguments x) same (refuses not_memory)
Plans-clap_error arguments error fault memory other refuses = let is = other (λ is. let bad = memory is in cc) in cc

-- `p` holds the error returned (`p.0`), that the result is this error (`p.1`), and which error that is after a failed
-- allocation (`p.2.0`) and after a refusal by `clap` (`p.2.1`).
pub returns-in_err-given : goal.returns-in_err-given
returns-in_err-given c =
    let p = err_from_is_err_and c.from_residual.result c.from_residual.ensures.1 in
    rw p.1 (Plans-clap_error _ c.in_err-given.field-0.0 p.0 p.2.0 p.2.1 c.in_err-given.ensures.err)

pub returns-in_err-maker : goal.returns-in_err-maker
returns-in_err-maker c =
    let p = err_from_is_err_and c.from_residual-in_err-maker.result c.from_residual-in_err-maker.ensures.1 in
    let rows = c.in_ok-given.given in
    let refused = rw (c.job_rounds.ensures, c.in_ok-salt.ensures.once) at c.in_err-maker.ensures.refused in
    let means : Means rows (Err (Make c.in_err-maker.field-0.0)) = (
      λ asks. true≢false (sym ((bytes_eq-Decides _ (codes "help")).1 (c.type_name.ensures ∙ asks)) ∙ sym c.if-eq.ensures),
      inr (
        c.in_ok-method.ensures.rule,
        inr (c.in_ok-salt.ensures.rule, inr (c.in_ok-one_mode.ensures.rule, IsFirstBroken-Make rows c.in_ok-method.method c.in_ok-method.ensures.known _ refused)),
      ),
    ) in
    rw (p.1, p.2) (c.in_ok-given.ensures.ok.0, subst (λ (given : List Row). Means given (Err (Make c.in_err-maker.field-0.0))) c.in_ok-given.ensures.ok.1 means)
