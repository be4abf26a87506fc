-- Proves the goals of `outcome_of`: its clause `settles` at each return, and the preconditions of `unwrap`. Since the
-- line breaks no rule, neither its password nor its field is refused (`IsOk-never_refused`, `IsOk-field_not_refused`).
-- At each return, what is known of the password and the field becomes a statement about the line, by `IsAnswer-audit`
-- if the line is to be audited, and otherwise by `Concludes_from_Settles`. In each `settles`, `line` is a line that has
-- these parts and breaks no rule (`taken`).
use Rattle.std.proofs.Common.{◌≡◌, ℕ, List, [], Option, Some, None, refl, sym, ap, subst, true≢false, rules}
use Rattle.std.specs.Prelude.{◌≢◌, Result, Ok, Err}
use Rattle.std.specs.Result.{IfErr, IsOk}
use Rattle.crypt_core.specs.Passwords.{IsPasswordRefused}
use Rattle.crypt_core.specs.Readings.{IsFieldReading}
use Rattle.crypt_core.specs.declared.setting.fault.SettingFault.{SettingFault}
use Rattle.crypt_core.specs.declared.stored.StoredField.{StoredField}
use Rattle.crypt_core.specs.declared.stored.StoredField.TheVariants.{Empty, Locked, Hash}
use Rattle.run_core.specs.Makers.{bytes_of}
use Rattle.run_core.specs.Private.Answers.{Settles}
use Rattle.run_core.specs.Private.Lines.{IsFieldOf, parts_of}
use Rattle.run_core.specs.declared.answer.Outcome.TheVariants.{NoHash, Locked as LockedOutcome}
use Rattle.run_core.specs.declared.line.Kind.TheVariants.{Audit}
use Rattle.run_core.specs.contracts.line.Kind.{the_type}
use denote.Enum.Bare.{same_true}
use Rattle.run_core.proofs.LineOutcomes.{not_IsAbove-zero, IsAnswer-audit, Concludes_from_Settles, IsLine_from_parts, IsFieldOf-read, no_field-not_Audit}
use Rattle.run_core.proofs.LineRules.{IsFieldRefused, field-not_refused, password-not_refused}
use Rattle.run_core.proofs.answer.outcome_of.Goals as goal

-- If no error is possible, the result is `Ok`.
IsOk-never_refused : {A E : Type 0} (result : Result A E) (Refused : E → Type 0) → IfErr result Refused → ((fault : E) → ¬ Refused fault) → IsOk result
IsOk-never_refused (Ok found) Refused refused never = search rules
IsOk-never_refused (Err fault) Refused refused never = absurd (never fault refused)

-- The same for a field: if it isn't refused, reading it succeeds.
IsOk-field_not_refused : (field : List ℕ) (result : Result StoredField SettingFault) → IsFieldReading field result → ((fault : SettingFault) → ¬ IsFieldRefused field fault) → IsOk result
IsOk-field_not_refused field (Ok found) reading never = search rules
IsOk-field_not_refused field (Err fault) reading never = absurd (never fault reading)

pub unwrap-password-requires : goal.unwrap-password-requires
unwrap-password-requires g c =
    let parts = parts_of c.args.parts.now in
    let sound = c.requires.sound in
    IsOk-never_refused c.new.result (IsPasswordRefused parts.password) c.new.ensures.refused (λ fault. password-not_refused c.args.kind sound.0 parts fault sound.1)

pub returns-in_default-clause-settles : goal.returns-in_default-clause-settles
returns-in_default-clause-settles g c = λ line taken.
    let job = c.args.job.now in
    let parts = parts_of c.args.parts.now in
    let stream = g.R.Rng.stream c.args.rng.now in
    let after = c.hash_within_budget.new.meter in
    let left = g.R.Rng.stream c.hash_within_budget.new.rng in
    let result = c.hash_within_budget.result in
    let none : parts.field ≡ None = ap bytes_of c.in_default.is in
    let password = (rw c.unwrap-password.ensures at c.new.ensures.ok).0 in
    let settles = subst (λ (p : List ℕ). Settles job p None stream c.args.meter.now after left result) password c.hash_within_budget.ensures.settles in
    let is = IsLine_from_parts c.args.kind line parts None taken (no_field-not_Audit c.args.kind line parts taken.cut none)
    (subst (λ (f : Option (List ℕ)). IsFieldOf f None) (sym none) tt) in
    Concludes_from_Settles c.args.kind job line parts.name parts.password None stream c.args.meter.now after left result is settles

pub returns-then-eq-clause-settles : goal.returns-then-eq-clause-settles
returns-then-eq-clause-settles g c = λ line taken.
    let audited : c.args.kind ≡ Audit = same_true the_type (search rules) _ _ (sym c.if-eq.ensures) in
    let parts = parts_of c.args.parts.now in
    let fielded : parts.field ≡ Some c.in-Some.field.now = ap bytes_of c.in-Some.is in (
      [],
      (λ number. IsAnswer-audit c.args.kind c.args.job.now number line (g.R.Rng.stream c.args.rng.now) parts c.in-Some.field.now c.audit.result audited taken fielded c.audit.ensures),
      refl,
      refl,
    )

pub unwrap-requires : goal.unwrap-requires
unwrap-requires g c =
    let parts = parts_of c.args.parts.now in
    let sound = c.requires.sound in
    let fielded : parts.field ≡ Some c.in-Some.field.now = ap bytes_of c.in-Some.is in
    let unaudited : c.args.kind ≢ Audit = λ same. true≢false (sym (rw same at c.if-eq.ensures)) in
    IsOk-field_not_refused c.in-Some.field.now c.read.result c.read.ensures.reading
    (λ fault. field-not_refused c.args.kind sound.0 parts c.in-Some.field.now fault sound.1 unaudited fielded)

pub returns-in-Empty-clause-settles : goal.returns-in-Empty-clause-settles
returns-in-Empty-clause-settles g c = λ line taken.
    let job = c.args.job.now in
    let parts = parts_of c.args.parts.now in
    let stream = g.R.Rng.stream c.args.rng.now in
    let meter = c.args.meter.now in
    let unaudited : c.args.kind ≢ Audit = λ same. true≢false (sym (rw same at c.if-eq.ensures)) in
    let field_of = IsFieldOf-read c.in-Some.field.now parts.field c.read.result c.unwrap.result Empty c.unwrap.ensures c.in-Empty.is
    c.read.ensures.reading c.read.ensures.one_reading (ap bytes_of c.in-Some.is) in
    Concludes_from_Settles c.args.kind job line parts.name parts.password (Some Empty) stream meter meter stream (Ok (Ok NoHash))
    (IsLine_from_parts c.args.kind line parts (Some Empty) taken unaudited field_of)
    (not_IsAbove-zero job.budget, [], (refl, refl), refl, refl)

pub returns-in-Locked-clause-settles : goal.returns-in-Locked-clause-settles
returns-in-Locked-clause-settles g c = λ line taken.
    let job = c.args.job.now in
    let parts = parts_of c.args.parts.now in
    let stream = g.R.Rng.stream c.args.rng.now in
    let meter = c.args.meter.now in
    let unaudited : c.args.kind ≢ Audit = λ same. true≢false (sym (rw same at c.if-eq.ensures)) in
    let field_of = IsFieldOf-read c.in-Some.field.now parts.field c.read.result c.unwrap.result Locked c.unwrap.ensures c.in-Locked.is
    c.read.ensures.reading c.read.ensures.one_reading (ap bytes_of c.in-Some.is) in
    Concludes_from_Settles c.args.kind job line parts.name parts.password (Some Locked) stream meter meter stream (Ok (Ok LockedOutcome))
    (IsLine_from_parts c.args.kind line parts (Some Locked) taken unaudited field_of)
    (not_IsAbove-zero job.budget, [], (refl, refl), refl, refl)

pub returns-in-Hash-clause-settles : goal.returns-in-Hash-clause-settles
returns-in-Hash-clause-settles g c = λ line taken.
    let job = c.args.job.now in
    let parts = parts_of c.args.parts.now in
    let stored = Some (Hash c.in-Hash.stored) in
    let stream = g.R.Rng.stream c.args.rng.now in
    let after = c.check_within_budget.new.meter in
    let left = g.R.Rng.stream c.check_within_budget.new.rng in
    let result = c.check_within_budget.result in
    let unaudited : c.args.kind ≢ Audit = λ same. true≢false (sym (rw same at c.if-eq.ensures)) in
    let field_of = IsFieldOf-read c.in-Some.field.now parts.field c.read.result c.unwrap.result (Hash c.in-Hash.stored) c.unwrap.ensures c.in-Hash.is
    c.read.ensures.reading c.read.ensures.one_reading (ap bytes_of c.in-Some.is) in
    let password = (rw c.unwrap-password-in-Hash.ensures at c.new-in-Hash.ensures.ok).0 in
    let settles = subst (λ (p : List ℕ). Settles job p stored stream c.args.meter.now after left result) password c.check_within_budget.ensures.settles in
    Concludes_from_Settles c.args.kind job line parts.name parts.password stored stream c.args.meter.now after left result
    (IsLine_from_parts c.args.kind line parts stored taken unaudited field_of) settles

pub unwrap-password-requires-in-Hash : goal.unwrap-password-requires-in-Hash
unwrap-password-requires-in-Hash g c =
    let parts = parts_of c.args.parts.now in
    let sound = c.requires.sound in
    IsOk-never_refused c.new-in-Hash.result (IsPasswordRefused parts.password) c.new-in-Hash.ensures.refused (λ fault. password-not_refused c.args.kind sound.0 parts fault sound.1)
