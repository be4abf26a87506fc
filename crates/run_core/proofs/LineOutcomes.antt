-- Lemmas for the clause `settles` of `outcome_of`, and so for `decides` of `answer_line`. The clauses of the functions
-- that hash speak of a password and of a field as it was read (`Settles`). The public clauses speak of the line
-- (`IsAnswer`), its cost (`IsCostly`) and its outcome (`ComesTo`), and `Concludes_from_Settles` leads to them. The main
-- step: a line has only one list of parts, and a field spells at most one setting, so the cost that was compared with
-- the budget is the line's only cost. For the clause `settles` of `check_within_budget` where scrypt could not allocate
-- memory, `would_check` gives the outcome that the check would otherwise have had.
use Rattle.std.proofs.Common.{◌≡◌, ℕ, Bool, true, false, List, [], ◌∷◌, ◌++◌, codes, slice_index, length, Option, Some, None, inl, inr, refl, sym, ap, subst, ◌∙◌, true≢false, arith}
use Rattle.std.specs.Prelude.{◌≢◌, Result, Ok, Err}
use Rattle.std.specs.Bool.{Decides}
use Rattle.std.specs.Str.{bytes_eq}
use Rattle.std.proofs.lemmas.Option.{none-some}
use Rattle.std.proofs.lemmas.Slice.Eq.{bytes_eq-Decides}
use Rattle.rand_core.specs.Stream.{Stream}
use Rattle.crypt_core.specs.Crypt.{crypt}
use Rattle.crypt_core.specs.Readings.{IsFieldReading, IsReadOneWay}
use Rattle.crypt_core.specs.Settings.{BeginsWith, SettingValue, Spells}
use Rattle.crypt_core.specs.MethodLimits.{prefix}
use Rattle.crypt_core.specs.Schemes.{method_of}
use Rattle.crypt_core.specs.StoredFields.{IsStored, StoredHash}
use Rattle.prims_core.specs.declared.meter.Work.{Work}
use Rattle.crypt_core.specs.declared.hash.HashFault.{HashFault}
use Rattle.crypt_core.specs.declared.setting.fault.SettingFault.{SettingFault}
use Rattle.crypt_core.specs.declared.method.Method.{Method}
use Rattle.crypt_core.specs.declared.method.Method.TheVariants.{Md5crypt}
use Rattle.crypt_core.specs.declared.stored.StoredField.{StoredField}
use Rattle.crypt_core.specs.declared.stored.StoredField.TheVariants as fields
use Rattle.run_core.specs.Answers.{Answer, Hashing, hashing, new_hash, new_hashing}
use Rattle.crypt_core.specs.Findings.{Finds}
use Rattle.crypt_core.specs.Standings.{IsAbove}
use Rattle.run_core.specs.JobOptions.{check_cost, given_budget, is_outdated}
use Rattle.run_core.specs.LineAnswers.{ComesTo, IsAnswer, IsCostly, IsPasswordAnswer, answer_of, refusal}
use Rattle.run_core.specs.Lines.{HasParts, IsLineRefused, Parts}
use Rattle.run_core.specs.Makers.{made_cost_by}
use Rattle.run_core.specs.Private.Answers.{Concludes, IsChecked, IsSettled, Settles, field_cost}
use Rattle.run_core.specs.Private.Lines.{HasSoundParts, IsFieldOf, IsLine}
use Rattle.run_core.specs.declared.answer.Outcome.{Outcome}
use Rattle.run_core.specs.declared.answer.Outcome.TheVariants.{Match, Rehashed, Misfit, Audited}
use Rattle.crypt_core.specs.declared.finding.Finding.{Finding}
use Rattle.run_core.specs.declared.job.Job.{Job}
use Rattle.run_core.specs.declared.line.Kind.{Kind}
use Rattle.run_core.specs.declared.line.Kind.TheVariants.{Batch, Check, Audit}
use Rattle.run_core.specs.declared.line.LineFault.{LineFault}
use Rattle.run_core.specs.declared.line.LineFault.TheVariants.{OverBudget}
use Rattle.run_core.proofs.UniqueParts.{parts_unique}

-- ---- what a line costs

pub not_IsAbove-zero : (budget : Option ℕ) → ¬ IsAbove budget 0
not_IsAbove-zero None above = above
not_IsAbove-zero (Some budget) above = omega arith

-- parts_with name password field: the parts of a line.
abbrev parts_with : List ℕ → List ℕ → Option (List ℕ) → Parts
parts_with name password field = record { name = name; field = field; password = password }

-- A line that breaks no rule is costly if its cost, which depends on its field and the length of its password, is above
-- the budget. If the field holds a stored hash, `of.0.1.spells` is that the field spells the setting of that hash.
IsCostly_from_parts : (kind : Kind) (job : Job) (line name password : List ℕ) (field : Option (List ℕ)) (stored : Option StoredField)
    → HasSoundParts kind line (parts_with name password field) → IsFieldOf field stored
    → IsAbove job.budget (field_cost job stored (length password)) → IsCostly kind job line
IsCostly_from_parts kind job line name password None None taken of above = record {
  parts = parts_with name password None;
  sound = taken.sound;
  cut = taken.cut;
  number = made_cost_by job.maker (length password);
  cost = inl (refl, refl);
  above = above;
}
IsCostly_from_parts kind job line name password (Some field) (Some fields.Empty) taken of above = absurd (not_IsAbove-zero job.budget above)
IsCostly_from_parts kind job line name password (Some field) (Some fields.Locked) taken of above = absurd (not_IsAbove-zero job.budget above)
IsCostly_from_parts kind job line name password (Some field) (Some (fields.Hash stored)) taken of above = record {
  parts = parts_with name password (Some field);
  sound = taken.sound;
  cut = taken.cut;
  number = check_cost job stored.setting (length password);
  cost = inr (field, stored.setting, refl, of.0.1.spells, refl);
  above = above;
}
IsCostly_from_parts kind job line name password None (Some stored) taken of above = absurd of
IsCostly_from_parts kind job line name password (Some field) None taken of above = absurd of

-- The same for a line whose parts are known (`IsLine`).
IsCostly_from_line : (kind : Kind) (job : Job) (line name password : List ℕ) (stored : Option StoredField) → IsLine kind line name password stored
    → IsAbove job.budget (field_cost job stored (length password)) → IsCostly kind job line
IsCostly_from_line kind job line name password stored is above = IsCostly_from_parts kind job line name password is.field stored is.taken is.field_of above

-- A field that has at most one reading spells at most one setting.
pub Spells-unique : (field : List ℕ) (one other : SettingValue) → IsReadOneWay field → Spells field one → Spells field other → one ≡ other
unfolding IsReadOneWay
Spells-unique field one other once spells spells_other =
    let both : Ok one ≡ Ok other = once (Ok one) (Ok other) spells spells_other in
    cc

-- A line without a field is not costly if the cost of hashing its password is not above the budget.
not_IsCostly-no_field : (kind : Kind) (job : Job) (line name password : List ℕ) → HasSoundParts kind line (parts_with name password None)
    → ¬ IsAbove job.budget (made_cost_by job.maker (length password)) → ¬ IsCostly kind job line
not_IsCostly-no_field kind job line name password taken within costly =
    let same = parts_unique kind line costly.parts (parts_with name password None) costly.cut taken.cut in
    elim costly.cost [
      | inl made ↦ within (subst (λ (n : ℕ). IsAbove job.budget n)
          (made.1 ∙ ap (λ (p : Parts). made_cost_by job.maker (length p.password)) same) costly.above)
      | inr spelled ↦ absurd (none-some spelled.0 (sym (ap (λ (p : Parts). p.field) same) ∙ spelled.2))
    ]

-- A line with a stored hash is not costly if the cost of its check is not above the budget.
not_IsCostly-stored : (kind : Kind) (job : Job) (line name password field : List ℕ) (stored : StoredHash)
    → HasSoundParts kind line (parts_with name password (Some field)) → Spells field stored.setting → IsReadOneWay field
    → ¬ IsAbove job.budget (check_cost job stored.setting (length password)) → ¬ IsCostly kind job line
not_IsCostly-stored kind job line name password field stored taken spells once within costly =
    let same = parts_unique kind line costly.parts (parts_with name password (Some field)) costly.cut taken.cut in
    let other = ap (λ (p : Parts). p.field) same in
    elim costly.cost [
      | inl made ↦ absurd (none-some field (sym made.0 ∙ other))
      | inr spelled ↦
          let fields_are : spelled.0 ≡ field = cc (spelled.2, other) in
          let one : spelled.1 ≡ stored.setting = Spells-unique field spelled.1 stored.setting once (subst (λ (f : List ℕ). Spells f spelled.1) fields_are spelled.3) spells in
          within (subst (λ (n : ℕ). IsAbove job.budget n)
          (spelled.4 ∙ ap (λ (p : Parts). check_cost job spelled.1 (length p.password)) same ∙ ap (λ (s : SettingValue). check_cost job s (length password)) one) costly.above)
    ]

-- ---- a field that spells no setting

-- A setting's prefix begins with `$` (36). So a field that spells a setting is neither empty nor locked
-- (`IsStored_from_Spells`).
prefix-first_byte : (method : Method) (rest : List ℕ) → slice_index (prefix method ++ rest) 0 ≡ 36
prefix-first_byte Md5crypt rest = refl
prefix-first_byte method rest = refl

-- A field that spells a setting begins with `$`, so it is neither empty nor locked.
Spells-first_byte : (field : List ℕ) (kept : SettingValue) → Spells field kept → slice_index field 0 ≡ 36
Spells-first_byte field kept spells =
    ap (λ (text : List ℕ). slice_index text 0) spells.scheme.1 ∙ prefix-first_byte (method_of kept.scheme) (spells.scheme.0 ++ (spells.field ++ spells.rest))

-- A field that begins with a text has the first byte of that text.
BeginsWith-first_byte : (field front : List ℕ) (first : ℕ) → ((rest : List ℕ) → slice_index (front ++ rest) 0 ≡ first) → BeginsWith field front → slice_index field 0 ≡ first
BeginsWith-first_byte field front first starts begins = ap (λ (text : List ℕ). slice_index text 0) begins.1 ∙ starts begins.0

pub IsStored_from_Spells : (field : List ℕ) (kept : SettingValue) → Spells field kept → IsStored field
IsStored_from_Spells field kept spells =
    let dollar = Spells-first_byte field kept spells in (
      λ empty. let no_byte = ap (λ (text : List ℕ). slice_index text 0) empty in absurd (omega (arith, dollar, no_byte)),
      λ is_locked. elim is_locked [
        | inl bang ↦ let other = BeginsWith-first_byte field (codes "!") 33 (λ rest. refl) bang in absurd (omega (arith, dollar, other))
        | inr star ↦ let other = BeginsWith-first_byte field (codes "*") 42 (λ rest. refl) star in absurd (omega (arith, dollar, other))
      ],
    )

-- A line whose field is empty or locked is not costly.
pub not_IsCostly-unstored : (kind : Kind) (job : Job) (line : List ℕ) (parts : Parts) (field : List ℕ) → HasParts kind line parts
    → parts.field ≡ Some field → ¬ IsStored field → ¬ IsCostly kind job line
not_IsCostly-unstored kind job line parts field has is unstored costly =
    let same = ap (λ (p : Parts). p.field) (parts_unique kind line costly.parts parts costly.cut has) in
    elim costly.cost [
      | inl made ↦ absurd (none-some field (sym made.0 ∙ (same ∙ is)))
      | inr spelled ↦
          let fields : spelled.0 ≡ field = cc (spelled.2, same, is) in
          unstored (subst IsStored fields (IsStored_from_Spells spelled.0 spelled.1 spelled.3))
    ]

-- ---- the outcome of a line

-- What a check of the stored hash comes to is the outcome of the line that has this hash in its field.
ComesTo_from_IsChecked : (job : Job) (stream : Stream) (name password field : List ℕ) (stored : StoredHash) (hashings : List Hashing) (outcome : Outcome)
    → stored.text ≡ field → Spells field stored.setting → IsChecked job password stored stream hashings outcome
    → ComesTo job (parts_with name password (Some field)) stream outcome hashings
ComesTo_from_IsChecked job stream name password field stored hashings Misfit is spells checked =
    (field, stored.setting, (refl, spells), (λ equal. checked.0 (equal ∙ sym is)), checked.1)
ComesTo_from_IsChecked job stream name password field stored hashings Match is spells checked =
    (field, stored.setting, (refl, spells), checked.0 ∙ is, checked.1, checked.2)
ComesTo_from_IsChecked job stream name password field stored hashings (Rehashed hash) is spells checked =
    (field, stored.setting, (refl, spells), checked.0 ∙ is, checked.1, checked.2, checked.3)
ComesTo_from_IsChecked job stream name password field stored hashings outcome is spells checked = absurd checked

-- If a line breaks no rule, and the cost for its password and its field is not above the budget, the line is not
-- costly, and its outcome is the one that `IsSettled` gives for this password and this field.
ComesTo_from_IsSettled : (kind : Kind) (job : Job) (line : List ℕ) (stream : Stream) (name password : List ℕ) (field : Option (List ℕ)) (stored : Option StoredField)
    (hashings : List Hashing) (outcome : Outcome) → HasSoundParts kind line (parts_with name password field) → IsFieldOf field stored
    → ¬ IsAbove job.budget (field_cost job stored (length password))
    → IsSettled job password stored stream hashings outcome
    → (¬ IsCostly kind job line) × ComesTo job (parts_with name password field) stream outcome hashings
ComesTo_from_IsSettled kind job line stream name password None None hashings outcome taken of within settled = (
  not_IsCostly-no_field kind job line name password taken within,
  subst (λ (o : Outcome). ComesTo job (parts_with name password None) stream o hashings) (sym settled.0) (refl, refl, settled.1),
)
ComesTo_from_IsSettled kind job line stream name password (Some field) (Some fields.Empty) hashings outcome taken of within settled = (
  not_IsCostly-unstored kind job line (parts_with name password (Some field)) field taken.cut refl (λ is_stored. is_stored.0 of.0),
  subst (λ (o : Outcome). ComesTo job (parts_with name password (Some field)) stream o hashings) (sym settled.0) (ap Some of.0, settled.1),
)
ComesTo_from_IsSettled kind job line stream name password (Some field) (Some fields.Locked) hashings outcome taken of within settled = (
  not_IsCostly-unstored kind job line (parts_with name password (Some field)) field taken.cut refl (λ is_stored. is_stored.1 of.0),
  subst (λ (o : Outcome). ComesTo job (parts_with name password (Some field)) stream o hashings) (sym settled.0) (field, refl, of.0, settled.1),
)
ComesTo_from_IsSettled kind job line stream name password (Some field) (Some (fields.Hash stored)) hashings outcome taken of within settled = (
  not_IsCostly-stored kind job line name password field stored taken of.0.1.spells of.1 within,
  ComesTo_from_IsChecked job stream name password field stored hashings outcome of.0.1.is_text of.0.1.spells settled,
)
ComesTo_from_IsSettled kind job line stream name password None (Some stored) hashings outcome taken of within settled = absurd of
ComesTo_from_IsSettled kind job line stream name password (Some field) None hashings outcome taken of within settled = absurd of

-- ---- the answer

-- If a line breaks a rule, the answer is its refusal, for each kind of run.
pub IsAnswer-refusal : (kind : Kind) (job : Job) (number : ℕ) (line : List ℕ) (stream : Stream) (fault : LineFault) → IsLineRefused kind line fault
    → IsAnswer kind job number line stream (refusal number fault)
IsAnswer-refusal Audit job number line stream fault refused = inl (fault, refused, refl)
IsAnswer-refusal kind job number line stream fault refused = inl (fault, refused, refl)

-- If a line is not to be audited, `IsPasswordAnswer` implies `IsAnswer`.
IsAnswer-password : (kind : Kind) (job : Job) (number : ℕ) (line : List ℕ) (stream : Stream) (answer : Answer) → kind ≢ Audit
    → IsPasswordAnswer kind job number line stream answer → IsAnswer kind job number line stream answer
IsAnswer-password Audit job number line stream answer other is = absurd (other refl)
IsAnswer-password kind job number line stream answer other is = is

-- The answer to a line to audit that breaks no rule is its name and what the audit finds in its field.
pub IsAnswer-audit : (kind : Kind) (job : Job) (number : ℕ) (line : List ℕ) (stream : Stream) (parts : Parts) (field : List ℕ) (finding : Finding) → kind ≡ Audit
    → HasSoundParts kind line parts → parts.field ≡ Some field → Finds job.maker.scheme (given_budget job) field finding
    → IsAnswer kind job number line stream (answer_of job parts.name (Audited finding) [])
IsAnswer-audit Audit job number line stream parts field finding is taken fielded finds =
    inr (taken.sound, parts, taken.cut, field, fielded, finding, finds, refl)
IsAnswer-audit Batch job number line stream parts field finding is taken fielded finds = absurd cc
IsAnswer-audit Check job number line stream parts field finding is taken fielded finds = absurd cc

-- The answer to a line that breaks no rule and is within the budget is its name and the outcome that `IsSettled` gives
-- for its password and its field. This is the third case of `IsPasswordAnswer`, after a refusal and a costly line.
IsPasswordAnswer_from_IsSettled : (kind : Kind) (job : Job) (number : ℕ) (line : List ℕ) (stream : Stream) (name password : List ℕ) (stored : Option StoredField)
    (hashings : List Hashing) (outcome : Outcome) → IsLine kind line name password stored
    → ¬ IsAbove job.budget (field_cost job stored (length password))
    → IsSettled job password stored stream hashings outcome → IsPasswordAnswer kind job number line stream (answer_of job name outcome hashings)
IsPasswordAnswer_from_IsSettled kind job number line stream name password stored hashings outcome is within settled =
    let comes = ComesTo_from_IsSettled kind job line stream name password is.field stored hashings outcome is.taken is.field_of within settled in
    inr (inr (is.taken.sound, comes.0, parts_with name password is.field, is.taken.cut, outcome, comes.1, refl))

-- If `Settles` holds for a password and a field, `Concludes` holds for each line to hash or to check that breaks no
-- rule and has this password and this field.
pub Concludes_from_Settles : (kind : Kind) (job : Job) (line name password : List ℕ) (stored : Option StoredField) (stream : Stream) (before after : Work) (new_stream : Stream)
    (result : Result (Result Outcome LineFault) HashFault) → IsLine kind line name password stored
    → Settles job password stored stream before after new_stream result → Concludes kind job line name stream before after new_stream result
Concludes_from_Settles kind job line name password stored stream before after new_stream (Ok (Ok outcome)) is (within, hashings, settled, counts, left) = (
  hashings,
  (λ number. IsAnswer-password kind job number line stream (answer_of job name outcome hashings) is.unaudited
      (IsPasswordAnswer_from_IsSettled kind job number line stream name password stored hashings outcome is within settled)),
  counts,
  left,
)
Concludes_from_Settles kind job line name password stored stream before after new_stream (Ok (Err fault)) is (above, over, counts, left) = (
  (λ number. subst (λ (f : LineFault). IsAnswer kind job number line stream (refusal number f)) (sym over)
      (IsAnswer-password kind job number line stream (refusal number OverBudget) is.unaudited
      (inr (inl (IsCostly_from_line kind job line name password stored is above, refl))))),
  counts,
  left,
)
Concludes_from_Settles kind job line name password stored stream before after new_stream (Err fault) is (within, outcome, hashings, settled, refused) = (
  outcome,
  hashings,
  (λ number. IsAnswer-password kind job number line stream (answer_of job name outcome hashings) is.unaudited
      (IsPasswordAnswer_from_IsSettled kind job number line stream name password stored hashings outcome is within settled)),
  refused,
)

-- ---- a line from its parts

pub IsLine_from_parts : (kind : Kind) (line : List ℕ) (parts : Parts) (stored : Option StoredField) → HasSoundParts kind line parts → kind ≢ Audit
    → IsFieldOf parts.field stored → IsLine kind line parts.name parts.password stored
IsLine_from_parts kind line parts stored taken unaudited field_of = record { unaudited = unaudited; field = parts.field; taken = taken; field_of = field_of }

-- If a line has no field, it is not to be audited.
pub no_field-not_Audit : (kind : Kind) (line : List ℕ) (parts : Parts) → HasParts kind line parts → parts.field ≡ None → kind ≢ Audit
no_field-not_Audit Audit line parts has none same = none-some has.0 (sym none ∙ has.4)
no_field-not_Audit Batch line parts has none same = absurd cc
no_field-not_Audit Check line parts has none same = absurd cc

-- If a field was read as `found`, and has at most one reading, then `IsFieldOf` holds for the field and `found`.
pub IsFieldOf-read : (field : List ℕ) (fielded : Option (List ℕ)) (result : Result StoredField SettingFault) (found stored : StoredField) → result ≡ Ok found
    → found ≡ stored → IsFieldReading field result → IsReadOneWay field → fielded ≡ Some field → IsFieldOf fielded (Some stored)
IsFieldOf-read field fielded result found stored ok is reading once some =
    let same : result ≡ Ok stored = cc in
    subst (λ (f : Option (List ℕ)). IsFieldOf f (Some stored)) (sym some) (subst (IsFieldReading field) same reading, once)

-- ---- the outcome that a check would have if scrypt could allocate memory

pub record WouldCheck (job : Job) (password : List ℕ) (stored : StoredHash) (stream : Stream) : Type 0 where
  pub outcome : Outcome
  pub more : List Hashing
  pub checked : IsChecked job password stored stream (hashing password stored.setting stream ∷ more) outcome

pub would_check : (job : Job) (password : List ℕ) (stored : StoredHash) (stream : Stream) → WouldCheck job password stored stream
would_check job password stored stream =
    go (bytes_eq (crypt password stored.setting) stored.text) (bytes_eq-Decides (crypt password stored.setting) stored.text) (is_outdated job stored.setting) refl
  where
    go : (same : Bool) → Decides same (crypt password stored.setting ≡ stored.text) → (outdated : Bool) → is_outdated job stored.setting ≡ outdated
        → WouldCheck job password stored stream
    go true decides true old = record {
      outcome = Rehashed (new_hash job password stream);
      more = new_hashing job password stream ∷ [];
      checked = (decides.0 refl, old, refl, refl);
    }
    go true decides false recent = record { outcome = Match; more = []; checked = (decides.0 refl, recent, refl) }
    go false decides outdated any = record { outcome = Misfit; more = []; checked = (λ equal. true≢false (sym (decides.1 equal)), refl) }
