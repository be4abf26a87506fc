-- Lemmas for the clauses `refused` of `check_name`, `sound` and `refused` of `check`, `each_refusal` of `inspect`, and
-- for the clause of `Parts::of`. `IsLineRefused` names the first rule that a line breaks, in the order of
-- `line_faults`. So each lemma on a refusal shows that the line breaks none of the rules before it. The lemmas follow
-- that order: length and name (`refused_after_name` skips these rules), the parts, the password, the field. They rest
-- on `UniqueParts`: a line has only one name and one list of parts, so what was checked for the parts that were found
-- holds for any parts. The last two sections are about a line that is too long, and about one that breaks no rule;
-- `outcome_of` and `answer_line` need them.
use Rattle.std.proofs.Common.{◌≡◌, ℕ, ◌≤◌, ◌<◌, List, [], ◌∷◌, ◌++◌, length, map, Contains, Option, Some, None, inl, inr, refl, sym, ap, subst, ◌∙◌, arith}
use Rattle.std.proofs.lemmas.Bool.{cases_order}
use Rattle.std.proofs.lemmas.List.{nil_from_length}
use Rattle.crypt_core.specs.Passwords.{IsPassword, IsPasswordRefused, password_faults, password_limit}
use Rattle.std.specs.Prelude.{◌≢◌, Ok, Err}
use Rattle.crypt_core.specs.Readings.{IsFieldReading, IsReadOneWay}
use Rattle.crypt_core.specs.Refusals.{FailsStage, IsRefused, setting_faults}
use Rattle.crypt_core.specs.Rules.{IsFirstBroken}
use Rattle.crypt_core.specs.StoredFields.{IsStored}
use Rattle.crypt_core.specs.declared.stored.StoredField.{StoredField}
use Rattle.crypt_core.specs.declared.stored.StoredField.TheVariants.{Empty, Locked, Hash}
use Rattle.crypt_core.specs.declared.password.PasswordFault.{PasswordFault}
use Rattle.crypt_core.specs.declared.password.PasswordFault.TheVariants.{TooLong, HasNul}
use Rattle.crypt_core.specs.declared.setting.fault.SettingFault.{SettingFault}
use Rattle.run_core.specs.Texts.{colon}
use Rattle.run_core.specs.Lines.{BreaksLine, HasFront, HasParts, IsCut, IsLineRefused, IsSound, Parts, line_faults, line_limit, name_limit}
use Rattle.run_core.specs.Private.Lines.{HasSoundParts, IsCutOrWhole, IsGoodName, IsNamed, IsTooLong}
use Rattle.run_core.specs.declared.line.Kind.{Kind}
use Rattle.run_core.specs.declared.line.Kind.TheVariants.{Batch, Check, Audit}
use Rattle.run_core.specs.declared.line.LineFault.{LineFault}
use Rattle.run_core.specs.declared.line.LineFault.TheVariants.{LineTooLong, NoName, NameTooLong, NoPassword, Password, Setting, OverBudget}
use Rattle.crypt_core.proofs.FirstBroken.{first_breaks, first_mapped, first_unique}
use Rattle.run_core.proofs.UniqueParts.{cut_unique, cut_has_colon, name_unique, parts_unique}

-- ---- names

-- The name that a cut at the first colon gives, and the name among the parts, are the front of the line.
pub HasFront_from_cut : (line name : List ℕ) (back : Option (List ℕ)) → IsCutOrWhole line name back → HasFront line name
HasFront_from_cut line name None whole = inr whole
HasFront_from_cut line name (Some back) cut = inl (back, cut)

HasFront_from_parts : (kind : Kind) (line : List ℕ) (parts : Parts) → HasParts kind line parts → HasFront line parts.name
HasFront_from_parts Batch line parts cut = inl (parts.password, cut.0)
HasFront_from_parts kind line parts cut = inl (cut.1, cut.2)

module _ (kind : Kind) (line name : List ℕ) (short : length line ≤ line_limit) (good : IsGoodName name) (has : HasFront line name) where
  -- A line that is not too long and has a good name breaks none of the first three rules.
  keeps-LineTooLong : ¬ BreaksLine kind LineTooLong line
  keeps-LineTooLong long = omega (arith, short, long)

  keeps-NoName : ¬ BreaksLine kind NoName line
  keeps-NoName none = good.some (name_unique line name [] has none)

  keeps-NameTooLong : ¬ BreaksLine kind NameTooLong line
  keeps-NameTooLong long = omega (arith, good.short, long.2, ap length (name_unique line name long.0 has long.1))

  -- A line that is not too long and has a good name is refused for the first of the other rules that it breaks.
  refused_after_name : (fault : LineFault)
      → IsFirstBroken (NoPassword ∷ map Password password_faults ++ map Setting setting_faults) (λ broken. BreaksLine kind broken line) fault
      → IsLineRefused kind line fault
  unfolding IsLineRefused
  refused_after_name fault later = inr (keeps-LineTooLong, inr (keeps-NoName, inr (keeps-NameTooLong, later)))

-- A line that is not too long is refused as `NoName` if its name is empty, and as `NameTooLong` if its name is too
-- long.
pub refused_for_no_name : (kind : Kind) (line name : List ℕ) (back : Option (List ℕ)) → length line ≤ line_limit → IsCutOrWhole line name back
    → length name ≡ 0 → IsLineRefused kind line NoName
unfolding IsLineRefused
refused_for_no_name kind line name back short cut none =
    inr ((λ long. omega (arith, short, long)), inl (refl, subst (HasFront line) (nil_from_length name none) (HasFront_from_cut line name back cut)))

pub refused_for_long_name : (kind : Kind) (line name : List ℕ) (back : Option (List ℕ)) → length line ≤ line_limit → IsCutOrWhole line name back
    → name_limit < length name → IsLineRefused kind line NameTooLong
unfolding IsLineRefused
refused_for_long_name kind line name back short cut long =
    let has = HasFront_from_cut line name back cut in
    inr (
      (λ over. omega (arith, short, over)),
      inr ((λ none. omega (arith, long, ap length (name_unique line name [] has none))), inl (refl, (name, has, long))),
    )

-- ---- parts

-- A line without a colon has no parts.
pub no_parts_uncut : (kind : Kind) (line : List ℕ) → ¬ Contains line colon → (parts : Parts) → HasParts kind line parts → ⊥
no_parts_uncut Batch line uncut parts cut = uncut (cut_has_colon line parts.name parts.password cut.0)
no_parts_uncut kind line uncut parts cut = uncut (cut_has_colon line parts.name cut.1 cut.2)

-- A line to check that has only one colon has no parts.
pub no_parts_cut_once : (line name back : List ℕ) → IsCut line name back → ¬ Contains back colon → (parts : Parts) → HasParts Check line parts → ⊥
no_parts_cut_once line name back first uncut parts cut =
    uncut (subst (λ (bytes : List ℕ). Contains bytes colon) (sym (cut_unique first cut.2).1) (cut_has_colon cut.1 cut.0 parts.password cut.3))

-- ---- the rules before that of the field

-- The line breaks none of the rules before those on the field: it is not too long, and has a good name, all its parts
-- and a valid password.
pub record IsEntry (kind : Kind) (line : List ℕ) (parts : Parts) : Type 0 where
  pub short : length line ≤ line_limit
  pub good : IsGoodName parts.name
  pub cut : HasParts kind line parts
  pub password : IsPassword parts.password

-- IsFieldRefused field fault: the field is neither empty nor locked, and is refused as a setting, with this error.
abbrev pub IsFieldRefused : List ℕ → SettingFault → Type 0
IsFieldRefused field fault = IsStored field × IsRefused field fault

-- A line with a good name is refused as `NoPassword` if it has no parts.
pub refused_without_parts : (kind : Kind) (line : List ℕ) → IsNamed line → ((parts : Parts) → ¬ HasParts kind line parts)
    → IsLineRefused kind line NoPassword
refused_without_parts kind line named lacks =
    refused_after_name kind line named.name named.short named.good named.front NoPassword (inl (refl, lacks))

-- The error of a refused password is that of the first rule that the password breaks.
password-first_broken : (bytes : List ℕ) (fault : PasswordFault) → IsPasswordRefused bytes fault → IsFirstBroken password_faults (IsPasswordRefused bytes) fault
password-first_broken bytes TooLong refused = inl (refl, refused)
password-first_broken bytes HasNul refused = inr ((λ long. omega (arith, long, refused.0)), inl (refl, refused))

-- A line with a good name and its parts is refused for the first rule that its password breaks.
pub refused_password : (kind : Kind) (line : List ℕ) (parts : Parts) (fault : PasswordFault)
    → IsNamed line → HasParts kind line parts → IsPasswordRefused parts.password fault
    → IsLineRefused kind line (Password fault)
refused_password kind line parts fault named cut refused =
    refused_after_name kind line named.name named.short named.good named.front (Password fault) (inr (
      (λ lacks. lacks parts cut),
      first_mapped Password password_faults (map Setting setting_faults) (λ broken. BreaksLine kind broken line) (IsPasswordRefused parts.password)
          (λ own breaks. (parts, cut, breaks))
          (λ own breaks. subst (λ (p : Parts). IsPasswordRefused p.password own) (parts_unique kind line breaks.0 parts breaks.1 cut) breaks.2)
          fault (password-first_broken parts.password fault refused),
    ))

-- A line with a good name, its parts and a valid password breaks none of the rules before those on the field.
pub IsEntry_from_IsNamed : (kind : Kind) (line : List ℕ) (parts : Parts) → IsNamed line → HasParts kind line parts → IsPassword parts.password → IsEntry kind line parts
IsEntry_from_IsNamed kind line parts named cut is_password = record {
  short = named.short;
  good = subst IsGoodName (name_unique line named.name parts.name named.front (HasFront_from_parts kind line parts cut)) named.good;
  cut = cut;
  password = is_password;
}

-- A valid password breaks no rule of passwords, so the line does not break one.
not_refused_from_IsPassword : (bytes : List ℕ) (fault : PasswordFault) → IsPassword bytes → IsPasswordRefused bytes fault → ⊥
not_refused_from_IsPassword bytes TooLong is_password refused = omega (arith, is_password.0, refused)
not_refused_from_IsPassword bytes HasNul is_password refused = is_password.1 refused.1

keeps-Password : (kind : Kind) (line : List ℕ) (parts : Parts) → IsEntry kind line parts → (fault : PasswordFault) → ¬ BreaksLine kind (Password fault) line
keeps-Password kind line parts entry fault breaks =
    let same = parts_unique kind line breaks.0 parts breaks.1 entry.cut in
    not_refused_from_IsPassword parts.password fault entry.password (subst (λ (p : Parts). IsPasswordRefused p.password fault) same breaks.2)

-- ---- the field

-- If a line breaks a rule of settings, its field is refused for that rule.
IsFieldRefused_from_BreaksLine : (kind : Kind) (line : List ℕ) (parts : Parts) → HasParts kind line parts
    → (fault : SettingFault) → BreaksLine kind (Setting fault) line → (field : List ℕ) × (parts.field ≡ Some field) × IsFieldRefused field fault
IsFieldRefused_from_BreaksLine kind line parts has fault breaks =
    let same = parts_unique kind line breaks.1 parts breaks.3 has in
    (breaks.2, sym (ap (λ (p : Parts). p.field) same) ∙ breaks.4, (breaks.5, breaks.6))

-- A line breaks no rule if it breaks none of those before the rules on the field, and its field is not refused or is to
-- be audited.
IsSound_from_IsEntry : (kind : Kind) (line : List ℕ) (parts : Parts) → IsEntry kind line parts
    → ((fault : SettingFault) (field : List ℕ) → kind ≢ Audit → parts.field ≡ Some field → IsFieldRefused field fault → ⊥) → IsSound kind line
IsSound_from_IsEntry kind line parts entry right fault breaks = go fault breaks
  where
    has : HasFront line parts.name
    has = HasFront_from_parts kind line parts entry.cut

    go : (fault : LineFault) → ¬ BreaksLine kind fault line
    go LineTooLong breaks = keeps-LineTooLong kind line parts.name entry.short entry.good has breaks
    go NoName breaks = keeps-NoName kind line parts.name entry.short entry.good has breaks
    go NameTooLong breaks = keeps-NameTooLong kind line parts.name entry.short entry.good has breaks
    go NoPassword breaks = breaks parts entry.cut
    go (Password fault) breaks = keeps-Password kind line parts entry fault breaks
    go (Setting fault) breaks =
        let refused = IsFieldRefused_from_BreaksLine kind line parts entry.cut fault breaks in
        right fault refused.0 breaks.0 refused.1 refused.2
    go OverBudget breaks = breaks

-- A line without a field breaks no rule, if it breaks none of the rules before those on the field.
pub IsSound-no_field : (kind : Kind) (line : List ℕ) (parts : Parts) → IsEntry kind line parts → parts.field ≡ None → IsSound kind line
IsSound-no_field kind line parts entry none = IsSound_from_IsEntry kind line parts entry (λ fault field unaudited some refused. cc)

-- A field that was read without an error, and has at most one reading, is not refused. A refused field is neither empty
-- (`refused.0.0`) nor locked (`refused.0.1`).
not_IsFieldRefused-read : (field : List ℕ) (stored : StoredField) → IsReadOneWay field → IsFieldReading field (Ok stored) → (fault : SettingFault) → IsFieldRefused field fault → ⊥
unfolding IsReadOneWay
not_IsFieldRefused-read field Empty one read fault refused = refused.0.0 read
not_IsFieldRefused-read field Locked one read fault refused = refused.0.1 read
not_IsFieldRefused-read field (Hash stored) one read fault refused =
    let both : Ok stored.setting ≡ Err fault = one (Ok stored.setting) (Err fault) read.1.spells refused.1 in
    absurd cc

-- A line whose field was read without an error breaks no rule, if it breaks none of the rules before those on the
-- field.
pub IsSound-field : (kind : Kind) (line : List ℕ) (parts : Parts) (field : List ℕ) (stored : StoredField) → IsEntry kind line parts → parts.field ≡ Some field
    → IsReadOneWay field → IsFieldReading field (Ok stored) → IsSound kind line
IsSound-field kind line parts field stored entry is one read = IsSound_from_IsEntry kind line parts entry (λ fault other unaudited some refused.
    let same : other ≡ field = cc in
    not_IsFieldRefused-read field stored one read fault (subst IsStored same refused.0, subst (λ (bytes : List ℕ). IsRefused bytes fault) same refused.1))

-- A line to audit breaks no rule if it has a good name and its parts: its password is empty, and any field is allowed.
pub IsSound-audit : (kind : Kind) (line : List ℕ) (parts : Parts) → kind ≡ Audit → IsNamed line → HasParts kind line parts → IsSound kind line
IsSound-audit Audit line parts audited named cut =
    let is_password = subst IsPassword (sym cut.5) (omega arith, λ some. omega (arith, some.1)) in
    IsSound_from_IsEntry Audit line parts (IsEntry_from_IsNamed Audit line parts named cut is_password) (λ fault other unaudited some refused. absurd (unaudited refl))
IsSound-audit Batch line parts audited named cut = absurd cc
IsSound-audit Check line parts audited named cut = absurd cc

-- A line to check that breaks none of the rules before those on the field is refused for the first rule that its field
-- breaks.
pub refused_field : (kind : Kind) (line : List ℕ) (parts : Parts) (field : List ℕ) (fault : SettingFault) → kind ≢ Audit → IsEntry kind line parts
    → parts.field ≡ Some field → IsFieldRefused field fault → IsLineRefused kind line (Setting fault)
unfolding IsRefused
refused_field kind line parts field fault unaudited entry is (stored, refused) =
    refused_after_name kind line parts.name entry.short entry.good (HasFront_from_parts kind line parts entry.cut) (Setting fault) (inr (
      (λ lacks. lacks parts entry.cut),
      inr (keeps-Password kind line parts entry TooLong, inr (keeps-Password kind line parts entry HasNul, go setting_faults refused)),
    ))
  where
    go : (faults : List SettingFault) → IsFirstBroken faults (FailsStage field) fault
        → IsFirstBroken (map Setting faults) (λ broken. BreaksLine kind broken line) (Setting fault)
    go [] broken = broken
    go (first ∷ others) (inl (one, fails)) =
        inl (ap Setting one, (unaudited, parts, field, entry.cut, is, stored, subst (IsRefused field) one refused))
    go (first ∷ others) (inr (passes, broken)) = inr (
      (λ breaks.
          let own = IsFieldRefused_from_BreaksLine kind line parts entry.cut first breaks in
          let same : own.0 ≡ field = cc (own.1, is) in
          passes (first_breaks setting_faults (FailsStage field) first (subst (λ (bytes : List ℕ). IsRefused bytes first) same own.2.1))),
      go others broken,
    )

-- A line is refused for only one rule.
pub refusal_unique : (kind : Kind) (line : List ℕ) (a b : LineFault) → IsLineRefused kind line a → IsLineRefused kind line b → a ≡ b
unfolding IsLineRefused
refusal_unique kind line = first_unique line_faults (λ broken. BreaksLine kind broken line)

-- A line that breaks no rule is not refused.
pub sound_not_refused : (kind : Kind) (line : List ℕ) (fault : LineFault) → IsSound kind line → IsLineRefused kind line fault → ⊥
unfolding IsLineRefused
sound_not_refused kind line fault sound refused = sound fault (first_breaks line_faults (λ broken. BreaksLine kind broken line) fault refused)

-- ---- a line that is too long

-- A line that is too long is refused as `LineTooLong`, whatever its bytes are.
pub too_long-refused : (kind : Kind) (line : List ℕ) → IsTooLong line → IsLineRefused kind line LineTooLong
unfolding IsLineRefused
too_long-refused kind line long = inl (refl, long)

-- ---- a line that breaks no rule

-- If a line breaks no rule, its password is not refused, and neither is its field unless it is to be audited.
pub password-not_refused : (kind : Kind) (line : List ℕ) (parts : Parts) (fault : PasswordFault) → HasSoundParts kind line parts
    → ¬ IsPasswordRefused parts.password fault
password-not_refused kind line parts fault taken refused = taken.sound (Password fault) (parts, taken.cut, refused)

pub field-not_refused : (kind : Kind) (line : List ℕ) (parts : Parts) (field : List ℕ) (fault : SettingFault) → HasSoundParts kind line parts → kind ≢ Audit
    → parts.field ≡ Some field → ¬ IsFieldRefused field fault
field-not_refused kind line parts field fault taken unaudited is refused =
    taken.sound (Setting fault) (unaudited, parts, field, taken.cut, is, refused.0, refused.1)

-- If a line breaks no rule, its password is not too long.
pub length-password-le : (kind : Kind) (line : List ℕ) (parts : Parts) → IsSound kind line → HasParts kind line parts → length parts.password ≤ password_limit
length-password-le kind line parts sound has = elim (cases_order (length parts.password) password_limit) [
  | inl same ↦ omega (arith, same)
  | inr other ↦ elim other [
    | inl below ↦ omega (arith, below)
    | inr above ↦ absurd (sound (Password TooLong) (parts, has, above))
  ]
]

-- If a line breaks no rule, its name is not too long.
pub length-name-le : (kind : Kind) (line : List ℕ) (parts : Parts) → HasSoundParts kind line parts → length parts.name ≤ name_limit
length-name-le kind line parts taken = elim (cases_order (length parts.name) name_limit) [
  | inl same ↦ omega (arith, same)
  | inr other ↦ elim other [
    | inl below ↦ omega (arith, below)
    | inr above ↦ absurd (taken.sound NameTooLong (parts.name, HasFront_from_parts kind line parts taken.cut, above))
  ]
]
