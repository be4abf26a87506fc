-- The parts of a line of an input, and the rules that a line can break.
use Rattle.std.specs.Prelude.{◌≡◌, ◌≢◌, ℕ, ◌<◌, ◌⊎◌, List, [], ◌∷◌, ◌++◌, length, map, Contains, Option, Some, None}
use Rattle.crypt_core.specs.Passwords.{IsPasswordRefused, password_faults}
use Rattle.crypt_core.specs.Refusals.{IsRefused, setting_faults}
use Rattle.crypt_core.specs.Rules.{IsFirstBroken}
use Rattle.crypt_core.specs.StoredFields.{IsStored}
use Rattle.run_core.specs.Texts.{colon}
use Rattle.run_core.specs.declared.line.Kind.{Kind}
use Rattle.run_core.specs.declared.line.Kind.TheVariants.{Batch, Check, Audit}
use Rattle.run_core.specs.declared.line.LineFault.{LineFault}
use Rattle.run_core.specs.declared.line.LineFault.TheVariants.{LineTooLong, NoName, NameTooLong, NoPassword, Password, Setting, OverBudget}

-- ---- the parts

-- IsCut text front back: `front` precedes the first colon of the text, and `back` follows it.
abbrev pub IsCut : List ℕ → List ℕ → List ℕ → Type 0
IsCut text front back = (text ≡ front ++ colon ∷ back) × ¬ Contains front colon

-- HasFront text front: `front` is everything before the first colon of the text, or all of the text if it has none.
abbrev pub HasFront : List ℕ → List ℕ → Type 0
HasFront text front = ((back : List ℕ) × IsCut text front back) ⊎ ((text ≡ front) × ¬ Contains front colon)

-- A `Parts` holds the parts of a line, which are separated by colons. A line to hash has no field. The password of a
-- line to audit is empty.
pub record Parts : Type 0 where
  pub name : List ℕ
  pub field : Option (List ℕ)
  pub password : List ℕ

-- HasParts kind line parts: these are the parts of the line. A line to hash is `name:password`, and a line to check is
-- `name:field:password`. A line to audit is `name:field`, or `name:field:` and anything. A password may contain colons.
abbrev pub HasParts : Kind → List ℕ → Parts → Type 0
HasParts Batch line parts = IsCut line parts.name parts.password × (parts.field ≡ None)
HasParts Check line parts =
    (field back : List ℕ) × IsCut line parts.name back × IsCut back field parts.password × (parts.field ≡ Some field)
HasParts Audit line parts =
    (field back : List ℕ) × IsCut line parts.name back × HasFront back field × (parts.field ≡ Some field) × (parts.password ≡ [])

-- ---- the rules

-- line_limit is the maximum number of bytes of a line, without its line feed.
abbrev pub line_limit : ℕ
line_limit = 2048

-- name_limit is the maximum number of bytes of a name.
abbrev pub name_limit : ℕ
name_limit = 64

-- line_faults is the list of the errors for which a line can be refused, in the order in which their rules are checked.
-- `OverBudget` is not among them, since it depends on the job.
abbrev pub line_faults : List LineFault
line_faults = LineTooLong ∷ NoName ∷ NameTooLong ∷ NoPassword ∷ map Password password_faults ++ map Setting setting_faults

-- BreaksLine kind fault line: the line breaks the rule whose error is `fault`. `OverBudget` has no rule here, since it
-- depends on the job. A line to audit never breaks a rule of settings, since whatever is wrong with its field becomes
-- its answer.
abbrev pub BreaksLine : Kind → LineFault → List ℕ → Type 0
BreaksLine kind LineTooLong line = line_limit < length line
BreaksLine kind NoName line = HasFront line []
BreaksLine kind NameTooLong line = (name : List ℕ) × HasFront line name × (name_limit < length name)
BreaksLine kind NoPassword line = (parts : Parts) → ¬ HasParts kind line parts
BreaksLine kind (Password fault) line = (parts : Parts) × HasParts kind line parts × IsPasswordRefused parts.password fault
BreaksLine kind (Setting fault) line = (kind ≢ Audit)
    × (parts : Parts) × (field : List ℕ) × HasParts kind line parts × (parts.field ≡ Some field) × IsStored field × IsRefused field fault
BreaksLine kind OverBudget line = ⊥

-- IsLineRefused kind line fault: `fault` is the error of the first rule that the line breaks.
unfoldable pub IsLineRefused : Kind → List ℕ → LineFault → Type 0
IsLineRefused kind line = IsFirstBroken line_faults (λ fault. BreaksLine kind fault line)

-- IsSound kind line: the line breaks no rule.
abbrev pub IsSound : Kind → List ℕ → Type 0
IsSound kind line = (fault : LineFault) → ¬ BreaksLine kind fault line
