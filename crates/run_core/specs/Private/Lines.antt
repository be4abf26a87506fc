-- The buffer of a line, its name and its parts, as the functions that read the line return them.
use Rattle.std.specs.Prelude.{◌≡◌, ◌≢◌, ℕ, ◌<◌, ◌≤◌, List, [], length, Contains, Option, Some, None, Ok}
use Rattle.crypt_core.specs.Readings.{IsFieldReading, IsReadOneWay}
use Rattle.crypt_core.specs.declared.stored.StoredField.{StoredField}
use Rattle.run_core.specs.Lines.{HasFront, HasParts, IsCut, IsSound, Parts, line_limit, name_limit}
use Rattle.run_core.specs.Makers.{bytes_of}
use Rattle.run_core.specs.Texts.{colon}
use Rattle.run_core.specs.declared.line.Kind.{Kind}
use Rattle.run_core.specs.declared.line.Kind.TheVariants.{Audit}
use Rattle.run_core.specs.declared.line.Parts.{Parts as Found}
use Rattle.run_core.specs.declared.reader.buffer.LineBuffer.{LineBuffer}
use Rattle.run_core.specs.declared.reader.buffer.LineBuffer.TheVariants.{Bytes, TooLong}

-- IsTooLong line: the line has more than `line_limit` bytes.
abbrev pub IsTooLong : List ℕ → Type 0
IsTooLong line = line_limit < length line

-- Represents buffer line: the buffer represents this line, or the part of a line that was read. It holds the same
-- bytes, or it is `TooLong` and the line has more than `line_limit` bytes.
abbrev pub Represents : LineBuffer → List ℕ → Type 0
Represents (Bytes bytes) line = bytes.items ≡ line
Represents TooLong line = IsTooLong line

-- HasSoundParts kind line parts: the line breaks no rule, and these are its parts.
pub record HasSoundParts (kind : Kind) (line : List ℕ) (parts : Parts) : Type 0 where
  pub sound : IsSound kind line
  pub cut : HasParts kind line parts

-- IsGoodName name: the name is neither empty nor too long.
pub record IsGoodName (name : List ℕ) : Type 0 where
  pub some : name ≢ []
  pub short : length name ≤ name_limit

-- IsCutOrWhole text front back: `front` precedes the first colon of the text, and `back` follows it. Without a colon,
-- `front` is the whole text and `back` is `None`.
abbrev pub IsCutOrWhole : List ℕ → List ℕ → Option (List ℕ) → Type 0
IsCutOrWhole text front (Some back) = IsCut text front back
IsCutOrWhole text front None = (text ≡ front) × ¬ Contains front colon

-- IsNamed line: the line is not too long, and has a valid name.
pub record IsNamed (line : List ℕ) : Type 0 where
  pub short : length line ≤ line_limit
  pub name : List ℕ
  pub front : HasFront line name
  pub good : IsGoodName name

-- parts_of found is the parts of a line to which the references in `found` refer.
abbrev pub parts_of : Found → Parts
parts_of found = record { name = found.name.now; field = bytes_of found.field; password = found.password.now }

-- AreSound kind parts: these are the parts of some line that breaks no rule.
abbrev pub AreSound : Kind → Parts → Type 0
AreSound kind parts = (line : List ℕ) × HasSoundParts kind line parts

-- IsFieldOf field stored: there is no field and `stored` is `None`, or the field is read as `stored`, and has at most
-- one reading (`IsReadOneWay`).
abbrev pub IsFieldOf : Option (List ℕ) → Option StoredField → Type 0
IsFieldOf None None = Unit {0}
IsFieldOf (Some field) (Some stored) = IsFieldReading field (Ok stored) × IsReadOneWay field
IsFieldOf None (Some stored) = ⊥
IsFieldOf (Some field) None = ⊥

-- IsLine kind line name password stored: the line, which is to be hashed or checked, breaks no rule, and these are its
-- name, its password and its field as it is read.
pub record IsLine (kind : Kind) (line name password : List ℕ) (stored : Option StoredField) : Type 0 where
  pub unaudited : kind ≢ Audit
  pub field : Option (List ℕ)
  pub taken : HasSoundParts kind line (record { name = name; field = field; password = password })
  pub field_of : IsFieldOf field stored
