-- Stored fields, as a password file has them (shadow(5), crypt(5)).
use Rattle.std.specs.Prelude.{◌≡◌, ◌≢◌, ℕ, ◌⊎◌, List, [], ◌∷◌, ◌++◌, codes}
use Rattle.crypt_core.specs.Packing.{IsPacked}
use Rattle.crypt_core.specs.Schemes.{method_of}
use Rattle.crypt_core.specs.Settings.{BeginsWith, SettingValue, Spells, canonical_text, dollar}

-- A stored hash: its bytes, and the setting that they spell.
pub record StoredHash : Type 0 where
  pub text : List ℕ
  pub setting : SettingValue

-- IsHashOf text stored: the stored hash has these bytes, and they spell its setting.
pub record IsHashOf (text : List ℕ) (stored : StoredHash) : Type 0 where
  pub is_text : stored.text ≡ text
  pub spells : Spells text stored.setting

-- IsLocked field: the field begins with `!` or `*`, so no password matches it.
abbrev pub IsLocked : List ℕ → Type 0
IsLocked field = BeginsWith field (codes "!") ⊎ BeginsWith field (codes "*")

-- IsStored field: the field is neither empty nor locked, so it should be a stored hash.
abbrev pub IsStored : List ℕ → Type 0
IsStored field = (field ≢ []) × ¬ IsLocked field

-- IsWhole text kept: the text is this setting in canonical form, a `$`, and the packed form of some digest. The hash of
-- every password with the setting has this form.
abbrev pub IsWhole : List ℕ → SettingValue → Type 0
IsWhole text kept = (packed : List ℕ) × IsPacked (method_of kept.scheme) packed × (text ≡ canonical_text kept ++ dollar ∷ packed)
