-- Conditions on the groups of a digest's bytes that are packed together, and on the last character of a packed digest.
use Rattle.std.specs.Prelude.{ℕ, ◌&&◌, Bool, IsTrue, nat_lt, List, length, map}
use Rattle.std.specs.List.{list_all}
use Rattle.std.specs.Borrow.{Bor}
use Rattle.crypt_core.specs.declared.method.Method.{Method}
use Rattle.crypt_core.specs.declared.method.Method.TheVariants.{Md5crypt, Sha256crypt, Sha512crypt, Scrypt}

-- is_group len places: these are one to three indices into a digest of len bytes.
abbrev pub is_group : ℕ → List ℕ → Bool
is_group len places =
    nat_lt 0 (length places) && (nat_lt (length places) 4 && list_all (λ place. nat_lt place len) places)

-- IsGroup len places: `is_group` as a proposition.
abbrev pub IsGroup : ℕ → List ℕ → Type 0
IsGroup len places = IsTrue (is_group len places)

-- AreGroups len groups: each of these lists is a group of indices, as `is_group` says.
abbrev pub AreGroups : ℕ → List (List ℕ) → Type 0
AreGroups len groups = IsTrue (list_all (is_group len) groups)

-- groups_in table: the groups that a table in the code lists.
abbrev pub groups_in : List (Bor (List ℕ)) → List (List ℕ)
groups_in table = map (λ group. group.now) table

-- last_value_limit method: the last character of the method's packed digest has a value below this. If the last group
-- has one byte, the four highest of that character's six bits are 0; if it has two bytes, the two highest.
abbrev pub last_value_limit : Method → ℕ
last_value_limit Md5crypt = 4
last_value_limit Sha256crypt = 16
last_value_limit Sha512crypt = 4
last_value_limit Scrypt = 16
