-- The alphabet of crypt(5) and its base-64 numerals. A character stands for six bits of a number, and the first
-- character for the lowest six.
use Rattle.std.specs.Prelude.{ℕ, zero, suc, ◌/◌, ◌%◌, List, [], ◌∷◌, slice_index, codes}

-- The 64 characters in order of their values: `.` is 0, `/` is 1, `0` is 2, `A` is 12, `a` is 38.
unfoldable pub alphabet : List ℕ
alphabet = codes "./0123456789ABCDEFGHIJKLMNOPQRSTUVWXYZabcdefghijklmnopqrstuvwxyz"

-- character_of value: the character for a value below 64.
abbrev pub character_of : ℕ → ℕ
character_of value = slice_index alphabet value

-- numerals count value: the lowest 6 * count bits of `value` as `count` characters, lowest six bits first.
unfoldable pub numerals : ℕ → ℕ → List ℕ
numerals zero value = []
numerals (suc count) value = character_of (value % 64) ∷ numerals count (value / 64)
