-- The rows of a table that lie one after another in a slice, as `mix_back` reads them. Row i ends within the slice, and
-- the part of the slice from the start to the end of row i is the row.
use Rattle.std.proofs.Common.{◌≡◌, ℕ, ◌+◌, ◌-◌, ◌*◌, ◌<◌, ◌≤◌, List, [], length, get_or, take, drop, length-take, length-drop, sym, ap, ◌∙◌, arith}
use Rattle.std.proofs.lemmas.Nat.{rows}
use Rattle.prims_core.specs.Memory.{rows_of}
use Rattle.prims_core.proofs.TableFacts.{get_or-rows_of}

-- Row i, of w words, ends within a table of n rows if i is below n.
pub row_ends_within : (n w i size : ℕ) → i < n → size ≡ n * w → i * w + w ≤ size
row_ends_within n w i size inside size_is = rw size_is (grind (arith, rows))

-- The slice from the start to the end of row i has the length of a row.
pub length-row_slice : (n w i : ℕ) (table : List ℕ) → i < n → length table ≡ n * w
    → length (take (i * w + w - i * w) (drop (i * w) table)) ≡ w
length-row_slice n w i table inside length_table =
    let row_ends : i * w + w ≤ length table = row_ends_within n w i (length table) inside length_table in
    simp (length-take, length-drop) (omega (arith, row_ends))

-- The slice from the start to the end of row i is the row.
pub row_slice-get_or : (n w i : ℕ) (table : List ℕ) → i < n
    → take (i * w + w - i * w) (drop (i * w) table) ≡ get_or (rows_of n w table) i []
row_slice-get_or n w i table inside =
    let size : i * w + w - i * w ≡ w = omega arith in
    ap (λ (k : ℕ). take k (drop (i * w) table)) size ∙ sym (get_or-rows_of n w table i [] inside)
