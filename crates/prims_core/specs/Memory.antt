-- The memory of scrypt: how a table's rows lie in one list, what the rows hold, and what scratch memory holds after it
-- was borrowed for writing.
use Rattle.std.specs.Prelude.{◌≡◌, ℕ, zero, suc, ◌-◌, ◌*◌, ◌<◌, ◌≤◌, List, [], ◌∷◌, ◌++◌, length, take, drop, replicate, slice_index_or}
use Rattle.std.specs.Fn.{iterate}
use Rattle.std.specs.Borrow.{Lends, MutBor, Fml, Array, u8, u32}
use Rattle.prims_core.specs.BlockMix.{block_mix}
use Rattle.prims_core.specs.Diagonals.{in_rows}
use Rattle.prims_core.specs.contracts.scratch.ByteScratch as bytes
use Rattle.prims_core.specs.contracts.scratch.WordScratch as words

-- rows_of rows row_words list: the rows of a table, of `row_words` words each, which lie in the list one after another.
unfoldable pub rows_of : ℕ → ℕ → List ℕ → List (List ℕ)
rows_of zero row_words list = []
rows_of (suc rows) row_words list = take row_words list ∷ rows_of rows row_words (drop row_words list)

-- padded size list: the list, followed by zeros until it has `size` items.
abbrev pub padded : ℕ → List ℕ → List ℕ
padded size list = list ++ replicate (size - length list) 0

-- IsLaidOut rows row_words size room: a vector of `size` words, with capacity for `room` words, can hold a table of
-- this shape. It has whole rows, from the first one on, and capacity for all of them. If it does not have all rows yet,
-- a row has at most 1024 words.
pub record IsLaidOut (rows row_words size room : ℕ) : Type 0 where
  pub whole : (set : ℕ) × (size ≡ set * row_words)
  pub inside : size ≤ rows * row_words
  pub fits : rows * row_words ≤ room
  pub short : size < rows * row_words → row_words ≤ 1024

-- HasShape table rows words: the table has this number of rows, each of this number of words.
pub record HasShape (table : List (List ℕ)) (rows words : ℕ) : Type 0 where
  pub row_count : length table ≡ rows
  pub row_words : (i : ℕ) → i < rows → length (slice_index_or table i []) ≡ words

-- HoldsMixings table count start: for each i below `count`, row i, which is in diagonal order, holds `start` after i
-- mixings.
abbrev pub HoldsMixings : List (List ℕ) → ℕ → List ℕ → Type 0
HoldsMixings table count start = (i : ℕ) → i < count → in_rows (slice_index_or table i []) ≡ iterate block_mix i start

-- written_over old new: the old list after the new items are written over it from its start. It keeps the length of the
-- old list, as a slice does.
abbrev pub written_over : List ℕ → List ℕ → List ℕ
written_over old new = take (length old) (new ++ drop (length new) old)

-- LendsBytes scratch r: `scratch` lends all its bytes to the borrow r, and then holds what was last written through r.
abbrev pub LendsBytes : MutBor (List ℕ) → MutBor (List ℕ) → Fml
LendsBytes scratch r = Lends bytes.the_row (Array u8 0) scratch r (written_over scratch.now)

-- LendsWords scratch r: `scratch` lends all its words to the borrow r, and then holds what was last written through r.
abbrev pub LendsWords : MutBor (List ℕ) → MutBor (List ℕ) → Fml
LendsWords scratch r = Lends words.the_row (Array u32 0) scratch r (written_over scratch.now)
