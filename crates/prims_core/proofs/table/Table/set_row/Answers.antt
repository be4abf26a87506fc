-- The clauses of `set_row`. Appending zeros to the vector keeps the table as it is (`rows_of-append_zeros`), and
-- `IsLaidOut` still holds (`IsLaidOut-extended`). Then the row is within the vector, and copying to it replaces this
-- row alone (`rows_of-padded_put_mid`).
use Rattle.std.proofs.Common.{◌≡◌, ℕ, ◌+◌, ◌-◌, ◌*◌, ◌≤◌, List, length, arith, ap, ◌∙◌, length-take, length-drop}
use Rattle.std.specs.Vec.{with_items}
use borrow.Rule.Slice.PartMut.{put_mid}
use Rattle.prims_core.specs.Memory.{rows_of, padded}
use Rattle.prims_core.proofs.TableFacts.{row_ends_within, length-accepted_row, rows_of-append_zeros, rows_of-padded_put_mid, IsLaidOut-extended}
use Rattle.prims_core.proofs.table.Table.set_row.Goals as goal

pub copy_from_slice-requires : goal.copy_from_slice-requires
copy_from_slice-requires c =
    let w : ℕ = c.self.inside.row_words in
    let length_row : length c.args.row.now ≡ w =
    length-accepted_row _ _ _ _ _ c.args.i c.self.view_is c.requires.inside (omega (arith, c.self.inside.words.ok.0, c.self.invariant.inside)) c.requires.same_length in
    simp (length-take, length-drop) (omega (arith, length_row, ap length c.deref_mut.ensures.value, c.fill.new.words.ok.0))

pub invariant_of-self : goal.invariant_of-self
invariant_of-self c =
    IsLaidOut-extended c.self.inside.rows c.self.inside.row_words _ _ c.args.i _ _ c.self.invariant
    (row_ends_within _ _ _ _ c.args.i c.self.view_is c.requires.inside) c.fill.ensures.len c.fill.ensures.room

pub returns : goal.returns
returns c =
    let n : ℕ = c.self.inside.rows in
    let w : ℕ = c.self.inside.row_words in
    let start : ℕ = c.args.i * w in
    let row_ends : start + w ≤ n * w = row_ends_within _ _ _ _ c.args.i c.self.view_is c.requires.inside in
    let length_row : length c.args.row.now ≡ w =
    length-accepted_row _ _ _ _ _ c.args.i c.self.view_is c.requires.inside (omega (arith, c.self.inside.words.ok.0, c.self.invariant.inside)) c.requires.same_length in
    -- The table is the same after zeros are appended.
    let same_table : rows_of n w (padded (n * w) c.fill.new.words.items) ≡ c.args.self.now =
    rows_of-append_zeros n w (start + w) _ _ _ c.self.view_is row_ends c.fill.ensures.zeros in
    -- The copy replaces the words of row i by the given row.
    let copied : put_mid start (start + w - start) c.deref_mut.result.now c.copy_from_slice.new.self
    ≡ put_mid start (start + w - start) c.fill.new.words.items c.args.row.now = cc in
    ap (λ (words : List ℕ). rows_of n w (padded (n * w) (with_items c.fill.new.words words).items)) copied
    ∙ rows_of-padded_put_mid n w _ _ c.args.i (start + w - start) c.fill.new.words.len c.args.row.now same_table
    c.requires.inside (omega (arith, c.fill.ensures.len, c.fill.new.words.ok.0))
    (omega (arith, row_ends, c.fill.ensures.len, c.fill.new.words.ok.0, c.self.invariant.inside)) c.fill.new.words.ok.0 length_row (omega arith)
