-- The clause of `row`, for its two cases. A row that ends within the vector is read from it (`take_drop-padded_row`).
-- Any other row starts at the vector's end or after it, since the vector has whole rows (`multiple-le_row_start`). So
-- such a row is zeros (`replicate-padded_row`), and it is short enough for `ZEROS`.
use Rattle.std.proofs.Common.{◌≡◌, ℕ, ◌+◌, ◌-◌, ◌*◌, ◌≤◌, List, take, drop, length, arith, ap, ◌∙◌}
use Rattle.std.proofs.lemmas.List.{take-replicate}
use Rattle.prims_core.proofs.TableFacts.{take_drop-padded_row, replicate-padded_row, row_ends_within, multiple-le_row_start}
use Rattle.prims_core.proofs.table.Table.row.Goals as goal

pub returns-then-end-len : goal.returns-then-end-len
returns-then-end-len c =
    let w : ℕ = c.self.inside.row_words in
    let start : ℕ = c.args.i * w in
    let slice_size : start + w - start ≡ w = omega arith in
    ap (λ (n : ℕ). take n (drop start c.deref.result.now)) slice_size
    ∙ ap (λ (words : List ℕ). take w (drop start words)) c.deref.ensures.value
    ∙ take_drop-padded_row _ _ _ _ c.args.i c.self.view_is c.requires (omega (arith, c.self.inside.words.ok.0))

pub returns-else-end-len : goal.returns-else-end-len
returns-else-end-len c =
    let w : ℕ = c.self.inside.row_words in
    let size : ℕ = length c.self.inside.words.items in
    let past_end : size ≤ c.args.i * w =
    multiple-le_row_start c.self.invariant.whole.0 w size c.args.i
    (omega (arith, c.self.invariant.whole.1, c.self.inside.words.ok.0))
    (omega (arith, c.self.inside.words.ok.0)) in
    let row_ends : c.args.i * w + w ≤ c.self.inside.rows * w = row_ends_within _ _ _ _ c.args.i c.self.view_is c.requires in
    take-replicate w 1024 0 (c.self.invariant.short (omega (arith, row_ends))) ∙ replicate-padded_row _ _ _ _ c.args.i c.self.view_is c.requires past_end
