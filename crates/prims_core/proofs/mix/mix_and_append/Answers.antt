-- The clauses of `mix_and_append`. Each iteration computes the next X (`x_after-add_one`), writes it to its place, and
-- appends block i to the rows (`take-append-block_at`). After 2r iterations the results are those of scryptBlockMix in
-- their order (`in_rows-from_ArePlaced`). Each block fits into the rows' memory, since all of `src` does.
use Rattle.std.proofs.Common.{◌≡◌, ℕ, ◌+◌, ◌*◌, ◌/◌, ◌≤◌, List, ◌++◌, length, take, sym, ap, ap₂, ◌∙◌, arith, length-take, length-drop, length-append, append_assoc, append-nil}
use Rattle.prims_core.specs.BlockMix.{block_at, x_after, block_mix}
use Rattle.prims_core.specs.Diagonals.{in_rows}
use Rattle.prims_core.specs.Private.Mixing.{mixed_block, y_at}
use Rattle.prims_core.proofs.BlockFacts.{length-in_rows}
use Rattle.prims_core.proofs.MixedBlocks.{x_after-zero, x_after-add_one, in_rows-from_ArePlaced, take-append-block_at}
use Rattle.prims_core.proofs.mix.mix_and_append.Goals as goal

pub block_on_diagonals-x-requires : goal.block_on_diagonals-x-requires
block_on_diagonals-x-requires g c = omega (arith, c.requires.blocks)

pub mixing-init : goal.mixing-init
mixing-init g c = record {
  before = c.block_on_diagonals-x.ensures ∙ sym (x_after-zero (length c.args.src.now / 32) (in_rows c.args.src.now));
  placed = λ k none. absurd (omega arith);
  appended = sym (append-nil (g.R.Rows.words c.args.rows.now));
  kept = omega arith;
}

pub block_on_diagonals-requires : goal.block_on_diagonals-requires
block_on_diagonals-requires g c = omega (arith, c.requires.blocks, c.mixing-test.true)

pub push_block-requires-clause-whole : goal.push_block-requires-clause-whole
push_block-requires-clause-whole g c =
    let inside : 16 * c.mixing.i + 16 ≤ length c.args.src.now = omega (arith, c.requires.blocks, c.mixing-test.true) in
    ap length c.block_words.ensures ∙ simp (length-take, length-drop) (omega (arith, inside))

pub push_block-requires-clause-fits : goal.push_block-requires-clause-fits
push_block-requires-clause-fits g c =
    let inside : 16 * c.mixing.i + 16 ≤ length c.args.src.now = omega (arith, c.requires.blocks, c.mixing-test.true) in
    omega (
      arith,
      inside,
      ap length c.mixing.invariant.appended,
      length-append (g.R.Rows.words c.args.rows.now) (take (16 * c.mixing.i) c.args.src.now),
      length-take (16 * c.mixing.i) c.args.src.now,
      c.mixing.invariant.kept,
      c.requires.fits,
    )

pub mixing-preserved : goal.mixing-preserved
mixing-preserved g c =
    let words = in_rows c.args.src.now in
    let i : ℕ = c.mixing.i in
    let r : ℕ = length c.args.src.now / 32 in
    let rows_before : List ℕ = g.R.Rows.words c.args.rows.now in
    -- X after this iteration is the X of the definition after block i.
    let x_is : c.mixed_block-x.result ≡ x_after r words (i + 1) =
    c.mixed_block-x.ensures ∙ ap₂ mixed_block {y = x_after r words i} c.mixing.invariant.before c.block_on_diagonals.ensures ∙ sym (x_after-add_one r words i) in record {
      before = x_is;
      placed = c.put_result.ensures (y_at r words) c.mixing.invariant.placed x_is;
      appended = c.push_block.ensures.words
          ∙ ap₂ (λ (done block : List ℕ). done ++ block) c.mixing.invariant.appended c.block_words.ensures
          ∙ append_assoc rows_before (take (16 * i) c.args.src.now) (block_at i c.args.src.now)
          ∙ ap (λ (blocks : List ℕ). rows_before ++ blocks) (take-append-block_at i c.args.src.now);
      kept = omega (arith, c.mixing.invariant.kept, c.push_block.ensures.room);
    }

pub returns-clause-mixed : goal.returns-clause-mixed
unfolding block_mix
returns-clause-mixed g c =
    let words = in_rows c.args.src.now in
    let r_is : length words / 32 ≡ length c.args.src.now / 32 = omega (arith, c.requires.blocks, length-in_rows c.args.src.now) in
    rw r_is (in_rows-from_ArePlaced (length c.args.src.now / 32) (y_at (length c.args.src.now / 32) words) c.mixing.dst
    (omega (arith, c.requires.blocks, c.mixing.auto.dst)) (λ k inside. c.mixing.invariant.placed k (omega (arith, c.mixing-test.false))))
