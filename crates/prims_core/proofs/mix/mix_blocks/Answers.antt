-- The clause of `mix_blocks`. Each iteration computes the next X (`x_after-add_one`) and writes it to its place (by the
-- clause of `put_result`). After 2r iterations the results are those of scryptBlockMix in their order
-- (`in_rows-from_ArePlaced`).
use Rattle.std.proofs.Common.{◌≡◌, ◌+◌, ◌/◌, length, ap₂, sym, ◌∙◌, arith}
use Rattle.prims_core.specs.BlockMix.{x_after, block_mix}
use Rattle.prims_core.specs.Private.Mixing.{mixed_block, y_at}
use Rattle.prims_core.proofs.MixedBlocks.{x_after-zero, x_after-add_one, in_rows-from_ArePlaced}
use Rattle.prims_core.proofs.mix.mix_blocks.Goals as goal

pub mixing-init : goal.mixing-init
mixing-init g c = record {
  before = c.block-x.ensures ∙ sym (x_after-zero c.args.r (g.B.Blocks.words c.args.src.now));
  placed = λ k none. absurd (omega arith);
}

pub mixing-preserved : goal.mixing-preserved
mixing-preserved g c =
    let words = g.B.Blocks.words c.args.src.now in
    let i = c.mixing.i in
    let r = c.args.r in
    -- X after this iteration is the X of the definition after block i.
    let x_is : c.mixed_block-x.result ≡ x_after r words (i + 1) =
    c.mixed_block-x.ensures ∙ ap₂ mixed_block {y = x_after r words i} c.mixing.invariant.before c.block.ensures ∙ sym (x_after-add_one r words i) in record {
      before = x_is;
      placed = c.put_result.ensures (y_at r words) c.mixing.invariant.placed x_is;
    }

pub returns : goal.returns
unfolding block_mix
returns g c =
    let words = g.B.Blocks.words c.args.src.now in
    let r_is : length words / 32 ≡ c.args.r = omega (arith, c.requires) in
    rw r_is (in_rows-from_ArePlaced c.args.r (y_at c.args.r words) c.mixing.dst (omega arith) (λ k inside. c.mixing.invariant.placed k (omega arith)))
