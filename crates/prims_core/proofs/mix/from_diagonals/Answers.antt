-- The clause of `from_diagonals`. Each iteration of its loop rearranges block i and leaves the others
-- (`rearranged_blocks-put_mid`). At the end each block is rearranged, so the list is the one of the clause
-- (`equal-from_same_blocks`).
use Rattle.std.proofs.Common.{◌≡◌, ℕ, ◌+◌, ◌-◌, ◌*◌, ◌/◌, ◌<◌, length, take, drop, refl, ap, ◌∙◌, sym, arith}
use Rattle.prims_core.specs.BlockMix.{block_at}
use Rattle.prims_core.specs.Diagonals.{block_in_rows, in_rows}
use Rattle.prims_core.proofs.BlockFacts.{length-in_rows, block_at-in_rows, equal-from_same_blocks, rearranged_blocks-put_mid}
use Rattle.prims_core.proofs.mix.from_diagonals.Goals as goal

pub turning-init : goal.turning-init
turning-init c = record { length = refl; done = λ k none. absurd (omega arith); rest = λ k later. refl }

pub turning-preserved : goal.turning-preserved
turning-preserved c =
    let i = c.turning.i in
    let n : ℕ = length c.args.words.now / 16 in
    let length_words : length c.turning.words ≡ 16 * n = omega (arith, c.turning.invariant.length, c.requires.whole) in
    let inside : i < n = omega arith in
    let slice_size : 16 * i + 16 - 16 * i ≡ 16 = omega arith in
    -- The slice that the code takes is block i.
    let slice_is_block : take (16 * i + 16 - 16 * i) (drop (16 * i) c.turning.words) ≡ block_at i c.turning.words =
    ap (λ (k : ℕ). take k (drop (16 * i) c.turning.words)) slice_size in
    let one_more = rearranged_blocks-put_mid n i (16 * i + 16 - 16 * i) (λ k b. b ≡ block_in_rows (block_at k c.args.words.now)) c.args.words.now c.turning.words c.store.new.words length_words inside slice_size
    (omega arith) (c.store.ensures ∙ c.of_diagonals-block.ensures ∙ ap block_in_rows (slice_is_block ∙ c.turning.invariant.rest i (omega arith)))
    c.turning.invariant.done c.turning.invariant.rest in record {
      length = omega arith;
      done = one_more.0;
      rest = one_more.1;
    }

pub returns : goal.returns
returns c =
    let n : ℕ = length c.args.words.now / 16 in
    let length_words : length c.args.words.now ≡ 16 * n = omega (arith, c.requires.whole) in
    equal-from_same_blocks n c.turning.words (in_rows c.args.words.now) (omega (arith, c.turning.invariant.length, length_words)) (omega (arith, length-in_rows c.args.words.now, length_words)) (λ k inside.
    c.turning.invariant.done k (omega (arith, length_words)) ∙ sym (block_at-in_rows c.args.words.now k (omega (arith, length_words))))
