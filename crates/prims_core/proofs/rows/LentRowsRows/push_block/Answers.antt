-- The clause of `push_block` for `LentRows`: the words up to the new end are the words before, followed by the block,
-- since the copy replaces exactly the sixteen words after the old end.
use Rattle.std.proofs.Common.{◌≡◌, ℕ, ◌+◌, ◌-◌, List, ◌++◌, length, take, drop, ap, ◌∙◌, arith, length-take, length-drop}
use Rattle.std.specs.Simd.Lanes.{put_chunk, chunk}
use Rattle.std.proofs.lemmas.List.{take_all}
use Rattle.std.proofs.lemmas.Simd.{put_chunk_whole}
use Rattle.std.proofs.lemmas.Slice.{take-put_mid}
use Rattle.prims_core.proofs.rows.LentRowsRows.push_block.Goals as goal

pub returns-clause-words : goal.returns-clause-words
returns-clause-words c =
    let words : List ℕ = c.args.self.now.words.now in
    let old_end : ℕ = c.args.self.now.written in
    let old_part : List ℕ = take (old_end + 16 - old_end) (drop old_end words) in
    -- Loading the block as one vector gives all its words, since it has sixteen words.
    let whole_block : chunk 0 16 c.args.block.now ≡ c.args.block.now = take_all 16 c.args.block.now (omega (arith, c.requires.whole)) in
    let same_length : length old_part ≡ length (chunk 0 16 c.args.block.now) =
    omega (
      arith,
      length-take (old_end + 16 - old_end) (drop old_end words),
      length-drop old_end words,
      length-take old_end words,
      ap length whole_block,
      c.requires.whole,
      c.requires.fits,
    ) in
    -- After the block is copied to a part of sixteen words, that part is the block.
    let written : put_chunk 0 old_part (chunk 0 16 c.args.block.now) ≡ c.args.block.now =
    put_chunk_whole old_part (chunk 0 16 c.args.block.now) same_length ∙ whole_block in
    take-put_mid old_end (old_end + 16 - old_end) words (put_chunk 0 old_part (chunk 0 16 c.args.block.now)) (old_end + 16)
    (omega (arith, ap length written, c.requires.whole)) (omega arith)
    ∙ ap (λ (b : List ℕ). take old_end words ++ b) written
