-- The loop of `from_diagonals`: the blocks before block i are in row order, and the others are as at the start.
use Rattle.std.proofs.Common.{◌≡◌, ℕ, ◌<◌, ◌≤◌, length}
use Rattle.prims_core.specs.BlockMix.{block_at}
use Rattle.prims_core.specs.Diagonals.{block_in_rows}
use Rattle.prims_core.proofs.mix.from_diagonals.Given as goal

abbrev pub invariant-turning : goal.invariant-turning
invariant-turning l = record {
  length : length l.words ≡ length l.fn.words;
  done : (k : ℕ) → k < l.i → block_at k l.words ≡ block_in_rows (block_at k l.fn.words);
  rest : (k : ℕ) → l.i ≤ k → block_at k l.words ≡ block_at k l.fn.words;
}
