-- The loop of `push_block` for a vector: the words of the block before the index are appended, and the capacity is
-- unchanged.
use Rattle.std.proofs.Common.{◌≡◌, ◌+◌, ◌++◌, take, vec_len, vec_capacity}
use Rattle.prims_core.proofs.rows.VecU32Rows.push_block.Given as goal

abbrev pub invariant-appending : goal.invariant-appending
invariant-appending l = record {
  appended : l.self.items ≡ l.fn.self.items ++ take l.word-index l.block;
  len : vec_len l.self ≡ vec_len l.fn.self + l.word-index;
  kept : vec_capacity l.self ≡ vec_capacity l.fn.self;
}
