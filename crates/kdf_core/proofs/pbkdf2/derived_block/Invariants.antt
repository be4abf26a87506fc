-- The loop of `derived_block`: after j rounds, `last` is U_j, `sum` is T_i of j rounds, and the work of j rounds is
-- counted.
use Rattle.std.proofs.Common.{◌≡◌, ℕ, ◌*◌, List, length}
use Rattle.prims_core.specs.Meter.{with_work}
use Rattle.kdf_core.specs.HmacMessages.{IsKeyOf}
use Rattle.kdf_core.specs.Pbkdf2.{chain, block}
use Rattle.kdf_core.specs.Pbkdf2Messages.{block_bytes}
use Rattle.kdf_core.proofs.pbkdf2.derived_block.Given as goal

abbrev pub invariant-rounds : goal.invariant-rounds
invariant-rounds l = record {
  last : (password : List ℕ) → IsKeyOf l.key password → l.last ≡ chain password l.salt l.number l.counter;
  sum : (password : List ℕ) → IsKeyOf l.key password → l.sum ≡ block password l.salt l.counter l.number;
  count : l.meter ≡ with_work l.fn.meter (2 * l.counter) (block_bytes (length l.salt) l.counter);
}
