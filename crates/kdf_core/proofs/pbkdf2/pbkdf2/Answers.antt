-- The clauses of `pbkdf2`, from its loop over the blocks. Each iteration writes the next block after the others
-- (`take-blocks_add_one`), and at the end `out` holds the derived bytes (`pbkdf2_sha256-from_blocks`). The meter can
-- count the work of all blocks, so it can count that of the next one.
use Rattle.std.proofs.Common.{◌≡◌, ℕ, ◌+◌, ◌*◌, ◌<◌, ◌≤◌, ◌-◌, ◌++◌, length, take, ap, ◌∙◌, arith}
use Rattle.std.specs.Int.{div_ceil}
use Rattle.std.proofs.Math.Nat.{mul-le-mul_left, mul-le-mul_right}
use Rattle.std.proofs.lemmas.Grind.{div_ceil_times}
use Rattle.kdf_core.specs.Pbkdf2.{block}
use Rattle.kdf_core.specs.Pbkdf2Messages.{block_bytes}
use Rattle.kdf_core.proofs.AddedWork.{with_work-add}
use Rattle.kdf_core.proofs.Pbkdf2Lemmas.{take-blocks_add_one, pbkdf2_sha256-from_blocks}
use Rattle.kdf_core.proofs.pbkdf2.pbkdf2.Goals as goal

-- The work of i + 1 blocks is at most that of all blocks, so the meter can count one more block.
pub derived_block-block-requires-clause-digests_room : goal.derived_block-block-requires-clause-digests_room
derived_block-block-requires-clause-digests_room c =
    let so_far = ap (λ m. m.digests) c.filling.invariant.count in
    let next : c.filling.i + 1 ≤ div_ceil (length c.args.out.now) 32 = omega arith in
    omega (arith, so_far, mul-le-mul_left (2 * c.args.rounds) next, c.requires.digests_room)

pub derived_block-block-requires-clause-bytes_room : goal.derived_block-block-requires-clause-bytes_room
derived_block-block-requires-clause-bytes_room c =
    let so_far = ap (λ m. m.bytes) c.filling.invariant.count in
    let each : ℕ = block_bytes (length c.args.salt.now) c.args.rounds in
    let next : c.filling.i + 1 ≤ div_ceil (length c.args.out.now) 32 = omega arith in
    omega (arith, so_far, mul-le-mul_right each next, c.requires.bytes_room)

pub filling-preserved : goal.filling-preserved
filling-preserved c =
    let salt = c.args.salt.now in
    let rounds = c.args.rounds in
    let i = c.filling.i in
    let room = length c.args.out.now in
    let inside : 32 * i < room = omega (arith, (div_ceil_times room 32 (omega arith)).1) in
    let before = c.filling.invariant in
    record {
      front = λ password of_key. take-blocks_add_one (block password salt rounds) c.filling.out c.put_block.new.out
          c.derived_block-block.result room i inside c.filling.auto.out (before.front password of_key)
          (c.derived_block-block.ensures.block password of_key)
          (c.put_block.ensures ∙ ap (λ n. take (32 * i) c.filling.out ++ take (n - 32 * i) c.derived_block-block.result) c.filling.auto.out);
      count = with_work-add c.args.meter.now c.filling.meter c.derived_block-block.new.meter _ _ _ _ _ _ before.count
          c.derived_block-block.ensures.count (omega arith) (omega arith);
    }

pub returns-clause-bytes : goal.returns-clause-bytes
returns-clause-bytes c password of_key =
    let all_written : c.filling.i ≡ div_ceil (length c.args.out.now) 32 = omega arith in
    pbkdf2_sha256-from_blocks password c.args.salt.now c.filling.out c.args.rounds (length c.args.out.now) c.filling.i c.filling.auto.out all_written
    (c.filling.invariant.front password of_key)
