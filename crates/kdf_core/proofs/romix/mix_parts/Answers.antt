-- The clauses of `mix_parts`, from its loop: each iteration replaces the next part by its ROMix and keeps the later
-- parts (`take-put_mid_part`, `drop-put_mid_part`). At the end all parts are replaced (`mixed_parts-from_first_parts`).
use Rattle.std.proofs.Common.{◌≡◌, ◌+◌, ◌*◌, ◌≤◌, ◌-◌, ◌∙◌, ℕ, length, take, drop, length-take, length-drop, subst, refl, arith}
use Rattle.std.proofs.Math.Nat.{mul-le-mul_left}
use Rattle.prims_core.proofs.FilledTable.{mixes-add}
use Rattle.kdf_core.proofs.MixedParts.{first_parts, first_parts-zero, take-put_mid_part, drop-put_mid_part, mixed_parts-from_first_parts, mixes-add_zero}
use Rattle.kdf_core.proofs.romix.mix_parts.Goals as goal

pub parts-init : goal.parts-init
parts-init g c = record {
  done = first_parts-zero c.args.row_count (2 * length c.args.halves.now) c.args.parts.now;
  to_come = refl;
  kept = refl;
  count = mixes-add_zero c.args.meter.now (2 * c.args.row_count);
}

pub parts-preserved : goal.parts-preserved
parts-preserved g c =
    let size = 2 * length c.args.halves.now in
    let i = c.parts.i in
    let parts = c.parts.parts in
    let before = c.parts.invariant in
    let next : i + 1 ≤ c.args.count = omega arith in
    let part_fits : size * i + size ≤ length parts = omega (arith, c.parts.auto.parts, c.requires.whole, mul-le-mul_left size next) in
    let width : size * i + size - size * i ≡ size = omega arith in
    let length_part : length c.mix_part.new.part ≡ size =
    c.mix_part.auto.part ∙ omega (arith, length-take (size * i + size - size * i) (drop (size * i) parts), length-drop (size * i) parts) in
    record {
      done = take-put_mid_part c.args.row_count size i (size * i + size - size * i) c.args.parts.now parts c.mix_part.new.part part_fits width
          before.done before.to_come c.mix_part.ensures.part length_part;
      to_come = drop-put_mid_part size i (size * i + size - size * i) c.args.parts.now parts c.mix_part.new.part part_fits width
          before.to_come length_part;
      kept = c.mix_part.ensures.kept ∙ before.kept;
      count = mixes-add c.args.meter.now c.parts.meter c.mix_part.new.meter (2 * c.args.row_count * i) (2 * c.args.row_count)
          (2 * c.args.row_count * (i + 1)) before.count c.mix_part.ensures.count (omega arith);
    }

pub returns-clause-parts : goal.returns-clause-parts
returns-clause-parts g c =
    let size = 2 * length c.args.halves.now in
    let all_done : c.parts.i ≡ c.args.count = omega arith in
    mixed_parts-from_first_parts c.args.row_count size c.args.count c.args.parts.now c.parts.parts (omega (arith, c.requires.some_block.1)) c.requires.whole
    c.parts.auto.parts
    (subst (λ (n : ℕ). take (size * n) c.parts.parts ≡ first_parts c.args.row_count size c.args.parts.now n) all_done c.parts.invariant.done)
