-- The clauses of `fill_by_mixing`. Each iteration appends x and then y, which is x mixed once, and leaves x mixed twice
-- (`HasMixings-append_two`). The memory has space for both rows (`two_more_rows-fit`). The number of rows is even, so
-- all rows are filled after the last iteration (`HoldsMixings-from_HasMixings`).
use Rattle.std.proofs.Common.{rules, ◌≡◌, ℕ, ◌+◌, ◌*◌, length, ap, ◌∙◌, arith, length-append}
use Rattle.prims_core.specs.BlockMix.{block_mix}
use Rattle.prims_core.specs.Diagonals.{in_rows}
use Rattle.prims_core.proofs.FilledTable.{HasMixings-nil, HasMixings-append_two, mixes-add, two_more_rows-fit, HoldsMixings-from_HasMixings, iterate-add_two}
use Rattle.prims_core.proofs.rows.fill_by_mixing.Goals as goal

pub filling-init : goal.filling-init
filling-init g c = record {
  filled = rw c.restart.ensures.words (HasMixings-nil _ _);
  kept = c.restart.ensures.room;
  mixed = search rules;
  count = search rules;
}

pub mix_and_append-requires-clause-fits : goal.mix_and_append-requires-clause-fits
mix_and_append-requires-clause-fits g c =
    let two_rows_fit = two_more_rows-fit c.args.count (length c.args.x.now) c.filling.counter (omega (arith, c.filling-test.true)) in
    omega (arith, two_rows_fit, c.filling.auto.x, c.filling.invariant.filled.long, c.filling.invariant.kept, c.requires.fits)

pub mix_and_append-requires-in-filling-clause-fits : goal.mix_and_append-requires-in-filling-clause-fits
mix_and_append-requires-in-filling-clause-fits g c =
    let two_rows_fit = two_more_rows-fit c.args.count (length c.args.x.now) c.filling.counter (omega (arith, c.filling-test.true)) in
    let length_once = ap length c.mix_and_append.ensures.appended ∙ length-append (g.R.Rows.words c.filling.rows) c.filling.x in
    let length_y : length c.mix_and_append.new.dst ≡ length c.args.x.now =
    omega (arith, c.mix_and_append.auto.dst, c.filling.auto.y, c.requires.blocks.2) in
    omega (
      arith,
      two_rows_fit,
      length_once,
      length_y,
      c.filling.auto.x,
      c.filling.invariant.filled.long,
      c.mix_and_append.ensures.kept,
      c.filling.invariant.kept,
      c.requires.fits,
    )

pub filling-preserved : goal.filling-preserved
filling-preserved g c =
    let i : ℕ = c.filling.counter in
    let before = c.filling.invariant in
    record {
      filled = HasMixings-append_two _ _ _ c.filling.x c.mix_and_append.new.dst _ _ i before.filled c.filling.auto.x
          (omega (arith, c.mix_and_append.auto.dst, c.filling.auto.y, c.requires.blocks.2)) before.mixed c.mix_and_append.ensures.mixed
          c.mix_and_append.ensures.appended c.mix_and_append-in-filling.ensures.appended;
      kept = omega (arith, before.kept, c.mix_and_append.ensures.kept, c.mix_and_append-in-filling.ensures.kept);
      mixed = iterate-add_two block_mix i (in_rows c.args.x.now) (in_rows c.filling.x) (in_rows c.mix_and_append.new.dst)
          (in_rows c.mix_and_append-in-filling.new.dst) before.mixed c.mix_and_append.ensures.mixed c.mix_and_append-in-filling.ensures.mixed;
      count = mixes-add c.args.meter.now c.mix_and_append.new.meter c.mix_and_append-in-filling.new.meter (2 * i + 1) 1
          (2 * (i + 1)) (mixes-add c.args.meter.now c.filling.meter c.mix_and_append.new.meter (2 * i) 1 (2 * i + 1) before.count
          c.mix_and_append.ensures.count (omega arith)) c.mix_and_append-in-filling.ensures.count (omega arith);
    }

pub returns-clause-whole : goal.returns-clause-whole
returns-clause-whole g c =
    let all_rows : 2 * c.filling.counter ≡ c.args.count =
    omega (arith, c.requires.even, c.filling-test.false, c.filling.auto.counter-end) in
    c.filling.invariant.filled.long ∙ ap (λ (n : ℕ). n * length c.args.x.now) all_rows

pub returns-clause-rows : goal.returns-clause-rows
returns-clause-rows g c =
    let all_rows : 2 * c.filling.counter ≡ c.args.count =
    omega (arith, c.requires.even, c.filling-test.false, c.filling.auto.counter-end) in
    HoldsMixings-from_HasMixings c.args.count (length c.args.x.now) (g.R.Rows.words c.filling.rows) _ (rw all_rows at c.filling.invariant.filled)
