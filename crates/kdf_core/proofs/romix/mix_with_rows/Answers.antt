-- The clauses of `mix_with_rows`, from its loop: each iteration is two steps of ROMix's second loop, from x to y and
-- back (`iterate-add_two`). N is even (`IsPower-even`), so N / 2 iterations are N steps.
use Rattle.std.proofs.Common.{◌≡◌, ℕ, ◌+◌, ◌*◌, List, length, subst, sym, ap, ◌∙◌, arith}
use Rattle.prims_core.specs.Memory.{rows_of, HoldsMixings}
use Rattle.std.specs.Fn.{iterate}
use Rattle.prims_core.specs.Diagonals.{in_rows}
use Rattle.kdf_core.specs.Scrypt.{mixed_back}
use Rattle.prims_core.proofs.FilledTable.{iterate-add_two, mixes-add}
use Rattle.kdf_core.proofs.ScryptBounds.{IsPower-even}
use Rattle.kdf_core.proofs.romix.mix_with_rows.Goals as goal

pub mixing-preserved : goal.mixing-preserved
mixing-preserved c =
    let n = c.mixing.counter in
    let count = c.args.row_count in
    -- x and y keep their length, so the rows of the table are the same at each step.
    let holds_as : (w : ℕ) (start : List ℕ) → length c.args.x.now ≡ w → HoldsMixings (rows_of count (length c.args.x.now) c.args.table.now) count start
    → HoldsMixings (rows_of count w c.args.table.now) count start =
    λ w start same holds. subst (λ (k : ℕ). HoldsMixings (rows_of count k c.args.table.now) count start) same holds in
    let halves = c.requires.halves.1 in
    let same_x : length c.args.x.now ≡ length c.mixing.x = sym c.mixing.auto.x in
    let same_y : length c.args.x.now ≡ length c.mix_back.new.y =
    omega (arith, c.mix_back.auto.y, c.mixing.auto.y, halves.first, halves.second) in
    record {
      mixed = λ start holds. iterate-add_two (mixed_back count start) n (in_rows c.args.x.now) (in_rows c.mixing.x)
          (in_rows c.mix_back.new.y) (in_rows c.mix_back-in-mixing.new.y) (c.mixing.invariant.mixed start holds)
          (c.mix_back.ensures.mixed start (holds_as _ start same_x holds)) (c.mix_back-in-mixing.ensures.mixed start (holds_as _ start same_y holds));
      count = mixes-add c.args.meter.now c.mix_back.new.meter c.mix_back-in-mixing.new.meter (2 * n + 1) 1 (2 * (n + 1))
          (mixes-add c.args.meter.now c.mixing.meter c.mix_back.new.meter (2 * n) 1 (2 * n + 1) c.mixing.invariant.count
          c.mix_back.ensures.count (omega arith)) c.mix_back-in-mixing.ensures.count (omega arith);
    }

pub returns-clause-mixed : goal.returns-clause-mixed
returns-clause-mixed c start holds =
    let all_rows : 2 * c.mixing.counter ≡ c.args.row_count = omega (arith, IsPower-even c.args.row_count c.requires.power.0 c.requires.power.1) in
    c.mixing.invariant.mixed start holds ∙ ap (λ n. iterate (mixed_back c.args.row_count start) n (in_rows c.args.x.now)) all_rows

pub returns-clause-count : goal.returns-clause-count
returns-clause-count c =
    let all_rows : 2 * c.mixing.counter ≡ c.args.row_count = omega (arith, IsPower-even c.args.row_count c.requires.power.0 c.requires.power.1) in
    c.mixing.invariant.count ∙ ap (λ n. record c.args.meter.now { mixes = c.args.meter.now.mixes + n }) all_rows
