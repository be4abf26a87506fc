-- The clause `part` of `mix_part`: the clauses of its calls compose to the definition of ROMix. The words are loaded
-- and rearranged, the first loop fills the rows, the second loop mixes with the rows, and the words are rearranged back
-- and stored.
use Rattle.std.proofs.Common.{◌≡◌, ◌*◌, ℕ, length, subst, ap, ◌∙◌, arith}
use Rattle.std.specs.Fn.{iterate}
use Rattle.prims_core.specs.Diagonals.{in_rows}
use Rattle.prims_core.specs.Memory.{rows_of, HoldsMixings}
use Rattle.prims_core.specs.Words.{bytes_of_words}
use Rattle.kdf_core.specs.Scrypt.{mixed_back, romix, mixed_part}
use Rattle.kdf_core.proofs.ScryptBounds.{IsPower-even, IsPower-pos}
use Rattle.kdf_core.proofs.romix.mix_part.Goals as goal

pub to_diagonals-requires : goal.to_diagonals-requires
to_diagonals-requires g c =
    record { whole = omega (arith, c.requires.some_block.2, c.load_words.auto.words) }

pub fill_by_mixing-requires-clause-even : goal.fill_by_mixing-requires-clause-even
fill_by_mixing-requires-clause-even g c =
    let k = c.requires.power.0 in
    omega (arith, IsPower-even c.args.row_count k c.requires.power.1, IsPower-pos c.args.row_count k c.requires.power.1)

pub from_diagonals-requires : goal.from_diagonals-requires
from_diagonals-requires g c =
    let loaded : length c.load_words.new.words ≡ 32 * c.requires.some_block.0 = omega (arith, c.requires.some_block.2, c.load_words.auto.words) in
    record { whole = omega (arith, loaded, c.to_diagonals.auto.words, c.fill_by_mixing.auto.x, c.mix_with_rows.auto.x) }

pub returns-clause-part : goal.returns-clause-part
unfolding romix mixed_part
returns-clause-part g c =
    let count = c.args.row_count in
    let start = in_rows c.to_diagonals.new.words in
    let loaded = c.to_diagonals.ensures ∙ c.load_words.ensures in
    let filled = c.fill_by_mixing.ensures in
    -- The rows that the first loop leaves are the table of the second loop.
    let held : HoldsMixings (rows_of count (length c.fill_by_mixing.new.x) c.words.result.now) count start =
    rw c.words.ensures (subst (λ (n : ℕ). HoldsMixings (rows_of count n (g.M.Rows.words c.fill_by_mixing.new.rows)) count start)
    (omega (arith, c.fill_by_mixing.auto.x)) filled.rows) in
    c.store_words.ensures
    ∙ ap bytes_of_words (c.from_diagonals.ensures ∙ c.mix_with_rows.ensures.mixed start held
    ∙ (ap (iterate (mixed_back count start) count) filled.mixed ∙ ap (romix count) loaded))
