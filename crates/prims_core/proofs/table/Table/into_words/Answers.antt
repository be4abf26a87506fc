-- The clause of `into_words`: a table of a shape has no more words than the rows of the padded list (`HasShape-le`),
-- and the vector has capacity for the words of all rows.
use Rattle.std.proofs.Common.{arith}
use Rattle.prims_core.proofs.TableFacts.{HasShape-le}
use Rattle.prims_core.proofs.table.Table.into_words.Goals as goal

pub returns : goal.returns
returns c = record {
  room = λ rows row_words shape.
      omega (
        arith,
        HasShape-le c.self.inside.rows c.self.inside.row_words rows row_words c.self.inside.words.items c.args.self c.self.view_is
            (omega (arith, c.self.inside.words.ok.0, c.self.invariant.inside)) shape,
        c.self.invariant.fits,
      );
}
