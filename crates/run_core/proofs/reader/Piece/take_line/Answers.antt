-- Proves the clause `takes` of `Piece::take_line`, with a line feed in the piece and without one, by the lemmas of
-- `LineReading` on the range of bytes that is the piece.
use Rattle.std.proofs.Common.{refl, sym, ◌∙◌}
use Rattle.run_core.proofs.LineReading.{TakesLine-all, TakesLine-to_feed}
use Rattle.run_core.proofs.reader.Piece.take_line.Goals as goal

pub returns-in-Some-clause-takes : goal.returns-in-Some-clause-takes
returns-in-Some-clause-takes c =
    rw (← c.self.view_is) (TakesLine-to_feed c.self.inside.bytes c.self.inside.start c.self.inside.end c.in-Some.at _ c.args.buffer.now c.append.new.self
    c.self.invariant.0 refl (sym c.line_feed_at.ensures ∙ c.in-Some.is) c.append.ensures)

pub returns-in-None-clause-takes : goal.returns-in-None-clause-takes
returns-in-None-clause-takes c =
    rw (← c.self.view_is) (TakesLine-all c.self.inside.bytes c.self.inside.end _ c.args.buffer.now c.append-in-None.new.self
    (sym c.line_feed_at.ensures ∙ c.in-None.is) c.append-in-None.ensures)
