-- Proves the goals of `Parts::of` where it returns `None`; the prover finds the other proofs. A line without a colon
-- has no parts, and neither has a line to check with only one colon.
use Rattle.run_core.proofs.LineRules.{no_parts_cut_once, no_parts_uncut}
use Rattle.run_core.proofs.line.Parts.of.Goals as goal

pub returns-in_err-name : goal.returns-in_err-name
returns-in_err-name c = rw c.from_residual.ensures (no_parts_uncut c.args.kind c.args.line.now c.in_err-name.ensures)

pub returns-in_err-field-in-Check : goal.returns-in_err-field-in-Check
returns-in_err-field-in-Check c = rw (c.from_residual-in_err-field-in-Check.ensures, c.in-Check.is)
    (no_parts_cut_once c.args.line.now c.in_ok-name.name.now c.in_ok-name.back.now c.in_ok-name.ensures c.in_err-field-in-Check.ensures)
