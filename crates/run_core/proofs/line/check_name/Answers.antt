-- Proves the goals of `check_name` where it refuses a line, by the lemmas of `LineRules`: the line is too long, its
-- name is empty, or its name is too long. These rules are the same for each kind of line, so each proof is for any
-- `kind`. `cut_front` gives the cut at the first colon, and so the name.
use Rattle.std.proofs.Common.{◌∙◌, sym, arith}
use Rattle.std.proofs.lemmas.Bool.{eqb-true}
use Rattle.run_core.specs.Makers.{bytes_of}
use Rattle.run_core.proofs.LineRules.{refused_for_long_name, refused_for_no_name, too_long-refused}
use Rattle.run_core.proofs.line.check_name.Goals as goal

pub returns-then-line-gt-LINE_LIMIT-clause-refused : goal.returns-then-line-gt-LINE_LIMIT-clause-refused
returns-then-line-gt-LINE_LIMIT-clause-refused c = λ kind. too_long-refused kind c.args.line.now c.if-line-gt-LINE_LIMIT.true

pub returns-then-is_empty-clause-refused : goal.returns-then-is_empty-clause-refused
returns-then-is_empty-clause-refused c = λ kind.
    refused_for_no_name kind c.args.line.now c.cut_front.result.0.now (bytes_of c.cut_front.result.1) (omega arith) c.cut_front.ensures
    (eqb-true _ _ (sym c.is_empty.ensures ∙ c.if-is_empty.true))

pub returns-then-name-gt-NAME_LIMIT-clause-refused : goal.returns-then-name-gt-NAME_LIMIT-clause-refused
returns-then-name-gt-NAME_LIMIT-clause-refused c = λ kind.
    refused_for_long_name kind c.args.line.now c.cut_front.result.0.now (bytes_of c.cut_front.result.1) (omega arith) c.cut_front.ensures
    c.if-name-gt-NAME_LIMIT.true
