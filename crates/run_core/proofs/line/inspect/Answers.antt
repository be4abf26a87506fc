-- Proves the clause `each_refusal` of `inspect`. `check` finds the first rule that the line breaks. Since a line is
-- refused for only one rule, and a line that breaks none is not refused, each refusal of the line is the one returned.
use Rattle.std.proofs.Common.{◌≡◌, ◌∙◌, ℕ, List, ap}
use Rattle.std.specs.Prelude.{Result, Ok, Err, Some}
use Rattle.std.specs.Result.{IfOk, IfErr, result_err}
use Rattle.run_core.specs.Lines.{IsLineRefused, IsSound}
use Rattle.run_core.specs.declared.line.LineFault.{LineFault}
use Rattle.run_core.specs.declared.line.Kind.{Kind}
use Rattle.run_core.proofs.LineRules.{refusal_unique, sound_not_refused}
use Rattle.run_core.proofs.line.inspect.Goals as goal

-- If a check returns the first rule that a line breaks, each refusal of the line is for this rule.
result_err-refused : {A : Type 0} (kind : Kind) (line : List ℕ) (result : Result A LineFault) (fault : LineFault) → IfOk result (λ _. IsSound kind line)
    → IfErr result (IsLineRefused kind line) → IsLineRefused kind line fault → result_err result ≡ Some fault
result_err-refused kind line (Ok unit) fault sound other refused = absurd (sound_not_refused kind line fault sound refused)
result_err-refused kind line (Err other) fault sound first refused = ap Some (refusal_unique kind line other fault first refused)

-- If the line is refused for some rule (`fault`, `refused`), `inspect` returns this rule.
pub returns-clause-each_refusal : goal.returns-clause-each_refusal
returns-clause-each_refusal c = λ fault refused.
    c.err.ensures.value ∙ result_err-refused c.args.kind c.args.line.now c.check.result fault c.check.ensures.sound c.check.ensures.refused refused
