-- Proves the clauses `none` and `some` of `number_at`: the text has one field, up to its first `$`. Without a `$`, or
-- if the field is not a number, the text does not begin with a number and a `$`; otherwise the field is that number
-- (ParsedParts).
use Rattle.std.proofs.Common.{◌≡◌, true, take, arith, rules}
use Rattle.crypt_core.proofs.ParsedParts.{LacksNumber-no_dollar, LacksNumber-bad_digits, append-number_dollar_rest}
use Rattle.crypt_core.proofs.setting.read.number_at.Goals.{then-end-field-via-then-end-field, then-end-field-via-else-end-field+then-not-is_rounds_number}
use Rattle.crypt_core.proofs.setting.read.number_at.Goals as goal

pub returns-then-end-field-clause-none : goal.returns-then-end-field-clause-none
returns-then-end-field-clause-none c =
    let at = c.field_len-end.ensures.field in
    elim c.then-end-field.branch [
      | then-end-field-via-then-end-field w ↦ LacksNumber-no_dollar c.args.field.now c.field_len-end.result at (omega arith)
      | then-end-field-via-else-end-field+then-not-is_rounds_number w ↦ LacksNumber-bad_digits c.args.field.now c.field_len-end.result at (λ h. absurd (cc (w.if-not-is_rounds_number.ensures.1 h)))
    ]

pub returns-clause-some : goal.returns-clause-some
returns-clause-some c =
    let proper : c.is_rounds_number.result ≡ true = search rules in (
      take c.field_len-end.result c.args.field.now,
      c.is_rounds_number.ensures.0 proper,
      append-number_dollar_rest c.args.field.now c.field_len-end.result c.field_len-end.ensures.field (omega arith),
      c.capped_number.ensures,
    )
