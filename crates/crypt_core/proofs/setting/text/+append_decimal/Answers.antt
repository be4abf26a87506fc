-- `append_decimal` appends `decimal` of its number: one digit for a number below 10, and otherwise the digits of a
-- tenth of it, by the recursive call, and then its last digit (DecimalDigits).
use Rattle.std.proofs.Common.{◌/◌, length, ap, length-append, arith}
use Rattle.std.specs.Prelude.{decimal}
use Rattle.crypt_core.proofs.DecimalDigits.{length-decimal_digit, length-decimal_step, append-decimal_digit, append-decimal_step}
use Rattle.crypt_core.proofs.setting.text.+append_decimal.Goals as goal

pub push-requires : goal.push-requires
push-requires t c = (omega arith, omega (arith, length-decimal_digit c.args.number c.if-number-lt10.true))

pub returns-then-number-lt10 : goal.returns-then-number-lt10
returns-then-number-lt10 t c = append-decimal_digit c.args.text.now.items c.push.new.self.items c.args.number c.if-number-lt10.true c.push.ensures.items

pub append_decimal-requires : goal.append_decimal-requires
append_decimal-requires t c = (omega arith, omega (arith, length-decimal_step c.args.number c.if-number-lt10.false (omega arith)))

pub push-requires-2 : goal.push-requires-2
push-requires-2 t c =
    (omega arith, omega (arith, ap length c.append_decimal.ensures, length-append c.args.text.now.items (decimal (c.args.number / 10)), length-decimal_step c.args.number c.if-number-lt10.false (omega arith)))

pub returns : goal.returns
returns t c = append-decimal_step c.args.text.now.items c.append_decimal.new.text.items c.push-2.new.self.items c.args.number c.if-number-lt10.false (omega arith) c.append_decimal.ensures c.push-2.ensures.items
