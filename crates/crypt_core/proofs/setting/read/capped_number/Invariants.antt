-- In the loop of `capped_number`, the number so far is what the digits so far spell, but at most `max_rounds`.
use Rattle.crypt_core.specs.Rounds.{max_rounds}
use Rattle.std.proofs.Common.{◌≡◌, take}
use Rattle.std.specs.Prelude.{min}
use Rattle.std.specs.Str.Parse.{digits_value}
use Rattle.crypt_core.proofs.setting.read.capped_number.Given as goal

abbrev pub invariant-loop-digit : goal.invariant-loop-digit
invariant-loop-digit l = l.number ≡ min (digits_value 10 (take l.digit-index l.digits)) max_rounds
