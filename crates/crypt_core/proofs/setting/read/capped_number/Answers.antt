-- The loop of `capped_number` keeps its invariant: capping after one more digit equals capping the number of all digits
-- so far (ParsedParts).
use Rattle.crypt_core.specs.Rounds.{max_rounds}
use Rattle.std.proofs.Common.{ℕ, ◌+◌, ◌*◌, get_or, refl, ap, ◌∙◌}
use Rattle.std.specs.Prelude.{min}
use Rattle.crypt_core.proofs.ParsedParts.{capped_value-more}
use Rattle.crypt_core.proofs.setting.read.capped_number.Goals as goal

pub loop-digit-preserved : goal.loop-digit-preserved
loop-digit-preserved c =
    c.min-number.ensures ∙ ap (λ (d : ℕ). min (c.loop-digit.number * 10 + d) max_rounds) c.from.ensures
    ∙ capped_value-more c.args.digits.now c.loop-digit.digit-index c.loop-digit.number (get_or c.args.digits.now c.loop-digit.digit-index 0) c.loop-digit-test.true c.requires refl c.loop-digit.invariant
