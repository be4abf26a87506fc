-- The clause of `is_within_ceiling`, for its two cases. If log2 N is at most 23, the comparison with the quotient is
-- exact (`quotient_test-iff_within`). If it is 24 or more, the product is above the ceiling (`power_test-iff_within`).
use Rattle.kdf_core.proofs.CeilingByQuotient.{quotient_test-iff_within, power_test-iff_within}
use Rattle.kdf_core.proofs.params.is_within_ceiling.Goals as goal

pub returns-then-log_n-lt24 : goal.returns-then-log_n-lt24
returns-then-log_n-lt24 c = rw (c.from.ensures, c.from-then-log_n-lt24.ensures) (quotient_test-iff_within c.args.log_n c.args.r c.args.p 8388608)

pub returns-else-log_n-lt24 : goal.returns-else-log_n-lt24
returns-else-log_n-lt24 c = power_test-iff_within c.args.log_n c.args.r c.args.p c.if-log_n-lt24.false c.requires.in_range.2 c.requires.in_range.3
