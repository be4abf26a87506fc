-- The recursion of `append_decimal` ends because the number gets smaller.
use Rattle.crypt_core.proofs.setting.text.+append_decimal.Given as goal

abbrev pub decreases-append_decimal : goal.decreases-append_decimal
decreases-append_decimal l = l.number
