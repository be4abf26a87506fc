-- Proves the clauses `none` and `some` of `numbers_at`: if log2 N, r or p can't be decoded, a character is missing or
-- outside the alphabet; otherwise the text begins with the cost part of the three numbers (ParsedParts).
use Rattle.std.proofs.Common.{arith}
use Rattle.crypt_core.proofs.ParsedParts.{IfNone-always, LacksCharacters-first, LacksCharacters-group, scrypt_part-from_numerals}
use Rattle.crypt_core.proofs.setting.read.numbers_at.Goals as goal

pub returns-in_err-log_n-clause-none : goal.returns-in_err-log_n-clause-none
returns-in_err-log_n-clause-none c =
    IfNone-always c.from_residual.result _ (LacksCharacters-first c.args.after.now (λ h. absurd (cc (c.in_err-log_n.ensures.accepts.1 h))))

pub returns-in_err-r-clause-none : goal.returns-in_err-r-clause-none
returns-in_err-r-clause-none c =
    IfNone-always c.from_residual-in_err-r.result _ (LacksCharacters-group c.args.after.now 1 (omega arith) (λ h. absurd (cc (c.in_err-r.ensures.accepts.1 h))))

pub returns-in_err-p-clause-none : goal.returns-in_err-p-clause-none
returns-in_err-p-clause-none c =
    IfNone-always c.from_residual-in_err-p.result _ (LacksCharacters-group c.args.after.now 6 (omega arith) (λ h. absurd (cc (c.in_err-p.ensures.accepts.1 h))))

pub returns-clause-some : goal.returns-clause-some
returns-clause-some c =
    scrypt_part-from_numerals c.args.after.now c.in_ok-log_n.log_n c.in_ok-r.r c.in_ok-p.p c.if-after-lt-SCRYPT_PART_LEN.false c.in_ok-log_n.ensures.value.0 c.in_ok-log_n.ensures.value.1 c.in_ok-r.ensures.number.0 c.in_ok-r.ensures.number.1 c.in_ok-p.ensures.number.0 c.in_ok-p.ensures.number.1
