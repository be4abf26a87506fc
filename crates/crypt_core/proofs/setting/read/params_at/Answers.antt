-- Proves the clause `err` of `params_at`: the text fails first at the stage `BadCost` if characters are missing, at
-- `ScryptRange` if the numbers are out of range, or at `AboveCeiling` (FirstRefusal). The text has the length and the
-- bytes of a setting (`t`), and is scrypt's prefix before `after` (`e`).
use Rattle.kdf_core.specs.Params.{scrypt_params}
use Rattle.crypt_core.proofs.FirstRefusal.{refused_bad_cost, refused_scrypt_range, refused_above_ceiling, SpellsScheme-scrypt}
use Rattle.crypt_core.proofs.setting.read.params_at.Goals as goal

pub returns-in_default-clause-err : goal.returns-in_default-clause-err
returns-in_default-clause-err c = λ text t e. refused_bad_cost text t c.args.after.now e c.in_default.ensures.none

pub returns-in-Err-Range-clause-err : goal.returns-in-Err-Range-clause-err
returns-in-Err-Range-clause-err c = λ text t e.
    let n = scrypt_params c.in-Some.log_n c.in-Some.r c.in-Some.p in
    let found = c.in-Some.ensures.some in
    refused_scrypt_range text t n found.0 (SpellsScheme-scrypt text n c.args.after.now found.0 e found.1 found.2)
    (c.in-Err-Range.ensures.range.0 (cc c.in-Err-Range.field-0-is))

pub returns-in-Err-AboveCeiling-clause-err : goal.returns-in-Err-AboveCeiling-clause-err
returns-in-Err-AboveCeiling-clause-err c = λ text t e.
    let n = scrypt_params c.in-Some.log_n c.in-Some.r c.in-Some.p in
    let found = c.in-Some.ensures.some in
    let above = c.in-Err-AboveCeiling.ensures.ceiling.0 (cc c.in-Err-AboveCeiling.field-0-is) in
    refused_above_ceiling text t n found.0 (SpellsScheme-scrypt text n c.args.after.now found.0 e found.1 found.2) above.0 above.1
