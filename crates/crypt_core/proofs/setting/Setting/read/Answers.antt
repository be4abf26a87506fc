-- Proves the clauses of `Setting::read` for each of its results: a setting, or the error for bad bytes, a bad prefix, a
-- bad cost part or a bad salt. The result is either the setting that the text spells or the error of the first stage
-- that fails (FirstRefusal). Since a text has at most one reading (Refusals), `each_setting` and `each_refusal` follow.
use Rattle.std.specs.Prelude.{Err}
use Rattle.std.proofs.Common.{sym, subst, ◌∙◌, rules}
use Rattle.crypt_core.specs.Private.Parts.{SpellsSalt}
use Rattle.crypt_core.specs.Schemes.{method_of}
use Rattle.crypt_core.specs.Settings.{SpellsScheme}
use Rattle.crypt_core.specs.declared.method.Method.{Method}
use Rattle.crypt_core.specs.declared.setting.fault.SettingFault.TheVariants.{BadSalt}
use Rattle.crypt_core.proofs.FirstRefusal.{refused_bad_salt, Spells-from_SpellsScheme}
use Rattle.crypt_core.proofs.Refusals.{Err-from_IsRefused, Ok-from_Spells}
use Rattle.crypt_core.proofs.setting.Setting.read.Goals as goal

pub returns-in_err-check_bytes-clause-each_setting : goal.returns-in_err-check_bytes-clause-each_setting
returns-in_err-check_bytes-clause-each_setting c =
    Ok-from_Spells c.args.text.now c.from_residual.result (search rules) (search rules)

pub returns-in_err-check_bytes-clause-each_refusal : goal.returns-in_err-check_bytes-clause-each_refusal
returns-in_err-check_bytes-clause-each_refusal c =
    Err-from_IsRefused c.args.text.now c.from_residual.result (search rules) (search rules)

pub invariant_of-result : goal.invariant_of-result
invariant_of-result c =
    let salt : SpellsSalt (method_of c.in-Ok.scheme) c.in-Ok.after.now c.in-Some.salt.items =
    subst (λ (m : Method). SpellsSalt m c.in-Ok.after.now c.in-Some.salt.items) c.method.ensures.method c.in-Some.ensures.some in
    (c.args.text.now, Spells-from_SpellsScheme c.args.text.now c.in-Ok.scheme c.in-Ok.after.now c.in-Some.salt.items c.in_ok-check_bytes.ensures.ok c.in-Ok.ensures.ok c.method.ensures.in_range salt)

pub returns-in-Some-clause-each_setting : goal.returns-in-Some-clause-each_setting
returns-in-Some-clause-each_setting c = Ok-from_Spells c.args.text.now _ (search rules) (search rules)

pub returns-in-Some-clause-each_refusal : goal.returns-in-Some-clause-each_refusal
returns-in-Some-clause-each_refusal c = Err-from_IsRefused c.args.text.now _ (search rules) (search rules)

pub returns-in-None-clause-refused : goal.returns-in-None-clause-refused
returns-in-None-clause-refused c =
    let bad = c.in-None.ensures.none in
    let field = bad.2 in
    refused_bad_salt c.args.text.now c.in-Ok.scheme bad.1 field.0 c.in_ok-check_bytes.ensures.ok
    (subst (SpellsScheme c.args.text.now c.in-Ok.scheme) field.1 c.in-Ok.ensures.ok) c.method.ensures.in_range (sym c.method.ensures.method ∙ bad.0) field.2 bad.3

pub returns-in-None-clause-each_setting : goal.returns-in-None-clause-each_setting
returns-in-None-clause-each_setting c = Ok-from_Spells c.args.text.now (Err BadSalt) tt (returns-in-None-clause-refused c)

pub returns-in-None-clause-each_refusal : goal.returns-in-None-clause-each_refusal
returns-in-None-clause-each_refusal c = Err-from_IsRefused c.args.text.now (Err BadSalt) tt (returns-in-None-clause-refused c)

pub returns-in-Err-clause-each_setting : goal.returns-in-Err-clause-each_setting
returns-in-Err-clause-each_setting c = Ok-from_Spells c.args.text.now (Err c.in-Err.fault) tt c.in-Err.ensures.err

pub returns-in-Err-clause-each_refusal : goal.returns-in-Err-clause-each_refusal
returns-in-Err-clause-each_refusal c = Err-from_IsRefused c.args.text.now (Err c.in-Err.fault) tt c.in-Err.ensures.err
