-- Proves the invariant of the setting that `Setting::salted` returns: a generated salt has characters of the alphabet
-- and no more than the method keeps, so the canonical form spells the setting (MadeSettings).
use Rattle.std.proofs.Common.{◌≡◌, ◌≤◌, ◌∙◌, All, Contains, length, subst, ap, arith, rules}
use Rattle.prims_core.specs.Alphabet.{alphabet}
use Rattle.crypt_core.specs.MethodLimits.{made_salt_length, salt_limit}
use Rattle.crypt_core.specs.Schemes.{method_of}
use Rattle.crypt_core.specs.declared.method.Method.{Method}
use Rattle.crypt_core.proofs.MadeSaltLemmas.{made_salt_length-le-salt_limit}
use Rattle.crypt_core.proofs.MadeSettings.{IsSetting-from_parts}
use Rattle.crypt_core.proofs.setting.Setting.salted.Goals as goal

pub invariant_of-result : goal.invariant_of-result
invariant_of-result c =
    let copied : c.unwrap.result.items ≡ c.as_slice.result.now = search rules in
    let salt_is_drawn : c.unwrap.result.items ≡ c.salt_of-salt.result.items = copied ∙ c.as_slice.ensures.value in
    let len : length c.salt_of-salt.result.items ≡ made_salt_length c.method.result = c.salt_of-salt.ensures.length ∙ c.made_salt_length.ensures.length in
    let few : length c.unwrap.result.items ≤ salt_limit c.method.result = omega (arith, ap length salt_is_drawn, len, made_salt_length-le-salt_limit c.method.result) in
    let short : length c.unwrap.result.items ≤ salt_limit (method_of c.args.scheme) =
    subst (λ (m : Method). length c.unwrap.result.items ≤ salt_limit m) c.method.ensures.method few in
    let characters : All (Contains alphabet) c.unwrap.result.items = rw salt_is_drawn c.salt_of-salt.ensures.characters in
    IsSetting-from_parts c.args.scheme c.unwrap.result.items c.method.ensures.in_range short characters
