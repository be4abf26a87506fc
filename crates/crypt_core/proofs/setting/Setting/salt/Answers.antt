-- Proves the clause `short` of `Setting::salt`: a setting is spelled by some text, so its salt is no longer than the
-- method keeps (CanonicalSpells).
use Rattle.std.proofs.Common.{◌≤◌, ap, arith, length, subst}
use Rattle.crypt_core.specs.MethodLimits.{salt_limit}
use Rattle.crypt_core.specs.Schemes.{method_of}
use Rattle.crypt_core.specs.Settings.{SettingValue}
use Rattle.crypt_core.proofs.CanonicalSpells.{setting-in_range}
use Rattle.crypt_core.proofs.setting.Setting.salt.Goals as goal

pub returns-clause-short : goal.returns-clause-short
returns-clause-short c =
    let bounded = setting-in_range (record { scheme = c.self.inside.scheme; salt = c.self.inside.salt.items }) c.self.invariant in
    let short : length c.as_slice.result.now ≤ salt_limit (method_of c.self.inside.scheme) = omega (arith, bounded.1, ap length c.as_slice.ensures.value) in
    subst (λ (kept : SettingValue). length c.as_slice.result.now ≤ salt_limit (method_of kept.scheme)) c.self.view_is short
