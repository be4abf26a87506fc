-- Proves the clauses of `Setting::text`, and that the buffer has room for each part. The lengths of prefix, cost part
-- and salt add up to at most the limit of a canonical form, and that form spells the setting (CanonicalSpells).
use Rattle.crypt_core.specs.TextLimits.{hash_limit}
use Rattle.std.proofs.Common.{◌≡◌, ◌+◌, ◌<◌, List, ℕ, ◌++◌, length, ap, subst, ◌∙◌, length-append, arith}
use Rattle.crypt_core.specs.MethodLimits.{packed_len}
use Rattle.crypt_core.specs.Settings.{SettingValue, Spells, canonical_text, cost_part}
use Rattle.crypt_core.specs.Schemes.{method_of}
use Rattle.crypt_core.proofs.CanonicalSpells.{canonical_spells, setting_canonical_length-le}
use Rattle.crypt_core.proofs.EachMethod.{length-prefix}
use Rattle.crypt_core.proofs.setting.Setting.text.Goals as goal

-- The text's length once it has the prefix of three bytes, the cost part and the salt.
length-three_parts : (cost salt begun costed salted whole : List ℕ) → length begun ≡ 3 → costed ≡ begun ++ cost → salted ≡ salt → whole ≡ costed ++ salted → length whole ≡ 3 + (length cost + length salt)
length-three_parts cost salt begun costed salted whole begins with_cost is_salt with_salt =
    omega (arith, begins, ap length with_cost, ap length is_salt, ap length with_salt, length-append begun cost, length-append costed salted)

pub append_cost-requires : goal.append_cost-requires
append_cost-requires c =
    let short = setting_canonical_length-le (record { scheme = c.self.inside.scheme; salt = c.self.inside.salt.items }) c.self.invariant in
    let front = ap length ((rw c.unwrap-text.ensures at c.try_from.ensures).0 ∙ c.row.ensures.prefix) ∙ length-prefix c.method.result in
    record { room = omega (arith, short.0, front) }

pub unwrap-requires : goal.unwrap-requires
unwrap-requires c =
    let short = setting_canonical_length-le (record { scheme = c.self.inside.scheme; salt = c.self.inside.salt.items }) c.self.invariant in
    let front = ap length ((rw c.unwrap-text.ensures at c.try_from.ensures).0 ∙ c.row.ensures.prefix) ∙ length-prefix c.method.result in
    c.try_extend_from_slice.ensures.variant.1
    (omega (arith, short.0, front, ap length c.append_cost.ensures, length-append c.unwrap-text.result.items (cost_part c.self.inside.scheme), ap length c.as_slice.ensures.value))

pub returns-clause-spelled : goal.returns-clause-spelled
returns-clause-spelled c =
    subst (λ (kept : SettingValue). Spells (canonical_text kept) kept) c.self.view_is (canonical_spells c.self.invariant.0 (record { scheme = c.self.inside.scheme; salt = c.self.inside.salt.items }) c.self.invariant.1)

pub returns-clause-short : goal.returns-clause-short
returns-clause-short c =
    let salt = c.self.inside.salt.items in
    let short = setting_canonical_length-le (record { scheme = c.self.inside.scheme; salt = salt }) c.self.invariant in
    let front = ap length ((rw c.unwrap-text.ensures at c.try_from.ensures).0 ∙ c.row.ensures.prefix) ∙ length-prefix c.method.result in
    let whole = length-three_parts (cost_part c.self.inside.scheme) salt c.unwrap-text.result.items c.append_cost.new.text.items c.as_slice.result.now c.try_extend_from_slice.new.self.items front c.append_cost.ensures c.as_slice.ensures.value (rw c.unwrap.ensures at c.try_extend_from_slice.ensures.ok) in
    omega (arith, short.0, whole)

pub returns-clause-room : goal.returns-clause-room
returns-clause-room c =
    let salt = c.self.inside.salt.items in
    let short = setting_canonical_length-le (record { scheme = c.self.inside.scheme; salt = salt }) c.self.invariant in
    let front = ap length ((rw c.unwrap-text.ensures at c.try_from.ensures).0 ∙ c.row.ensures.prefix) ∙ length-prefix c.method.result in
    let whole = length-three_parts (cost_part c.self.inside.scheme) salt c.unwrap-text.result.items c.append_cost.new.text.items c.as_slice.result.now c.try_extend_from_slice.new.self.items front c.append_cost.ensures c.as_slice.ensures.value (rw c.unwrap.ensures at c.try_extend_from_slice.ensures.ok) in
    subst (λ (k : SettingValue). length c.try_extend_from_slice.new.self.items + packed_len (method_of k.scheme) < hash_limit) c.self.view_is
    (omega (arith, short.1, whole))
