-- Lemmas for `hash_by` and `hash_len` in src/hash.rt. A hash is the canonical form of its setting, a `$` and a packed
-- digest. It has only setting bytes and is short enough, so it spells the setting again (`hashed_spells`). Its length
-- depends on the setting only (`length-crypt`).
use Rattle.std.proofs.Common.{◌≡◌, ◌≢◌, ℕ, ◌+◌, ◌∷◌, ◌++◌, List, arith, length, refl}
use Rattle.std.specs.Prelude.{All, Contains, codes}
use Rattle.std.proofs.lemmas.List.Elements.{All-cons, All-contains, All-from_recursion, All-weaker}
use Rattle.prims_core.specs.Alphabet.{alphabet}
use Rattle.crypt_core.specs.Crypt.{crypt, digest_by}
use Rattle.crypt_core.specs.Packing.{packed}
use Rattle.crypt_core.specs.Settings.{SettingValue, Spells, IsSettingByte, canonical_text, dollar}
use Rattle.crypt_core.specs.Schemes.{method_of}
use Rattle.crypt_core.specs.MethodLimits.{packed_len}
use Rattle.crypt_core.proofs.CanonicalSpells.{canonical_spells_before}
use Rattle.crypt_core.proofs.CanonicalSpells.{IsSettingByte-character}
use Rattle.std.proofs.lemmas.List.{length-append}
use Rattle.crypt_core.proofs.PackingLemmas.{in_alphabet-packed, length-packed, packed_len-le}

excluded_bytes_not_dollar : All (λ b. b ≢ dollar) (codes ":;*!\\")
excluded_bytes_not_dollar = All-from_recursion (λ b. b ≢ dollar) (codes ":;*!\\") (λ e. omega arith, (λ e. omega arith, (λ e. omega arith, (λ e. omega arith, (λ e. omega arith, tt)))))

IsSettingByte-dollar : IsSettingByte dollar
IsSettingByte-dollar = (omega arith, omega arith, λ inside. All-contains (λ b. b ≢ dollar) (codes ":;*!\\") dollar excluded_bytes_not_dollar inside refl)

-- A canonical setting followed by a `$` and a packed digest spells that setting.
pub hashed_spells : (kept : SettingValue) (digest : List ℕ) → Spells (canonical_text kept) kept
    → Spells (canonical_text kept ++ dollar ∷ packed (method_of kept.scheme) digest) kept
hashed_spells kept digest spelled =
    let text = packed (method_of kept.scheme) digest in
    let bytes = All-weaker (Contains alphabet) IsSettingByte IsSettingByte-character text (in_alphabet-packed (method_of kept.scheme) digest) in
    canonical_spells_before (canonical_text kept) kept (dollar ∷ text) spelled refl (All-cons IsSettingByte dollar text IsSettingByte-dollar bytes)
    (omega (arith, length-packed (method_of kept.scheme) digest, packed_len-le (method_of kept.scheme)))

pub length-crypt : (password : List ℕ) (kept : SettingValue) → length (crypt password kept) ≡ length (canonical_text kept) + 1 + packed_len (method_of kept.scheme)
unfolding crypt
length-crypt password kept =
    let digest = digest_by kept.scheme password kept.salt in
    omega (arith, length-append (canonical_text kept) (dollar ∷ packed (method_of kept.scheme) digest), length-packed (method_of kept.scheme) digest)
