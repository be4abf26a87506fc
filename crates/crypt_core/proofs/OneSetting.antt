-- Shows that a text spells at most one setting, for the clause `one_reading` of `Setting::read` and for `fits`,
-- `matches` and `is_whole`. The text is read from the front: the second byte of the prefix decides the method, the
-- method's cost part can be read in one way only, the field of the salt ends at the next `$`, and the method keeps one
-- salt of that field.
use Rattle.std.proofs.Common.{◌≡◌, ◌≢◌, ℕ, List, ◌++◌, get_or, refl, sym, ap, ap₂, ◌∙◌, arith}
use Rattle.kdf_core.specs.Params.{ScryptParams}
use Rattle.crypt_core.specs.declared.method.Method.{Method}
use Rattle.crypt_core.specs.declared.method.Method.TheVariants as methods
use Rattle.crypt_core.specs.declared.scheme.Scheme.{Scheme}
use Rattle.crypt_core.specs.declared.scheme.Scheme.TheVariants.{Md5crypt, Shacrypt, Scrypt}
use Rattle.crypt_core.specs.declared.scheme.Sha.{Sha}
use Rattle.crypt_core.specs.declared.scheme.Sha.TheVariants.{Sha256, Sha512}
use Rattle.crypt_core.specs.MethodLimits.{prefix}
use Rattle.crypt_core.specs.Settings.{SettingValue, scrypt_part, SpellsCost, KeepsSalt, SpellsScheme, Spells}
use Rattle.crypt_core.specs.Schemes.{method_of, sha_method}
use Rattle.crypt_core.proofs.EachMethod.{length-prefix}
use Rattle.crypt_core.proofs.DollarFields.{field_unique, append-injective}
use Rattle.crypt_core.proofs.ScryptPartFacts.{scrypt_part_unique}
use Rattle.crypt_core.proofs.SpelledRounds.{rounds_unique}

-- The second byte of a prefix identifies the method.
prefix_mark-injective : (a b : Method) → get_or (prefix a) 1 0 ≡ get_or (prefix b) 1 0 → a ≡ b
prefix_mark-injective methods.Md5crypt methods.Md5crypt e = refl
prefix_mark-injective methods.Sha256crypt methods.Sha256crypt e = refl
prefix_mark-injective methods.Sha512crypt methods.Sha512crypt e = refl
prefix_mark-injective methods.Scrypt methods.Scrypt e = refl
prefix_mark-injective a b e = absurd (omega arith)

-- A text has the prefix of at most one method.
pub prefix_unique : (a b : Method) (x y : List ℕ) → prefix a ++ x ≡ prefix b ++ y → (a ≡ b) × (x ≡ y)
prefix_unique a b x y e =
    let same = append-injective (prefix a) (prefix b) x y (length-prefix a ∙ sym (length-prefix b)) e in
    (prefix_mark-injective a b (ap (λ (t : List ℕ). get_or t 1 0) same.0), same.1)

-- Each digest function has its own method of SHA-crypt.
sha_method-injective : (a b : Sha) → sha_method a ≡ sha_method b → a ≡ b
sha_method-injective Sha256 Sha256 e = refl
sha_method-injective Sha512 Sha512 e = refl
sha_method-injective a b e = absurd (cc e)

-- SHA-crypt is neither md5crypt nor scrypt.
pub sha_method-not_others : (sha : Sha) → (sha_method sha ≢ methods.Md5crypt) × (sha_method sha ≢ methods.Scrypt)
sha_method-not_others Sha256 = (λ e. absurd (cc e), λ e. absurd (cc e))
sha_method-not_others Sha512 = (λ e. absurd (cc e), λ e. absurd (cc e))

-- What follows a method's prefix spells the cost of only one scheme of this method.
cost_unique : (a b : Scheme) (p q x y : List ℕ) → method_of a ≡ method_of b → SpellsCost a p x → SpellsCost b q y → p ++ x ≡ q ++ y → (a ≡ b) × (x ≡ y)
cost_unique Md5crypt Md5crypt p q x y m ca cb e = (refl, sym (ap (λ (z : List ℕ). z ++ x) ca) ∙ e ∙ ap (λ (z : List ℕ). z ++ y) cb)
cost_unique (Shacrypt a r) (Shacrypt b s) p q x y m ca cb e =
    let both = rounds_unique r s p q x y ca cb e in (ap₂ Shacrypt (sha_method-injective a b m) both.0, both.1)
cost_unique (Scrypt r) (Scrypt s) p q x y m ca cb e =
    let same : scrypt_part r ++ x ≡ scrypt_part s ++ y = sym (ap (λ (z : List ℕ). z ++ x) ca.0) ∙ e ∙ ap (λ (z : List ℕ). z ++ y) cb.0 in
    let both = scrypt_part_unique r s x y (ca.1, ca.2, ca.3) (cb.1, cb.2, cb.3) same in (ap (λ (t : ScryptParams). Scrypt t) both.0, both.1)
cost_unique Md5crypt (Shacrypt sha s) p q x y m ca cb e = absurd ((sha_method-not_others sha).0 (sym m))
cost_unique Md5crypt (Scrypt s) p q x y m ca cb e = absurd (cc m)
cost_unique (Shacrypt sha r) Md5crypt p q x y m ca cb e = absurd ((sha_method-not_others sha).0 m)
cost_unique (Shacrypt sha r) (Scrypt s) p q x y m ca cb e = absurd ((sha_method-not_others sha).1 m)
cost_unique (Scrypt r) Md5crypt p q x y m ca cb e = absurd (cc m)
cost_unique (Scrypt r) (Shacrypt sha s) p q x y m ca cb e = absurd ((sha_method-not_others sha).1 (sym m))

-- A text begins with at most one scheme.
pub scheme_unique : (text : List ℕ) (a b : Scheme) (x y : List ℕ) → SpellsScheme text a x → SpellsScheme text b y → (a ≡ b) × (x ≡ y)
scheme_unique text a b x y sa sb =
    let fronts = prefix_unique (method_of a) (method_of b) (sa.0 ++ x) (sb.0 ++ y) (sym sa.1 ∙ sb.1) in
    cost_unique a b sa.0 sb.0 x y fronts.0 sa.2 sb.2 fronts.1

-- A scheme keeps only one salt of a field.
salt_unique : (scheme : Scheme) (f s t : List ℕ) → KeepsSalt scheme f s → KeepsSalt scheme f t → s ≡ t
salt_unique (Scrypt n) f s t a b = a.1 ∙ sym b.1
salt_unique scheme f s t a b = a ∙ sym b

abbrev kept_of : Scheme → List ℕ → SettingValue
kept_of scheme salt = record { scheme = scheme; salt = salt }

-- A text spells at most one setting.
pub setting_unique : (text : List ℕ) (a b : SettingValue) → Spells text a → Spells text b → a ≡ b
setting_unique text a b sa sb =
    let fronts = scheme_unique text a.scheme b.scheme (sa.field ++ sa.rest) (sb.field ++ sb.rest) sa.scheme sb.scheme in
    let fields = field_unique sa.field sb.field sa.rest sb.rest sa.is_field sb.is_field fronts.1 in
    let salts : a.salt ≡ b.salt = salt_unique a.scheme sa.field a.salt b.salt sa.salt (rw (fronts.0, fields.0) sb.salt) in
    ap (λ (s : Scheme). kept_of s a.salt) fronts.0 ∙ ap (kept_of b.scheme) salts
