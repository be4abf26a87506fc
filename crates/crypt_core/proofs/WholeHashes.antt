-- Lemmas for `StoredHash::is_whole` in src/stored.rt, whose clause `dead` says that no password matches a hash that
-- isn't whole. A hash that matches is the canonical form of its setting, a `$` and a packed digest; what remains is
-- that every scheme's digest has the method's length and consists of bytes. For md5crypt and SHA-crypt, that digest is
-- the digest of the last message, and for scrypt one block of PBKDF2.
use Rattle.std.proofs.Common.{◌≡◌, ◌≢◌, ◌∷◌, append_assoc, ℕ, zero, suc, List, [], ◌++◌, refl, sym, subst, ap, ◌∙◌, arith}
use Rattle.std.specs.Prelude.{◌↔◌, Bool, IsTrue, take}
use Rattle.std.proofs.lemmas.List.{append-nil, take_all}
use Rattle.prims_core.specs.Digests.{length-md5, length-sha256, length-sha512, sha256}
use Rattle.prims_core.specs.Private.DigestFacts.{md5_bytes, sha256_bytes, sha512_bytes}
use Rattle.prims_core.specs.Words.{big_bytes}
use Rattle.kdf_core.specs.Hmac.{hmac_sha256}
use Rattle.kdf_core.specs.Pbkdf2.{block, chain, pbkdf2_sha256}
use Rattle.kdf_core.specs.Scrypt.{scrypt}
use Rattle.crypt_core.specs.Crypt.{crypt, digest_by}
use Rattle.crypt_core.specs.Fits.{Fits}
use Rattle.crypt_core.specs.Md5crypt.{md5crypt_digest}
use Rattle.crypt_core.specs.Packing.{IsDigest, IsPacked, packed}
use Rattle.crypt_core.specs.RoundMessage.{digest_after}
use Rattle.crypt_core.specs.Schemes.{method_of}
use Rattle.crypt_core.specs.Settings.{SettingValue, Spells, canonical_text, dollar}
use Rattle.crypt_core.specs.ShaCrypt.{shacrypt_digest}
use Rattle.crypt_core.specs.StoredFields.{IsWhole}
use Rattle.crypt_core.specs.declared.method.Method.TheVariants as methods
use Rattle.crypt_core.specs.declared.scheme.Scheme.{Scheme}
use Rattle.crypt_core.specs.declared.scheme.Scheme.TheVariants.{Md5crypt, Shacrypt, Scrypt}
use Rattle.crypt_core.specs.declared.scheme.Sha.TheVariants.{Sha256, Sha512}
use Rattle.crypt_core.proofs.DollarFields.{append-injective}
use Rattle.crypt_core.proofs.OneSetting.{setting_unique}

-- What holds of h of every message, and of the digest before the rounds, holds of the digest after n rounds.
digest_after-from_each : (P : List ℕ → Type 0) (h : List ℕ → List ℕ) → ((message : List ℕ) → P (h message))
    → (opening p q : List ℕ) (n : ℕ) → P opening → P (digest_after h opening p q n)
unfolding digest_after
digest_after-from_each P h each opening p q zero first = first
digest_after-from_each P h each opening p q (suc n) first = each _

IsDigest-sha256 : (message : List ℕ) → IsDigest methods.Scrypt (sha256 message)
IsDigest-sha256 message = (length-sha256 message, sha256_bytes message)

IsDigest-hmac_sha256 : (key text : List ℕ) → IsDigest methods.Scrypt (hmac_sha256 key text)
unfolding hmac_sha256
IsDigest-hmac_sha256 key text = IsDigest-sha256 _

-- scrypt's digest has the right length and consists of bytes: it is one block of PBKDF2, which is a single HMAC tag.
IsDigest-pbkdf2_sha256 : (password salt : List ℕ) → IsDigest methods.Scrypt (pbkdf2_sha256 password salt 1 32)
unfolding pbkdf2_sha256 block chain
IsDigest-pbkdf2_sha256 password salt =
    let tag = hmac_sha256 password (salt ++ big_bytes 4 1) in
    let tagged = IsDigest-hmac_sha256 password (salt ++ big_bytes 4 1) in
    let whole : take 32 (tag ++ []) ≡ tag = ap (take 32) (append-nil tag) ∙ take_all 32 tag (omega (arith, tagged.0)) in
    subst (IsDigest methods.Scrypt) (sym whole) tagged

IsDigest-digest_by : (scheme : Scheme) (password salt : List ℕ) → IsDigest (method_of scheme) (digest_by scheme password salt)
unfolding md5crypt_digest shacrypt_digest scrypt
IsDigest-digest_by Md5crypt password salt =
    let each : (message : List ℕ) → IsDigest methods.Md5crypt _ = λ message. (length-md5 message, md5_bytes message) in
    digest_after-from_each (IsDigest methods.Md5crypt) _ each _ _ _ 1000 (each _)
IsDigest-digest_by (Shacrypt Sha256 rounds) password salt = digest_after-from_each (IsDigest methods.Sha256crypt) _ IsDigest-sha256 _ _ _ rounds.count (IsDigest-sha256 _)
IsDigest-digest_by (Shacrypt Sha512 rounds) password salt =
    let each : (message : List ℕ) → IsDigest methods.Sha512crypt _ = λ message. (length-sha512 message, sha512_bytes message) in
    digest_after-from_each (IsDigest methods.Sha512crypt) _ each _ _ _ rounds.count (each _)
IsDigest-digest_by (Scrypt cost) password salt = IsDigest-pbkdf2_sha256 password _

-- A stored hash that some password matches is whole.
pub IsWhole-from_Fits : (password text : List ℕ) (kept : SettingValue) → Spells text kept → Fits password text → IsWhole text kept
unfolding crypt
IsWhole-from_Fits password text kept spelled fits =
    let hash_is_text : crypt password kept ≡ text = ap (crypt password) (setting_unique text kept fits.0 spelled fits.1) ∙ fits.2 in
    let digest = digest_by kept.scheme password kept.salt in
    (packed (method_of kept.scheme) digest, (digest, IsDigest-digest_by kept.scheme password kept.salt, refl), sym hash_is_text)

-- No password matches a stored hash that is not whole.
pub not_whole-fits_none : (whole : Bool) (text : List ℕ) (kept : SettingValue) → Spells text kept → IsTrue whole ↔ IsWhole text kept
    → ¬ IsTrue whole → (password : List ℕ) → ¬ Fits password text
not_whole-fits_none whole text kept spelled decides lacks password fits = lacks (decides.1 (IsWhole-from_Fits password text kept spelled fits))

-- A text that begins with its canonical setting and a `$` is whole exactly if the rest is packed. For the second
-- direction, `found` says that the text is whole: it is the same front followed by a packed text, which is then the
-- rest.
pub IsWhole-iff_packed : (text front rest : List ℕ) (kept : SettingValue) (packs : Bool) → front ≡ canonical_text kept ++ dollar ∷ []
    → text ≡ front ++ rest → IsTrue packs ↔ IsPacked (method_of kept.scheme) rest → IsTrue packs ↔ IsWhole text kept
IsWhole-iff_packed text front rest kept packs front_is cut decides =
    let canonical = canonical_text kept in
    let whole : text ≡ canonical ++ dollar ∷ rest = rw front_is at cut ∙ append_assoc canonical (dollar ∷ []) rest in (
      (λ yes. (rest, decides.0 yes, whole)),
      λ found.
          let tails : dollar ∷ rest ≡ dollar ∷ found.0 = (append-injective canonical canonical (dollar ∷ rest) (dollar ∷ found.0) refl (sym whole ∙ found.2)).1 in
          let rest_is : rest ≡ found.0 = cc tails in
          decides.1 (subst (IsPacked (method_of kept.scheme)) (sym rest_is) found.1),
    )

-- A text that does not begin with its canonical setting and a `$` is not whole.
pub not_whole-without_front : (text front : List ℕ) (kept : SettingValue) → front ≡ canonical_text kept ++ dollar ∷ []
    → ((rest : List ℕ) → text ≢ front ++ rest) → ¬ IsWhole text kept
not_whole-without_front text front kept front_is lacks found =
    lacks found.0 (found.2 ∙ sym (append_assoc (canonical_text kept) (dollar ∷ []) _) ∙ ap (λ (x : List ℕ). x ++ found.0) (sym front_is))
