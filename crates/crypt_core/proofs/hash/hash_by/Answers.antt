-- Proves the clauses `text` and `spells` of `hash_by`. The text is put together as `crypt` defines it: the canonical
-- setting, a `$`, and the packed digest. Such a text spells its setting (HashedTexts).
use Rattle.std.proofs.Common.{◌∷◌, List, [], ℕ, append_assoc, sym, subst, ◌∙◌}
use Rattle.crypt_core.specs.Crypt.{crypt, digest_by}
use Rattle.crypt_core.specs.Settings.{Spells, canonical_text, dollar}
use Rattle.crypt_core.proofs.HashedTexts.{hashed_spells}
use Rattle.crypt_core.proofs.hash.hash_by.Goals as goal

pub returns-clause-text : goal.returns-clause-text
unfolding crypt
returns-clause-text g c =
    let kept = c.args.setting.now in
    c.append_packed.ensures.text
    ∙ rw (c.as_slice.ensures.value, c.push.ensures.items, c.text-text.ensures.canonical, c.method.ensures, c.in_ok-digest.ensures.digest) (append_assoc (canonical_text kept) (dollar ∷ []) _)

pub returns-clause-spells : goal.returns-clause-spells
unfolding crypt
returns-clause-spells g c =
    let kept = c.args.setting.now in
    let digest = digest_by kept.scheme c.args.password.now kept.salt in
    subst (λ (t : List ℕ). Spells t kept) (sym (returns-clause-text g c)) (hashed_spells kept digest c.text-text.ensures.spelled)
