-- The clause `tag` of `tag`: the two digests that the code takes are those of the definition
-- (`hmac_sha256-from_digests`).
use Rattle.std.proofs.Common.{sym, subst}
use Rattle.kdf_core.specs.HmacMessages.{PaddedKey, IsKeyOf}
use Rattle.kdf_core.proofs.HmacLemmas.{hmac_sha256-from_digests}
use Rattle.kdf_core.proofs.hmac.HmacKey.tag.Goals as goal

pub returns-clause-tag : goal.returns-clause-tag
returns-clause-tag c key of_key =
    let held : PaddedKey = record { inner = c.self.inside.inner; outer = c.self.inside.outer } in
    hmac_sha256-from_digests held key c.args.a.now c.args.b.now _ _ (subst (λ (h : PaddedKey). IsKeyOf h key) (sym c.self.view_is) of_key)
    c.sha256_of-text.ensures.digest c.sha256_of.ensures.digest
