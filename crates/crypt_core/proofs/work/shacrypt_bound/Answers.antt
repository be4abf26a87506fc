-- Proves the clause `never_passed` of `shacrypt_bound`: the first byte of the digest A is at most 255, which the bound
-- takes (WorkBounds).
use Rattle.std.proofs.Common.{◌≡◌, subst, sym, rules}
use Rattle.prims_core.specs.declared.meter.Work.{Work}
use Rattle.crypt_core.specs.ShaCrypt.{sha_opening_byte}
use Rattle.crypt_core.specs.Work.{shacrypt_work, IsWithin, greatest_byte}
use Rattle.crypt_core.proofs.ShaCryptLemmas.{sha_opening_byte-below}
use Rattle.crypt_core.proofs.WorkBounds.{shacrypt_work-within}
use Rattle.crypt_core.proofs.work.shacrypt_bound.Goals as goal

pub returns-clause-never_passed : goal.returns-clause-never_passed
returns-clause-never_passed g c p s p_is s_is =
    let h = g.H.Counted.digest in
    let len = g.H.Counted.LEN in
    let a = sha_opening_byte h p s in
    let byte = sha_opening_byte-below h len g.met.H.Counted.length_digest p s g.met.H.Counted.at_least_1 g.met.H.Counted.digest_bytes in
    let bound : c.digests_alone.result ≡ shacrypt_work len greatest_byte c.args.rounds c.args.password c.args.salt = search rules in
    subst (λ (most : Work). IsWithin (shacrypt_work len a c.args.rounds c.args.password c.args.salt) most) (sym bound)
    (shacrypt_work-within len a c.args.rounds c.args.password c.args.salt byte)
