-- Proves the clause `metered` of `digest_of` for SHA-crypt: the meter rises by the work of the hash, and the bytes
-- digested stay within the cost (BytesWithinCost).
use Rattle.std.proofs.Common.{rules, ◌≡◌, arith}
use Rattle.crypt_core.specs.Work.{raised_by, work}
use Rattle.crypt_core.proofs.BytesWithinCost.{work_bytes-le-cost}
use Rattle.crypt_core.proofs.hash.digest_of.Goals as goal

pub returns-after-sha-clause-metered : goal.returns-after-sha-clause-metered
returns-after-sha-clause-metered g c =
    let password = c.args.password.now in
    let kept = c.args.setting.now in
    let counted : c.match-sha.meter ≡ raised_by c.args.meter.now (work password kept) = search rules in
    record {
      count = counted;
      below = search rules;
      within = rw counted (omega (arith, work_bytes-le-cost password kept));
      refused = tt;
    }
