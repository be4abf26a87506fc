-- All parts have at most 2 ^ 29 bytes (`parts_bytes-le`). So `needed_bytes` doesn't overflow, and its result is at most
-- 2 ^ 29.
use Rattle.std.proofs.Common.{arith}
use Rattle.kdf_core.proofs.ScryptBounds.{parts_bytes-product, parts_bytes-le}
use Rattle.kdf_core.proofs.lent.needed_bytes.Goals as goal

pub overflow_mul-result-2 : goal.overflow_mul-result-2
overflow_mul-result-2 c =
    let params = c.args.params.now in
    omega (arith, parts_bytes-product params c.r.result c.p.result c.r.ensures.number c.p.ensures.number, parts_bytes-le params c.r.ensures.accepted)

pub returns-clause-below : goal.returns-clause-below
returns-clause-below c =
    let params = c.args.params.now in
    omega (arith, parts_bytes-product params c.r.result c.p.result c.r.ensures.number c.p.ensures.number, parts_bytes-le params c.r.ensures.accepted)
