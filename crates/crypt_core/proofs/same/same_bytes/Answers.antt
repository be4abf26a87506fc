-- Each iteration of the loop of `same_bytes` keeps the invariant, and after the last byte the function's result is that
-- of `==` (SameBytes).
use Rattle.std.proofs.Common.{◌≡◌, length, arith}
use Rattle.crypt_core.proofs.SameBytes.{differ-zero_is_bytes_eq, differ-zero_iff_fronts_equal}
use Rattle.crypt_core.proofs.same.same_bytes.Goals as goal

pub places-preserved : goal.places-preserved
places-preserved c =
    differ-zero_iff_fronts_equal c.args.a.now c.args.b.now c.places.i c.places.differ c.places-test.true (omega arith) c.places.invariant

pub returns : goal.returns
returns c =
    let long : length c.args.a.now ≡ length c.args.b.now = omega arith in
    differ-zero_is_bytes_eq c.args.a.now c.args.b.now c.places.i c.places.differ long (omega arith) c.places.invariant
