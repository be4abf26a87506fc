-- The buffer of `pack` has room for every method's packed digest.
use Rattle.std.proofs.Common.{arith, ap, length}
use Rattle.crypt_core.proofs.PackingLemmas.{packed_len-le}
use Rattle.crypt_core.proofs.pack.pack.Goals as goal

pub append_packed-requires-clause-room : goal.append_packed-requires-clause-room
append_packed-requires-clause-room c = omega (arith, ap length c.new-text.ensures, packed_len-le c.args.method)
