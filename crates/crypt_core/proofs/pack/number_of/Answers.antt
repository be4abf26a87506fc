-- No step of `number_of` overflows 32 bits: a group has at most three indices, and the number so far has one byte for
-- each index so far.
use Rattle.std.proofs.Common.{arith, get_or}
use Rattle.crypt_core.proofs.PackingLemmas.{two_bytes-below_65536, length-from_IsGroup}
use Rattle.crypt_core.proofs.pack.number_of.Goals as goal

pub overflow_mul-number : goal.overflow_mul-number
overflow_mul-number c =
    let few = length-from_IsGroup _ c.args.places.now c.requires in
    let fits = two_bytes-below_65536 c.places.place-index c.places.number (omega arith) c.places.invariant.1 in
    omega arith

pub overflow_add-number : goal.overflow_add-number
overflow_add-number c =
    let few = length-from_IsGroup _ c.args.places.now c.requires in
    let fits = two_bytes-below_65536 c.places.place-index c.places.number (omega arith) c.places.invariant.1 in
    omega (arith, c.type_inv.digest (get_or c.args.places.now c.places.place-index 0))
