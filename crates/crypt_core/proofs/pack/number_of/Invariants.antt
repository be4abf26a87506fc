-- In the loop of `number_of`, the number so far is made of the bytes at the indices so far, and has no more bytes than
-- there are such indices.
use Rattle.std.proofs.Common.{◌≡◌, ◌^◌, ◌<◌, take}
use Rattle.crypt_core.proofs.pack.number_of.Given as goal
use Rattle.crypt_core.specs.Packing.{group_number}

abbrev pub invariant-places : goal.invariant-places
invariant-places l =
    (l.number ≡ group_number l.digest (take l.place-index l.places)) × (l.number < 256 ^ l.place-index)
