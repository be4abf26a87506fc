-- In the loop of `same_bytes`, `differ` is 0 exactly if the bytes compared so far are equal.
use Rattle.std.proofs.Common.{◌≡◌, ◌↔◌, take}
use Rattle.crypt_core.proofs.same.same_bytes.Given as goal

abbrev pub invariant-places : goal.invariant-places
invariant-places l = l.differ ≡ 0 ↔ take l.i l.a ≡ take l.i l.b
