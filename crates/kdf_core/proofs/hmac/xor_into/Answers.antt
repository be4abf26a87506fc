-- The clause of `xor_into`, from its loop: at the end each place holds the XOR of its two bytes
-- (`xor_lists-from_places`).
use Rattle.std.proofs.Common.{arith}
use Rattle.kdf_core.proofs.HmacLemmas.{xor_lists-from_places}
use Rattle.kdf_core.proofs.hmac.xor_into.Goals as goal

pub returns : goal.returns
returns c =
    xor_lists-from_places _ _ _ c.places.auto.sum c.requires (λ k inside. c.places.invariant.added k (omega arith))
