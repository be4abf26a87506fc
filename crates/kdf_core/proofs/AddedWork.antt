-- The counts of a meter after two calls that digest: the work of both is added. `derived_block` counts round by round
-- with this lemma, and `pbkdf2` block by block.
use Rattle.std.proofs.Common.{◌≡◌, ℕ, ◌+◌, ap, ◌∙◌, arith}
use Rattle.prims_core.specs.Meter.{with_work}
use Rattle.prims_core.specs.declared.meter.Work.{Work}

-- If d digests of x bytes are counted, and then e digests of y bytes, then d + e digests of x + y bytes are counted.
pub with_work-add : (a b c : Work) (d x e y digests bytes : ℕ) → b ≡ with_work a d x → c ≡ with_work b e y
    → d + e ≡ digests → x + y ≡ bytes → c ≡ with_work a digests bytes
with_work-add a b c d x e y digests bytes b_is c_is all_digests all_bytes =
    let digests_added : a.digests + d + e ≡ a.digests + digests = omega arith in
    let bytes_added : a.bytes + x + y ≡ a.bytes + bytes = omega arith in
    c_is ∙ (ap (λ (m : Work). with_work m e y) b_is
    ∙ (ap (λ n. record a { digests = n; bytes = a.bytes + x + y }) digests_added
    ∙ ap (λ n. record a { digests = a.digests + digests; bytes = n }) bytes_added))
