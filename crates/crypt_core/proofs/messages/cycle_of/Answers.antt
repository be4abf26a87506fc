-- The loop of `cycle_of` appends byte number i mod the digest's length, as `cycle` defines it, and never exceeds the
-- capacity.
use Rattle.std.proofs.Common.{◌∙◌, length, arith, sym, ap, [], ◌++◌, ◌∷◌, get_or, ◌%◌}
use Rattle.crypt_core.proofs.CycleLemmas.{cycle-more, cycle-zero, length-cycle}
use Rattle.crypt_core.proofs.messages.cycle_of.Goals as goal

pub loop-i-init : goal.loop-i-init
loop-i-init c = c.new-bytes.ensures ∙ sym (cycle-zero c.args.digest.now)

pub push-requires : goal.push-requires
push-requires c = (omega arith, omega (arith, ap length c.loop-i.invariant, length-cycle c.args.digest.now c.loop-i.i))

pub loop-i-preserved : goal.loop-i-preserved
loop-i-preserved c =
    let d = c.args.digest.now in
    let byte = get_or d (c.loop-i.i % length d) 0 in
    c.push.ensures.items ∙ (ap (λ bytes. bytes ++ byte ∷ []) c.loop-i.invariant ∙ sym (cycle-more d c.loop-i.i))
