-- The loop of `in_alphabet` stops at the first byte outside the alphabet, and otherwise has seen that all are in it.
use Rattle.std.specs.Prelude.{Contains}
use Rattle.prims_core.specs.Alphabet.{alphabet}
use Rattle.std.proofs.Common.{All, refl, subst, length, ◌≤◌, arith}
use Rattle.std.proofs.lemmas.List.{take_all}
use Rattle.std.proofs.lemmas.List.Elements.{All-more}
use Rattle.crypt_core.proofs.setting.in_alphabet.Goals as goal

pub returns-then-not-is_in_alphabet : goal.returns-then-not-is_in_alphabet
returns-then-not-is_in_alphabet c =
    (λ e. absurd (cc e), λ all. c.if-not-is_in_alphabet.ensures.1 (all c.loop-byte.byte-index 0 c.loop-byte-test.true))

pub loop-byte-preserved : goal.loop-byte-preserved
loop-byte-preserved c =
    All-more (Contains alphabet) c.args.bytes.now c.loop-byte.byte-index 0 c.loop-byte-test.true c.loop-byte.invariant (c.if-not-is_in_alphabet.ensures.0 refl)

pub returns : goal.returns
returns c =
    let whole : length c.args.bytes.now ≤ c.loop-byte.byte-index = omega arith in
    (λ e. subst (All (Contains alphabet)) (take_all c.loop-byte.byte-index c.args.bytes.now whole) c.loop-byte.invariant, λ all. refl)
