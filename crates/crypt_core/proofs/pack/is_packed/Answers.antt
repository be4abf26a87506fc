-- Proves the clause of `is_packed` at each of its returns: a text with another length than the method's, or with a
-- character outside the alphabet, is not packed; for any other text, the value of the last character decides
-- (PackedTexts).
use Rattle.std.proofs.Common.{◌≡◌, length, sym, ◌∙◌}
use Rattle.std.proofs.lemmas.Bool.{lt-ltb, ltb-true}
use Rattle.crypt_core.specs.MethodLimits.{packed_len}
use Rattle.crypt_core.proofs.PackedTexts.{IsPacked-from_checks, in_alphabet-from_IsPacked, last_value-from_IsPacked, length-from_IsPacked}
use Rattle.crypt_core.proofs.pack.is_packed.Goals as goal

pub returns-then-text-row : goal.returns-then-text-row
returns-then-text-row c =
    (λ e. absurd (cc e), λ packed. absurd (c.if-text-row.true (length-from_IsPacked c.args.method c.args.text.now packed ∙ sym c.row-row.ensures.packed)))

pub returns-then-not-in_alphabet : goal.returns-then-not-in_alphabet
returns-then-not-in_alphabet c =
    (λ e. absurd (cc e), λ packed. c.if-not-in_alphabet.ensures.1 (in_alphabet-from_IsPacked c.args.method c.args.text.now packed))

pub returns-in-Some : goal.returns-in-Some
returns-in-Some c =
    let m = c.args.method in
    let text = c.args.text.now in
    let value = c.in-Some.ensures.value in
    let last = c.row-row.ensures.last in
    let long : length text ≡ packed_len m = c.if-text-row.false ∙ c.row-row.ensures.packed in
    let all = c.in_alphabet.ensures.0 c.if-not-in_alphabet.false in (
      λ low. IsPacked-from_checks m text long all c.in-Some.value (rw last at (ltb-true _ _ low)) (sym value.1),
      λ packed. lt-ltb _ _ (rw last (last_value-from_IsPacked m text c.in-Some.value packed value.0 (sym value.1))),
    )
