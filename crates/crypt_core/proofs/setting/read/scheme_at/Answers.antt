-- Proves the clauses `ok` and `err` of `scheme_at`: scrypt's prefix and numbers spell its scheme, and a text without
-- any of the four prefixes has an unknown scheme (FirstRefusal). In `found`, `.0.0` is what follows the numbers, `.0.1`
-- that it follows them in `after`, and `.0.2` that the numbers can be spelled.
use Rattle.std.proofs.Common.{sym, subst, ◌∙◌}
use Rattle.crypt_core.specs.declared.scheme.Scheme.TheVariants.{Scrypt}
use Rattle.crypt_core.specs.Settings.{SpellsScheme}
use Rattle.crypt_core.specs.TextLimits.{scrypt_part_len}
use Rattle.crypt_core.proofs.FirstRefusal.{drop-scrypt_part, refused_unknown_scheme, SpellsScheme-scrypt, begins_with_no_prefix}
use Rattle.crypt_core.proofs.ParsedParts.{take-drop_rest}
use Rattle.crypt_core.proofs.setting.read.scheme_at.Goals as goal

pub returns-in-Some-after_prefix-3-clause-ok : goal.returns-in-Some-after_prefix-3-clause-ok
returns-in-Some-after_prefix-3-clause-ok c =
    let after = c.in-Some-after_prefix-3.after.now in
    let found = c.in_ok-params.ensures.ok in
    let spelled = SpellsScheme-scrypt c.args.text.now c.in_ok-params.params after found.0.0 c.in-Some-after_prefix-3.ensures.found found.0.1 found.0.2 in
    subst (SpellsScheme c.args.text.now (Scrypt c.in_ok-params.params)) (sym (take-drop_rest after scrypt_part_len ∙ (drop-scrypt_part after found.0.0 c.in_ok-params.params found.0.1))) spelled

pub returns-clause-err : goal.returns-clause-err
returns-clause-err c =
    refused_unknown_scheme c.args.text.now c.requires (begins_with_no_prefix c.args.text.now c.in_default.ensures.lacks c.in_default-after_prefix.ensures.lacks
    c.in_default-after_prefix-2.ensures.lacks c.in_default-after_prefix-3.ensures.lacks)
