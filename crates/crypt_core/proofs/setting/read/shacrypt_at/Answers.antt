-- Proves the clauses `ok` and `err` of `shacrypt_at` for a text with `rounds=`: a well-formed `rounds=` field spells
-- its rounds (SpelledRounds), and without such a field the text fails at the stage `BadRounds` (FirstRefusal). The text
-- begins with the method's prefix, before `after` (`begins_with`), and in `err` it has the length and the bytes of a
-- setting (`is_text`).
use Rattle.crypt_core.specs.Settings.{rounds_word}
use Rattle.crypt_core.specs.declared.scheme.Scheme.TheVariants.{Shacrypt}
use Rattle.crypt_core.proofs.StrippedPrefix.{strip_prefix-some}
use Rattle.crypt_core.proofs.FirstRefusal.{refused_bad_rounds, SpellsScheme-from_cost_part}
use Rattle.crypt_core.proofs.SpelledRounds.{SpellsRounds-written_field}
use Rattle.crypt_core.proofs.setting.read.shacrypt_at.Goals as goal

pub returns-in_default-number_at-clause-err : goal.returns-in_default-number_at-clause-err
returns-in_default-number_at-clause-err c = λ text is_text begins_with.
    refused_bad_rounds text is_text c.args.sha c.args.after.now begins_with
    (c.in-Some.field.now, strip_prefix-some c.args.after.now rounds_word c.in-Some.field c.in-Some.ensures.cases, c.in_default-number_at.ensures.none)

pub returns-clause-ok : goal.returns-clause-ok
returns-clause-ok c = λ text begins_with.
    let found = c.in-Some-number_at.ensures.some in
    let rounds = SpellsRounds-written_field c.args.after.now c.in-Some.field.now found.0 c.in-Some-number_at.rest.now c.in-Some-number_at.number c.written.result (strip_prefix-some c.args.after.now rounds_word c.in-Some.field c.in-Some.ensures.cases) found.1 found.2 found.3 c.written.ensures.value in
    SpellsScheme-from_cost_part text (Shacrypt c.args.sha c.written.result) c.args.after.now rounds.0 c.in-Some-number_at.rest.now begins_with rounds.1 rounds.2
