-- Proves the clause `field` of `field_len`: what comes before the first `$`, which `position` finds, is a field
-- (ParsedParts).
use Rattle.std.proofs.Common.{◌≡◌, ℕ, Option, length, ap, ◌∙◌, rules, tests}
use Rattle.std.specs.List.{position}
use Rattle.std.specs.Option.{unwrap_or}
use Rattle.std.proofs.lemmas.Iterator.{YieldsList-from_slice}
use Rattle.std.proofs.lemmas.Iterator.Search.{position_from_yields_List}
use Rattle.crypt_core.proofs.ParsedParts.{HasField-first_dollar, is_dollar}
use Rattle.crypt_core.proofs.setting.read.field_len.Goals as goal

pub returns-clause-field : goal.returns-clause-field
returns-clause-field c =
    let found : c.position.result ≡ position is_dollar c.args.after.now =
    position_from_yields_List is_dollar _ _ c.position.result c.position.ensures.ran (YieldsList-from_slice _ c.iter.ensures.rest) (λ x b q k. search (rules, tests)) in
    HasField-first_dollar c.args.after.now c.unwrap_or.result (c.unwrap_or.ensures ∙ ap (λ (o : Option ℕ). unwrap_or o (length c.args.after.now)) found)
