-- Proves the preconditions of the three calls of `put_group` in `append_cost`: the text has room for scrypt's 11
-- characters, and each of the accepted parameters fits its characters (MadeSettings).
use Rattle.std.proofs.Common.{◌≡◌, length, ap, ◌∙◌, arith}
use Rattle.crypt_core.specs.declared.scheme.Scheme.{Scheme}
use Rattle.crypt_core.specs.Settings.{cost_part}
use Rattle.crypt_core.specs.TextLimits.{scrypt_part_len}
use Rattle.crypt_core.proofs.ScryptPartFacts.{length-scrypt_part}
use Rattle.crypt_core.proofs.MadeSettings.{HasNumerals-from_IsAccepted}
use Rattle.crypt_core.proofs.setting.text.append_cost.Goals as goal

pub put_group-requires-clause-room : goal.put_group-requires-clause-room
put_group-requires-clause-room c =
    let long : length (cost_part c.args.scheme.now) ≡ scrypt_part_len = ap (λ (s : Scheme). length (cost_part s)) c.in-Scrypt.is ∙ length-scrypt_part c.in-Scrypt.params in
    omega arith

pub put_group-requires-in-Scrypt-clause-room : goal.put_group-requires-in-Scrypt-clause-room
put_group-requires-in-Scrypt-clause-room c =
    let long : length (cost_part c.args.scheme.now) ≡ scrypt_part_len = ap (λ (s : Scheme). length (cost_part s)) c.in-Scrypt.is ∙ length-scrypt_part c.in-Scrypt.params in
    omega (arith, c.put_group.ensures.len)

pub put_group-requires-in-Scrypt-2-clause-room : goal.put_group-requires-in-Scrypt-2-clause-room
put_group-requires-in-Scrypt-2-clause-room c =
    let long : length (cost_part c.args.scheme.now) ≡ scrypt_part_len = ap (λ (s : Scheme). length (cost_part s)) c.in-Scrypt.is ∙ length-scrypt_part c.in-Scrypt.params in
    omega (arith, c.put_group.ensures.len, c.put_group-in-Scrypt.ensures.len)

pub put_group-requires-clause-fits : goal.put_group-requires-clause-fits
put_group-requires-clause-fits c =
    omega (arith, c.from.ensures, c.log_n.ensures.number, (HasNumerals-from_IsAccepted c.in-Scrypt.params c.log_n.ensures.accepted).0)

pub put_group-requires-in-Scrypt-clause-fits : goal.put_group-requires-in-Scrypt-clause-fits
put_group-requires-in-Scrypt-clause-fits c =
    omega (arith, c.r.ensures.number, (HasNumerals-from_IsAccepted c.in-Scrypt.params c.log_n.ensures.accepted).1)

pub put_group-requires-in-Scrypt-2-clause-fits : goal.put_group-requires-in-Scrypt-2-clause-fits
put_group-requires-in-Scrypt-2-clause-fits c =
    omega (arith, c.p.ensures.number, (HasNumerals-from_IsAccepted c.in-Scrypt.params c.log_n.ensures.accepted).2)
