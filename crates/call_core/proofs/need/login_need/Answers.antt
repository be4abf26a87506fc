-- The clause of `login_need` at three of its returns: with the need of the stored hash if that can be checked, with the
-- need of the dummy hash if the limit allows it, and with no need if the limit allows neither. At each return, a
-- setting of which `LoginHashesWith` holds is the one that the call found, or contradicts its tests of the limit.
use Rattle.std.proofs.Common.{◌≡◌, ◌≤◌, ◌<◌, length, arith, inl, inr, refl, rules}
use Rattle.crypt_core.specs.Needs.{bytes_by, words_by}
use Rattle.crypt_core.specs.Work.{cost}
use Rattle.call_core.specs.Arguments.{TakesNewRounds}
use Rattle.call_core.specs.Limits.{limit_in}
use Rattle.call_core.specs.Logins.{dummy}
use Rattle.call_core.proofs.LoginReports.{IsUncheckable-none_within}
use Rattle.call_core.proofs.MadeSchemes.{IsSchemeMade-unique}
use Rattle.call_core.proofs.need.login_need.Goals as goal

pub returns-in-Ok-checkable : goal.returns-in-Ok-checkable
returns-in-Ok-checkable c =
    let kept = (c.in-Ok-checkable.stored).setting in
    let password = c.in-Ok.ensures.password in
    let within = rw password.0 at c.in-Ok-checkable.ensures.within in
    let below : cost kept (length c.args.password.now) ≤ (c.in-Ok.request).limit = omega (arith, within) in
    let low : cost kept (length c.args.password.now) ≤ limit_in c.args.method c.args.rounds c.args.limit (length c.args.password.now) = rw (← c.in-Ok.ensures.limit) below in
    let spells = c.in-Ok-checkable.ensures.found.spells in
    let words : (c.need.result).words ≡ words_by kept.scheme = search rules in
    let bytes : (c.need.result).bytes ≡ bytes_by kept.scheme = search rules in (
      λ other hashes. elim hashes.3 [
        | inl also ↦
            let same : kept ≡ other = c.in-Ok-checkable.ensures.only other also in
            rw (← same) (words, bytes)
        | inr off ↦ absurd (omega (arith, off.0 kept spells, low))
      ],
      λ none. absurd (none kept ((c.in-Ok.request).scheme, c.in-Ok.ensures.scheme, password.1, inl spells, low)),
    )

pub returns-in-Ok-cost_within : goal.returns-in-Ok-cost_within
returns-in-Ok-cost_within c =
    let password = c.in-Ok.ensures.password in
    let scheme = (c.in-Ok.request).scheme in
    let limit = limit_in c.args.method c.args.rounds c.args.limit (length c.args.password.now) in
    let never = IsUncheckable-none_within c.args.password.now c.args.field.now limit (λ kept spells low.
    absurd (cc (c.in_default-checkable.ensures.admits kept spells (rw (password.0, c.in-Ok.ensures.limit) low)))) in
    let words : (c.need-in-Ok-cost_within.result).words ≡ words_by scheme = search rules in
    let bytes : (c.need-in-Ok-cost_within.result).bytes ≡ bytes_by scheme = search rules in
    let within = rw (password.0, c.salted-dummy.ensures) at c.in-Ok-cost_within.ensures.within in
    let low : cost (dummy scheme) (length c.args.password.now) ≤ limit = rw (← c.in-Ok.ensures.limit) within.1 in (
      λ kept hashes. elim hashes.3 [
        | inl spells ↦ absurd (omega (arith, never kept spells, hashes.4))
        | inr off ↦
            let same : hashes.0 ≡ scheme = IsSchemeMade-unique TakesNewRounds TakesNewRounds c.args.method c.args.rounds hashes.0 scheme hashes.1 c.in-Ok.ensures.scheme in
            rw (off.1, same) (words, bytes)
      ],
      λ none. absurd (none (dummy scheme) (scheme, c.in-Ok.ensures.scheme, password.1, inr (never, refl), low)),
    )

pub returns-in-Err : goal.returns-in-Err
returns-in-Err c =
    let password = c.in-Ok.ensures.password in
    let scheme = (c.in-Ok.request).scheme in
    let limit = limit_in c.args.method c.args.rounds c.args.limit (length c.args.password.now) in
    let never = IsUncheckable-none_within c.args.password.now c.args.field.now limit (λ kept spells low.
    absurd (cc (c.in_default-checkable.ensures.admits kept spells (rw (password.0, c.in-Ok.ensures.limit) low)))) in
    let above = rw (password.0, c.salted-dummy.ensures) at c.in-Err.ensures.above in
    let high : limit < cost (dummy scheme) (length c.args.password.now) = rw (← c.in-Ok.ensures.limit) above.0 in (
      λ kept hashes. elim hashes.3 [
        | inl spells ↦ absurd (omega (arith, never kept spells, hashes.4))
        | inr off ↦
            let same : hashes.0 ≡ scheme = IsSchemeMade-unique TakesNewRounds TakesNewRounds c.args.method c.args.rounds hashes.0 scheme hashes.1 c.in-Ok.ensures.scheme in
            absurd (omega (arith, high, rw (off.1, same) at hashes.4))
      ],
      λ none. (refl, refl),
    )
