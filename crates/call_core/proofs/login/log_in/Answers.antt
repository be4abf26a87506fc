-- The clauses of `log_in` at its three returns: for a refused request (`in-Err`), for a stored hash that can't be
-- checked (`in-Err-checkable`), and after a comparison (`in-Ok-checkable`). LoginReports has the lemmas for `logs_in`.
-- A field spells one setting, and a method and rounds make one scheme, so those of a clause are the ones that the call
-- read. Where a clause assumes that a hash can be checked, `admits` excludes the first two returns.
--
-- The parts of the hypothesis `opens`, that the password opens the stored hash, are: `.0`, the password is valid;
-- `.1.0`, the setting; `.1.1`, the field spells it; `.1.2`, the hash of the password is the stored one; `.1.3`, its
-- cost is within the limit.
use Rattle.std.proofs.Common.{◌≡◌, ◌≤◌, ◌∙◌, length, true, ap, arith, inl, inr, refl, sym}
use Rattle.crypt_core.specs.Crypt.{allocates}
use Rattle.crypt_core.specs.MadeSettings.{TakesRounds}
use Rattle.crypt_core.specs.OutdatedSchemes.{is_outdated_by}
use Rattle.crypt_core.specs.Settings.{SettingValue}
use Rattle.crypt_core.specs.Work.{cost}
use Rattle.call_core.specs.Arguments.{TakesNewRounds}
use Rattle.call_core.specs.Limits.{limit_in}
use Rattle.call_core.specs.Logins.{IsMiss, dummy}
use Rattle.call_core.specs.declared.reason.Reason.TheVariants.{Dead}
use Rattle.call_core.proofs.CheckReports.{not_fits-IsDead}
use Rattle.call_core.proofs.LoginReports.{LogsIn-compared, LogsIn-declined, is_outdated_by-eq, IsUncheckable-none_within}
use Rattle.call_core.proofs.MadeSchemes.{IsSchemeMade-unique}
use Rattle.call_core.proofs.login.log_in.Goals as goal

pub returns-in-Err-checkable-clause-logs_in : goal.returns-in-Err-checkable-clause-logs_in
returns-in-Err-checkable-clause-logs_in g c =
    let password = c.in-Ok.ensures.password in
    rw (← c.in-Ok.ensures.limit) (LogsIn-declined c.args.password.now c.args.field.now c.args.method c.args.rounds (c.in-Ok.request).limit (c.in-Ok.request).scheme _ _ password.1 c.in-Ok.ensures.scheme
    (rw password.0 at c.in-Err-checkable.ensures.refused) (rw (password.0, c.salted-dummy.ensures) at c.decline.ensures.declines))

pub returns-in-Ok-checkable-clause-logs_in : goal.returns-in-Ok-checkable-clause-logs_in
returns-in-Ok-checkable-clause-logs_in g c =
    let kept = (c.in-Ok-checkable.stored).setting in
    let scheme = (c.in-Ok.request).scheme in
    let password = c.in-Ok.ensures.password in
    let found = c.in-Ok-checkable.ensures.found in
    let within = rw password.0 at c.in-Ok-checkable.ensures.within in
    let outdated : c.is_outdated_by-is_outdated.result ≡ is_outdated_by kept.scheme scheme = cc in
    rw (← c.in-Ok.ensures.limit) (LogsIn-compared c.args.password.now c.args.field.now c.args.method c.args.rounds (c.in-Ok.request).limit scheme kept c.miss_of.result _ password.1 c.in-Ok.ensures.scheme
    found.spells (omega (arith, within)) (rw found.is_text at c.miss_of.ensures.miss) (rw (password.0, found.is_text, outdated) at c.compare.ensures.compares))

-- The clause `replaced`: if the error is 0 (`none`) and a new hash would replace the stored one (`is`), the report's
-- `outdated` is 1.
pub returns-in-Ok-checkable-clause-replaced : goal.returns-in-Ok-checkable-clause-replaced
returns-in-Ok-checkable-clause-replaced g c = λ none is.
    let kept = (c.in-Ok-checkable.stored).setting in
    let scheme = (c.in-Ok.request).scheme in
    let same : kept ≡ is.0 = c.in-Ok-checkable.ensures.only is.0 is.2 in
    let made : scheme ≡ is.1 = IsSchemeMade-unique TakesNewRounds TakesRounds c.args.method c.args.rounds scheme is.1 c.in-Ok.ensures.scheme is.3 in
    let outdated : is_outdated_by kept.scheme scheme ≡ true = is_outdated_by-eq kept is.0 scheme is.1 same made is.4 in
    let reported : c.is_outdated_by-is_outdated.result ≡ true = cc in
    rw reported at (c.compare.ensures.same none).1

-- The clause `shut`: if the stored hash is dead (`dead`), the error is not 0. Otherwise (`none`) the password would
-- match the stored hash, and no password matches a dead one.
pub returns-in-Ok-checkable-clause-shut : goal.returns-in-Ok-checkable-clause-shut
returns-in-Ok-checkable-clause-shut g c = λ dead none.
    let found = c.in-Ok-checkable.ensures.found in
    not_fits-IsDead (c.in-Ok.request).password c.args.field.now (c.in-Ok-checkable.stored).setting found.spells
    (rw found.is_text at (c.compare.ensures.same none).0) dead

-- The clause `dead`: the method and the rounds make the scheme `scheme` (`made`), the password is valid (`is`), and the
-- stored hash has the setting `kept` (`spells`), is not whole (`dead`) and costs at most the limit (`low`). Then the
-- error is `Dead`, with the cost and the work of the check, or scrypt lacked memory.
pub returns-in-Err-clause-dead : goal.returns-in-Err-clause-dead
returns-in-Err-clause-dead g c = λ scheme kept made is spells dead low. absurd (cc (c.in-Err.ensures.admits scheme is made))

pub returns-in-Err-checkable-clause-dead : goal.returns-in-Err-checkable-clause-dead
returns-in-Err-checkable-clause-dead g c = λ scheme kept made is spells dead low.
    absurd (cc (c.in-Err-checkable.ensures.admits kept spells (rw (c.in-Ok.ensures.password.0, c.in-Ok.ensures.limit) low)))

pub returns-in-Ok-checkable-clause-dead : goal.returns-in-Ok-checkable-clause-dead
returns-in-Ok-checkable-clause-dead g c = λ scheme kept made is spells dead low.
    let found = c.in-Ok-checkable.ensures.found in
    let own = (c.in-Ok-checkable.stored).setting in
    let same : own ≡ kept = c.in-Ok-checkable.ensures.only kept spells in
    let miss : IsMiss c.args.field.now kept c.miss_of.result = rw (found.is_text, same) at c.miss_of.ensures.miss in
    let is_dead : c.miss_of.result ≡ Dead = elim miss [
      | inl whole ↦ absurd (dead whole.1)
      | inr cut ↦ cut.0
    ] in
    let missed = c.compare.ensures.missed (λ fits. not_fits-IsDead (c.in-Ok.request).password c.args.field.now own found.spells (rw found.is_text at fits) (kept, spells, dead)) in
    elim missed [
      | inl reported ↦ inl (rw (is_dead, c.in-Ok-checkable.ensures.within.0, c.in-Ok.ensures.password.0, same) at reported)
      | inr lacks ↦ inr (rw same at lacks)
    ]

-- The clause `opens`: the method and the rounds make the scheme `scheme` (`made`), and the password opens the stored
-- hash (`opens`). Then the error is 0, or scrypt lacked memory, which happens only if the field needs memory.
pub returns-in-Err-clause-opens : goal.returns-in-Err-clause-opens
returns-in-Err-clause-opens g c = λ scheme made opens. absurd (cc (c.in-Err.ensures.admits scheme opens.0 made))

pub returns-in-Err-checkable-clause-opens : goal.returns-in-Err-checkable-clause-opens
returns-in-Err-checkable-clause-opens g c = λ scheme made opens.
    absurd (cc (c.in-Err-checkable.ensures.admits opens.1.0 opens.1.1 (rw (c.in-Ok.ensures.password.0, c.in-Ok.ensures.limit) opens.1.3)))

-- If scrypt lacked memory, the field needs memory: if it did not (`free`), it would spell a setting whose hash needs
-- none. But a field spells only one setting, so that would be the setting with which scrypt lacked memory.
pub returns-in-Ok-checkable-clause-opens : goal.returns-in-Ok-checkable-clause-opens
returns-in-Ok-checkable-clause-opens g c = λ scheme made opens.
    let kept = (c.in-Ok-checkable.stored).setting in
    let found = c.in-Ok-checkable.ensures.found in
    let only = c.in-Ok-checkable.ensures.only in
    let same : kept ≡ opens.1.0 = only opens.1.0 opens.1.1 in
    elim (c.compare.ensures.opens (rw (c.in-Ok.ensures.password.0, same, found.is_text) opens.1.2)) [
      | inl positive ↦ inl positive
      | inr lacks ↦ inr (
        lacks.0,
        λ free.
            let also : kept ≡ free.0 = only free.0 free.1 in
            cc (sym (ap (λ (k : SettingValue). allocates k.scheme) also) ∙ lacks.1, free.2),
      )
    ]

-- The clause `enough`: if the memory is enough for each hash that the login can make (`enough`), the error is not
-- `OutOfMemory` (`lacks` says that it is). After a comparison, that hash is the stored one's.
pub returns-in-Ok-checkable-clause-enough : goal.returns-in-Ok-checkable-clause-enough
returns-in-Ok-checkable-clause-enough g c = λ enough lacks.
    let kept = (c.in-Ok-checkable.stored).setting in
    let password = c.in-Ok.ensures.password in
    let within = rw password.0 at c.in-Ok-checkable.ensures.within in
    let low : cost kept (length c.args.password.now) ≤ (c.in-Ok.request).limit = omega (arith, within) in
    c.compare.ensures.enough (enough kept (
      (c.in-Ok.request).scheme,
      c.in-Ok.ensures.scheme,
      password.1,
      inl c.in-Ok-checkable.ensures.found.spells,
      rw (← c.in-Ok.ensures.limit) low,
    )) lacks

-- If the stored hash can't be checked, the hash is the dummy, which is made only if it is within the limit (`within`).
pub returns-in-Err-checkable-clause-enough : goal.returns-in-Err-checkable-clause-enough
returns-in-Err-checkable-clause-enough g c = λ enough lacks.
    let password = c.in-Ok.ensures.password in
    let scheme = (c.in-Ok.request).scheme in
    let limit = limit_in c.args.method c.args.rounds c.args.limit (length c.args.password.now) in
    let never = IsUncheckable-none_within c.args.password.now c.args.field.now limit (λ kept spells low.
    absurd (cc (c.in-Err-checkable.ensures.admits kept spells (rw (password.0, c.in-Ok.ensures.limit) low)))) in
    c.decline.ensures.enough (λ within.
    let low : cost (dummy scheme) (length c.args.password.now) ≤ limit = rw (← c.in-Ok.ensures.limit) (rw (password.0, c.salted-dummy.ensures) at within) in
    rw c.salted-dummy.ensures (enough (dummy scheme) (scheme, c.in-Ok.ensures.scheme, password.1, inr (never, refl), low))) lacks
