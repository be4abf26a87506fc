-- The clauses `verifies`, `opens` and `shut` of `verify` at two of its returns: if `checkable` refuses the field or the
-- cost (`in-Err-checkable`), and if the hashes are compared (`in-Ok-checkable`). CheckReports has the lemma for the
-- report of each. The setting of a hash that the password opens is the one that was read, because a field spells only
-- one.
--
-- The parts of the hypothesis `opens`, that the password opens the stored hash, are: `.0`, the password is valid;
-- `.1.0`, the setting; `.1.1`, the field spells it; `.1.2`, the hash of the password is the stored one; `.1.3`, its
-- cost is within the budget.
use Rattle.std.proofs.Common.{◌≡◌, ◌∙◌, inl, inr, sym, ap, arith}
use Rattle.crypt_core.specs.Crypt.{allocates}
use Rattle.crypt_core.specs.Settings.{SettingValue}
use Rattle.call_core.proofs.CheckReports.{Verifies_from_Compares, not_fits-IsDead, Verifies-refused}
use Rattle.call_core.proofs.verify.verify.Goals as goal

pub returns-in-Err-checkable-clause-verifies : goal.returns-in-Err-checkable-clause-verifies
returns-in-Err-checkable-clause-verifies g c =
    Verifies-refused c.args.password.now c.args.stored.now c.args.budget _ c.in-Ok.ensures.ok.1
    (rw c.in-Ok.ensures.ok.0 at c.in-Err-checkable.ensures.refused)

-- The clause `opens`, if `checkable` refused: it admits every stored hash that the password opens, so the refusal
-- contradicts the hypothesis.
pub returns-in-Err-checkable-clause-opens : goal.returns-in-Err-checkable-clause-opens
returns-in-Err-checkable-clause-opens g c = λ opens.
    absurd (cc (c.in-Err-checkable.ensures.admits opens.1.0 opens.1.1 (rw c.in-Ok.ensures.ok.0 opens.1.3)))

pub returns-in-Ok-checkable-clause-verifies : goal.returns-in-Ok-checkable-clause-verifies
returns-in-Ok-checkable-clause-verifies g c =
    let kept = (c.in-Ok-checkable.stored).setting in
    let found = c.in-Ok-checkable.ensures.found in
    let within = rw c.in-Ok.ensures.ok.0 at c.in-Ok-checkable.ensures.within in
    Verifies_from_Compares c.args.password.now c.args.stored.now c.args.budget kept _ c.in-Ok.ensures.ok.1 found.spells (omega (arith, within))
    (rw (c.in-Ok.ensures.ok.0, found.is_text) at c.compare.ensures.compares)

-- The clause `opens`, after a comparison: the error is 0, or scrypt lacked memory. In the second case the clause also
-- says that the field needs memory: if it did not (`free`), it would spell a setting whose hash needs none. But a field
-- spells only one setting, so that would be the setting with which scrypt lacked memory.
pub returns-in-Ok-checkable-clause-opens : goal.returns-in-Ok-checkable-clause-opens
returns-in-Ok-checkable-clause-opens g c = λ opens.
    let kept = (c.in-Ok-checkable.stored).setting in
    let found = c.in-Ok-checkable.ensures.found in
    let only = c.in-Ok-checkable.ensures.only in
    let same : kept ≡ opens.1.0 = only opens.1.0 opens.1.1 in
    elim (c.compare.ensures.opens (rw (c.in-Ok.ensures.ok.0, same, found.is_text) opens.1.2)) [
      | inl positive ↦ inl positive
      | inr lacks ↦ inr (
        lacks.0,
        λ free.
            let also : kept ≡ free.0 = only free.0 free.1 in
            cc (sym (ap (λ (k : SettingValue). allocates k.scheme) also) ∙ lacks.1, free.2),
      )
    ]

-- The clause `shut`: if the stored hash is dead (`dead`), the error is not 0. Otherwise (`none`) the password would
-- match the stored hash, and no password matches a dead one.
pub returns-in-Ok-checkable-clause-shut : goal.returns-in-Ok-checkable-clause-shut
returns-in-Ok-checkable-clause-shut g c = λ dead none.
    let found = c.in-Ok-checkable.ensures.found in
    not_fits-IsDead c.in-Ok.password c.args.stored.now (c.in-Ok-checkable.stored).setting found.spells
    (rw found.is_text at (c.compare.ensures.same none).0) dead
