-- Proves the clauses `finds` and `judges` of `Finding::of`, for a field that is a stored hash and for one that has an
-- error. A field has at most one reading, so the finding for the setting that was read is the one for every setting
-- that it spells (JudgedHashes), and a field with an error spells none.
use Rattle.std.proofs.Common.{ℕ, List, Ok, Err, subst}
use Rattle.crypt_core.specs.Findings.{JudgesHash}
use Rattle.crypt_core.specs.Readings.{IsFieldReading, IsReadOneWay}
use Rattle.crypt_core.specs.declared.stored.StoredField.TheVariants.{Hash}
use Rattle.crypt_core.proofs.JudgedHashes.{Finds-from_JudgesHash, JudgesHash-any_spelled}
use Rattle.crypt_core.proofs.finding.Finding.of.Goals as goal

pub returns-in-Ok-Hash-clause-finds : goal.returns-in-Ok-Hash-clause-finds
returns-in-Ok-Hash-clause-finds c =
    let field = c.args.field.now in
    let kept = c.in-Ok-Hash.stored.setting in
    let finding = c.of_hash.result in
    let reading : IsFieldReading field (Ok (Hash c.in-Ok-Hash.stored)) = rw c.in-Ok-Hash.field-0-is at c.in-Ok-Hash.ensures.reading in
    Finds-from_JudgesHash c.args.new.now c.args.budget field kept finding reading.1.spells
    (subst (λ (text : List ℕ). JudgesHash c.args.new.now c.args.budget text kept finding) reading.1.is_text c.of_hash.ensures)

pub returns-in-Ok-Hash-clause-judges : goal.returns-in-Ok-Hash-clause-judges
returns-in-Ok-Hash-clause-judges c kept spells =
    let field = c.args.field.now in
    let read = c.in-Ok-Hash.stored.setting in
    let finding = c.of_hash.result in
    let reading : IsFieldReading field (Ok (Hash c.in-Ok-Hash.stored)) = rw c.in-Ok-Hash.field-0-is at c.in-Ok-Hash.ensures.reading in
    JudgesHash-any_spelled c.args.new.now c.args.budget field read kept finding c.in-Ok-Hash.ensures.one_reading reading.1.spells
    (subst (λ (text : List ℕ). JudgesHash c.args.new.now c.args.budget text read finding) reading.1.is_text c.of_hash.ensures)
    spells

pub returns-in-Err-clause-finds : goal.returns-in-Err-clause-finds
returns-in-Err-clause-finds c = c.of_refused.ensures c.args.new.now c.args.budget

pub returns-in-Err-clause-judges : goal.returns-in-Err-clause-judges
unfolding IsReadOneWay
returns-in-Err-clause-judges c kept spells =
    absurd (cc (c.in-Err.ensures.one_reading (Err c.in-Err.fault) (Ok kept) c.in-Err.ensures.reading.1 spells))
