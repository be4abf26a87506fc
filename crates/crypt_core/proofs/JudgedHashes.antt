-- Lemmas for the clauses `finds` and `judges` of `Finding::of` in src/finding.rt. The code judges the setting that it
-- has read; a text spells at most one setting, so the finding also holds for any setting that the field spells.
use Rattle.std.proofs.Common.{◌≡◌, ℕ, List, Ok, refl, subst, sym}
use Rattle.crypt_core.specs.Findings.{Finds, JudgesHash}
use Rattle.crypt_core.specs.Readings.{IsReadOneWay}
use Rattle.crypt_core.specs.Settings.{SettingValue, Spells}
use Rattle.crypt_core.specs.declared.finding.Finding.{Finding}
use Rattle.crypt_core.specs.declared.scheme.Scheme.{Scheme}

-- What `JudgesHash` says of the setting in a field is what an audit finds in the field.
pub Finds-from_JudgesHash : (new : Scheme) (budget : ℕ) (field : List ℕ) (kept : SettingValue) (finding : Finding) → Spells field kept
    → JudgesHash new budget field kept finding → Finds new budget field finding
Finds-from_JudgesHash new budget field kept finding spells (standing, has, is) = subst (Finds new budget field) (sym is) (kept, spells, refl, refl, has)

-- What holds of the setting that was read from a field holds of each setting that the field spells, because it spells
-- only one.
pub JudgesHash-any_spelled : (new : Scheme) (budget : ℕ) (field : List ℕ) (read kept : SettingValue) (finding : Finding) → IsReadOneWay field
    → Spells field read → JudgesHash new budget field read finding → Spells field kept → JudgesHash new budget field kept finding
unfolding IsReadOneWay
JudgesHash-any_spelled new budget field read kept finding one spells judges other =
    let same : read ≡ kept = cc (one (Ok read) (Ok kept) spells other) in
    subst (λ (setting : SettingValue). JudgesHash new budget field setting finding) same judges
