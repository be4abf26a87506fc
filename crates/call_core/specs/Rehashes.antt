-- Whether a stored hash is outdated, so that a new hash would replace it.
use Rattle.std.specs.Prelude.{◌≡◌, if◌then◌else◌, ℕ, IsTrue, List}
use Rattle.prims_core.specs.Work.{no_work}
use Rattle.crypt_core.specs.MadeSettings.{TakesRounds}
use Rattle.crypt_core.specs.OutdatedSchemes.{is_outdated_by}
use Rattle.crypt_core.specs.Settings.{SettingValue, Spells}
use Rattle.crypt_core.specs.declared.scheme.Scheme.{Scheme}
use Rattle.call_core.specs.Arguments.{IsSchemeMade, OnScheme, OnSetting, Refuses}
use Rattle.call_core.specs.Reports.{found}
use Rattle.call_core.specs.declared.report.Report.{Report}

-- IsOutdated stored number rounds: the stored hash is outdated: it spells a setting that the scheme of the method and
-- the rounds replaces.
abbrev pub IsOutdated : List ℕ → ℕ → ℕ → Type 0
IsOutdated stored number rounds =
    (kept : SettingValue) × (scheme : Scheme) × Spells stored kept × IsSchemeMade TakesRounds number rounds scheme
    × IsTrue (is_outdated_by kept.scheme scheme)

-- Rehashes stored number rounds report: the report of mkpasswd_needs_rehash and web_needs_rehash. It has no error and
-- says whether the scheme replaces the stored setting; or it has the reason why an argument is refused.
abbrev pub Rehashes : List ℕ → ℕ → ℕ → Report → Type 0
Rehashes stored number rounds report =
    OnSetting stored (Refuses report) (λ kept. OnScheme TakesRounds number rounds (Refuses report) (λ scheme.
    report ≡ found (if is_outdated_by kept.scheme scheme then 1 else 0) 0 no_work))
