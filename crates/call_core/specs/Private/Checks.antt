-- What the private steps of a password's check ensure.
use Rattle.std.specs.Prelude.{◌≡◌, ◌⊎◌, ◌<◌, ℕ, List, length}
use Rattle.crypt_core.specs.Settings.{SettingValue, Spells}
use Rattle.crypt_core.specs.Work.{cost}
use Rattle.call_core.specs.Arguments.{IsFieldRefusal, Refuses}
use Rattle.call_core.specs.Reports.{refused}
use Rattle.call_core.specs.declared.reason.Reason.{Reason}
use Rattle.call_core.specs.declared.reason.Reason.TheVariants.{OverBudget}
use Rattle.call_core.specs.declared.report.Report.{Report}

-- IsCheckRefused password field budget report: the report if the password is not checked against the field: the field
-- is refused, or the check costs more than the budget.
abbrev pub IsCheckRefused : List ℕ → List ℕ → ℕ → Report → Type 0
IsCheckRefused password field budget report =
    ((reason : Reason) × IsFieldRefusal field reason × Refuses report reason)
    ⊎ ((kept : SettingValue) × Spells field kept × (budget < cost kept (length password)) × (report ≡ refused OverBudget (cost kept (length password))))
