-- The report of a password's check, for the clauses `verifies` and `shut` of `verify`, `admits` of `checkable`, and
-- `shut` and `dead` of `log_in`. The report is that of a refused field, of a hash above the budget, or of a comparison.
-- A comparison of the cost with the budget decides between the last two.
use Rattle.std.proofs.Common.{◌≡◌, ◌<◌, ◌≤◌, ℕ, List, length, nat_lt, true, false, inl, inr, arith}
use Rattle.crypt_core.specs.Crypt.{crypt}
use Rattle.crypt_core.specs.Passwords.{IsPassword}
use Rattle.crypt_core.specs.Settings.{SettingValue, Spells}
use Rattle.crypt_core.specs.Work.{cost}
use Rattle.crypt_core.proofs.WholeHashes.{IsWhole-from_Fits}
use Rattle.call_core.specs.Checks.{Compares, IsDead, Verifies}
use Rattle.call_core.specs.Private.Checks.{IsCheckRefused}
use Rattle.call_core.specs.Reports.{refused}
use Rattle.call_core.specs.declared.reason.Reason.TheVariants.{OverBudget, WrongPassword}
use Rattle.call_core.specs.declared.report.Report.{Report}

-- No password's hash is a dead hash.
pub not_fits-IsDead : (password field : List ℕ) (kept : SettingValue) → Spells field kept → crypt password kept ≡ field → IsDead field → ⊥
not_fits-IsDead password field kept spells fits dead = dead.2 (IsWhole-from_Fits password field dead.0 dead.1 (kept, spells, fits))

-- Of two equal settings, one can't cost more than the budget while the other costs at most the budget.
pub cost-not_above : (password : List ℕ) (budget : ℕ) (kept other : SettingValue) → kept ≡ other
    → budget < cost kept (length password) → cost other (length password) ≤ budget → ⊥
cost-not_above password budget kept other same above low =
    let low_too : cost kept (length password) ≤ budget = rw same low in
    omega arith

-- `Verifies` holds of the report OverBudget, if the password is valid and its hash costs more than the budget.
pub Verifies-over_budget : (password stored : List ℕ) (budget : ℕ) (kept : SettingValue) (report : Report) → IsPassword password → Spells stored kept
    → budget < cost kept (length password) → report ≡ refused OverBudget (cost kept (length password)) → Verifies password stored budget report
Verifies-over_budget password stored budget kept report is spells above e =
    let test : nat_lt budget (cost kept (length password)) ≡ true = grind arith in
    inl (is, inl (kept, spells, rw test e))

-- `Verifies` holds of the report of a comparison, if the password is valid and its hash costs at most the budget.
pub Verifies_from_Compares : (password stored : List ℕ) (budget : ℕ) (kept : SettingValue) (report : Report) → IsPassword password → Spells stored kept
    → cost kept (length password) ≤ budget → Compares password kept stored 0 WrongPassword report → Verifies password stored budget report
Verifies_from_Compares password stored budget kept report is spells low compares =
    let test : nat_lt budget (cost kept (length password)) ≡ false = grind arith in
    inl (is, inl (kept, spells, rw test compares))

-- `Verifies` holds of the report of a refusal for the field or for the budget, if the password is valid.
pub Verifies-refused : (password stored : List ℕ) (budget : ℕ) (report : Report) → IsPassword password → IsCheckRefused password stored budget report
    → Verifies password stored budget report
Verifies-refused password stored budget report is (inl (reason, refused, e)) = inl (is, inr (reason, refused, e))
Verifies-refused password stored budget report is (inr (kept, spells, above, e)) = Verifies-over_budget password stored budget kept report is spells above e
