-- The standing of a stored hash, given the scheme of new hashes and a budget, without any password.
use Rattle.std.specs.Prelude.{◌≡◌, ◌⊎◌, ℕ, ◌<◌, List, Option, Some, None, true, false}
use Rattle.crypt_core.specs.Passwords.{password_limit}
use Rattle.crypt_core.specs.Policies.{chosen_budget, policy_limit}
use Rattle.crypt_core.specs.OutdatedSchemes.{is_outdated_by}
use Rattle.crypt_core.specs.Settings.{SettingValue}
use Rattle.crypt_core.specs.StoredFields.{IsWhole}
use Rattle.crypt_core.specs.Work.{cost}
use Rattle.crypt_core.specs.declared.scheme.Scheme.{Scheme}
use Rattle.crypt_core.specs.declared.standing.Standing.{Standing}
use Rattle.crypt_core.specs.declared.standing.Standing.TheVariants.{OverBudget, Dead, Outdated, Current}

-- IsAbove budget number: the number exceeds the budget. Without a budget no number does.
abbrev pub IsAbove : Option ℕ → ℕ → Type 0
IsAbove None number = ⊥
IsAbove (Some budget) number = budget < number

-- greatest_cost kept: the cost of hashing the longest password with this setting.
abbrev pub greatest_cost : SettingValue → ℕ
greatest_cost kept = cost kept password_limit

-- IsOverBudget new budget kept: hashing a password with this setting can cost more than the budget. A budget of 0
-- stands for the budget of an audit when new hashes have the scheme `new` (`audit_budget`). With a budget of 0, a hash
-- is also over budget if even the empty password costs more than the policy's limit, since no login under the policy
-- ever checks a password against such a hash.
abbrev pub IsOverBudget : Scheme → ℕ → SettingValue → Type 0
IsOverBudget new budget kept = (chosen_budget new budget < greatest_cost kept) ⊎ ((budget ≡ 0) × (policy_limit new < cost kept 0))

-- HasStanding new budget text kept standing: a stored hash with this text, which spells this setting, has this
-- standing.
--   OverBudget  the hash is over the budget
--   Dead        the hash is within the budget, but the text is not whole
--   Outdated    the hash is within the budget and whole, but the scheme `new` of new hashes replaces its scheme
--   Current     the hash is within the budget and whole, and `new` doesn't replace its scheme
abbrev pub HasStanding : Scheme → ℕ → List ℕ → SettingValue → Standing → Type 0
HasStanding new budget text kept OverBudget = IsOverBudget new budget kept
HasStanding new budget text kept Dead = (¬ IsOverBudget new budget kept) × (¬ IsWhole text kept)
HasStanding new budget text kept Outdated =
    (¬ IsOverBudget new budget kept) × IsWhole text kept × (is_outdated_by kept.scheme new ≡ true)
HasStanding new budget text kept Current =
    (¬ IsOverBudget new budget kept) × IsWhole text kept × (is_outdated_by kept.scheme new ≡ false)
