-- The limit on the cost of a login and of a new hash: the budget that the caller passes, or the limit of the policy
-- that the method and the rounds make.
--
-- `number` is that of a method, and `len` the length of a password in bytes.
use Rattle.std.specs.Prelude.{◌≡◌, ℕ, ◌≤◌, ◌==◌, ◌||◌, ◌&&◌, Bool, true, false, if◌then◌else◌, nat_le, nat_lt, Option, Some, None}
use Rattle.std.specs.Option.{option_map_or}
use Rattle.prims_core.specs.Work.{no_work}
use Rattle.crypt_core.specs.MadeSettings.{made_scheme, rounds_of}
use Rattle.crypt_core.specs.Passwords.{password_limit}
-- The cost of a new hash and the limit of a policy are re-exported here.
pub use Rattle.crypt_core.specs.Policies.{new_cost, policy_limit}
use Rattle.crypt_core.specs.Policies.{IsLongestWithin, chosen_rounds, fitted}
use Rattle.crypt_core.specs.OutdatedSchemes.{is_outdated_by}
use Rattle.crypt_core.specs.Rounds.{clamped}
use Rattle.crypt_core.specs.declared.method.Method.{Method}
use Rattle.crypt_core.specs.declared.method.Method.TheVariants as methods
use Rattle.crypt_core.specs.declared.scheme.Scheme.{Scheme}
use Rattle.call_core.specs.Arguments.{IsSchemeMade, OnLength, OnScheme, Refuses, TakesNewRounds, chosen_method}
use Rattle.call_core.specs.Reports.{refused, succeeded}
use Rattle.call_core.specs.declared.limit.Limit.{Limit}
use Rattle.call_core.specs.declared.limit.Limit.TheVariants.{Policy, Bytes}
use Rattle.call_core.specs.declared.reason.Reason.TheVariants.{OverBudget}
use Rattle.call_core.specs.declared.report.Report.{Report}

-- The budget that means the limit of the policy, which is twice the cost of a new hash of a password of 64 bytes, or
-- more (`policy_limit`).
abbrev pub default_budget : ℕ
default_budget = 0

-- limit_by scheme len: the limit of the policy whose new hashes have this scheme. It is 0, which admits no hash, for a
-- password that is too long or whose new hash would be above the limit.
abbrev pub limit_by : Scheme → ℕ → ℕ
limit_by scheme len =
    if nat_lt password_limit len || nat_lt (policy_limit scheme) (new_cost scheme len) then 0 else policy_limit scheme

-- takes_new_rounds method rounds: whether `TakesNewRounds` holds, as a test.
abbrev pub takes_new_rounds : Method → ℕ → Bool
takes_new_rounds methods.Md5crypt rounds = true
takes_new_rounds methods.Sha256crypt rounds = (rounds == 0) || (clamped rounds == rounds)
takes_new_rounds methods.Sha512crypt rounds = (rounds == 0) || (clamped rounds == rounds)
takes_new_rounds methods.Scrypt rounds = (rounds == 0) || (nat_le 6 rounds && nat_le rounds 11)

-- method_limit method rounds len: `limit_by` for the policy with this method and rounds, or 0 if the method does not
-- take the rounds for new hashes.
abbrev pub method_limit : Method → ℕ → ℕ → ℕ
method_limit method rounds len = if takes_new_rounds method rounds then limit_by (made_scheme method (chosen_rounds method rounds)) len else 0

-- limit_in number rounds limit len: the most that a login or a new hash may cost for a password of this length: the
-- caller's budget, or `method_limit` for the policy with this method and these rounds. For a policy it is 0 if no
-- method has the number.
abbrev pub limit_in : ℕ → ℕ → Limit → ℕ → ℕ
limit_in number rounds Policy len = option_map_or (λ (method : Method). method_limit method rounds len) (chosen_method number) 0
limit_in number rounds (Bytes budget) len = budget

-- meant budget: the limit that a budget means. 0 means the limit of the policy.
abbrev pub meant : ℕ → Limit
meant budget = if budget == default_budget then Policy else Bytes budget

-- limit_of number rounds budget len: `limit_in` for the limit that the caller's budget means (`meant`).
abbrev pub limit_of : ℕ → ℕ → ℕ → ℕ → ℕ
limit_of number rounds budget len = limit_in number rounds (meant budget) len

-- allowance limit scheme len: the most that a login or a new hash may cost for a password of this length, by a policy
-- whose new hashes have this scheme.
abbrev pub allowance : Limit → Scheme → ℕ → ℕ
allowance Policy scheme len = limit_by scheme len
allowance (Bytes budget) scheme len = budget

-- limit_bytes limit scheme: the limit in bytes digested and mixed, for a policy whose new hashes have this scheme.
abbrev pub limit_bytes : Limit → Scheme → ℕ
limit_bytes Policy scheme = policy_limit scheme
limit_bytes (Bytes budget) scheme = budget

-- ---- What a policy admits

-- limit_report scheme limit longest: the report of a limit, with the length of the longest password and the rounds; or
-- OverBudget if no new hash is within the limit.
abbrev pub limit_report : Scheme → ℕ → Option ℕ → Report
limit_report scheme limit (Some longest) = record (succeeded longest limit no_work) { rounds = rounds_of scheme }
limit_report scheme limit None = refused OverBudget limit

-- Limits number rounds limit report: the report of mkpasswd_limit and web_limit: the limit, and the length of the
-- longest password whose new hash is within it; or a refusal.
abbrev pub Limits : ℕ → ℕ → Limit → Report → Type 0
Limits number rounds limit report =
    OnScheme TakesNewRounds number rounds (Refuses report) (λ scheme.
    (longest : Option ℕ) × IsLongestWithin scheme (limit_bytes limit scheme) longest
    × (report ≡ limit_report scheme (limit_bytes limit scheme) longest))

-- rounds_report scheme len own: the report of the rounds and the cost of a new hash of a password of this length with
-- the scheme `own`, which is within the limit; or OverBudget with the cost by the policy's scheme if there is no such
-- scheme.
abbrev pub rounds_report : Scheme → ℕ → Option Scheme → Report
rounds_report scheme len (Some own) = record (succeeded 0 (new_cost own len) no_work) { rounds = rounds_of own }
rounds_report scheme len None = refused OverBudget (new_cost scheme len)

-- ReportsRounds len number rounds limit report: the report of mkpasswd_rounds and web_rounds: rounds with which a new
-- hash of a password of this length is within the limit, and the cost of that hash; or a refusal.
abbrev pub ReportsRounds : ℕ → ℕ → ℕ → Limit → Report → Type 0
ReportsRounds len number rounds limit report =
    OnLength len (Refuses report) (OnScheme TakesNewRounds number rounds (Refuses report) (λ scheme.
    report ≡ rounds_report scheme len (fitted scheme (limit_bytes limit scheme) len)))

-- AreFitted len number limit scheme report: what holds of the reported rounds and cost, for a policy with this scheme.
--   makes   the method takes the rounds for new hashes, whose scheme is `own`
--   cost    a new hash of a password of this length with these rounds has the reported cost
--   within  the cost is at most the limit
--   fewer   the rounds are no more than the policy's
pub record AreFitted (len number limit : ℕ) (scheme : Scheme) (report : Report) : Type 0 where
  pub own : Scheme
  pub makes : IsSchemeMade TakesNewRounds number report.rounds own
  pub cost : report.cost ≡ new_cost own len
  pub within : report.cost ≤ limit
  pub fewer : is_outdated_by scheme own ≡ false
