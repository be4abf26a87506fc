-- The policy that this project recommends: rounds for new hashes, a limit on the cost of a login, and a budget for
-- audits.
use Rattle.std.specs.Prelude.{ℕ, ◌+◌, ◌-◌, ◌*◌, ◌/◌, ◌<◌, ◌≤◌, ◌==◌, ◌↔◌, if◌then◌else◌, max, nat_le, true, Option, Some, None}
use Rattle.crypt_core.specs.MadeSettings.{made_scheme}
use Rattle.crypt_core.specs.Methods.{method_row}
use Rattle.crypt_core.specs.Passwords.{password_limit}
use Rattle.crypt_core.specs.Rounds.{IsRounds, Rounds, clamped}
use Rattle.crypt_core.specs.Schemes.{method_of, sha_method}
use Rattle.crypt_core.specs.Work.{cost_by, greatest_byte, shacrypt_bytes}
use Rattle.crypt_core.specs.declared.method.Method.{Method}
use Rattle.crypt_core.specs.declared.method.Method.TheVariants.{Md5crypt, Sha256crypt, Sha512crypt, Scrypt}
use Rattle.crypt_core.specs.declared.scheme.Scheme.{Scheme}
use Rattle.crypt_core.specs.declared.scheme.Scheme.TheVariants.{Shacrypt}
use Rattle.crypt_core.specs.declared.scheme.Sha.{Sha}

-- recommended_rounds method: the rounds that new hashes should have, as `made_scheme` takes them. md5crypt's are fixed.
abbrev pub recommended_rounds : Method → ℕ
recommended_rounds Md5crypt = 0
recommended_rounds Sha256crypt = 656000
recommended_rounds Sha512crypt = 656000
recommended_rounds Scrypt = 7

-- chosen_rounds method rounds: the rounds, or the recommended ones for 0.
abbrev pub chosen_rounds : Method → ℕ → ℕ
chosen_rounds method rounds = if rounds == 0 then recommended_rounds method else rounds

-- new_cost scheme len: the cost of a new hash with this scheme for a password of this length in bytes.
abbrev pub new_cost : Scheme → ℕ → ℕ
new_cost scheme len = cost_by scheme len (method_row (method_of scheme)).made_salt_length

-- The least limit that a policy has, in bytes digested and mixed.
abbrev pub limit_floor : ℕ
limit_floor = 150000000

-- policy_limit scheme: what a login or a new hash may cost under the policy that new hashes have this scheme: twice the
-- cost of a new hash of a password of 64 bytes, but at least `limit_floor`. The limit doesn't depend on the password of
-- a login, so nobody who logs in can raise it.
abbrev pub policy_limit : Scheme → ℕ
policy_limit scheme = max limit_floor (2 * new_cost scheme 64)

-- IsLongestWithin scheme limit longest: a new hash with this scheme costs at most the limit exactly for passwords of up
-- to `longest` bytes. If `longest` is None, a new hash of even the empty password costs more than the limit.
abbrev pub IsLongestWithin : Scheme → ℕ → Option ℕ → Type 0
IsLongestWithin scheme limit (Some longest) =
    (longest ≤ password_limit) × ((len : ℕ) → len ≤ password_limit → (new_cost scheme len ≤ limit ↔ len ≤ longest))
IsLongestWithin scheme limit None = (len : ℕ) → len ≤ password_limit → limit < new_cost scheme len

-- ---- rounds for a longer password

-- opening_bytes sha len: a bound on the bytes that SHA-crypt digests before the rounds, in a new hash of a password of
-- this length.
abbrev pub opening_bytes : Sha → ℕ → ℕ
opening_bytes sha len =
    shacrypt_bytes (method_row (sha_method sha)).digest_len greatest_byte 0 len (method_row (sha_method sha)).made_salt_length

-- longest_round sha len: the bytes of the longest message of a round of SHA-crypt, for a password of this length: a
-- digest, the password twice, and a generated salt.
abbrev pub longest_round : Sha → ℕ → ℕ
longest_round sha len = (method_row (sha_method sha)).digest_len + 2 * len + (method_row (sha_method sha)).made_salt_length

-- fitting_rounds sha limit len: how many rounds are sure to be within the limit, after `opening_bytes` and with
-- `longest_round` bytes for each round; clamped to SHA-crypt's range of rounds.
abbrev pub fitting_rounds : Sha → ℕ → ℕ → ℕ
fitting_rounds sha limit len = clamped ((limit - opening_bytes sha len) / longest_round sha len)

-- fewer_rounds scheme limit len: SHA-crypt with `fitting_rounds`, if a new hash with them is within the limit. The
-- other methods get no fewer rounds, since their cost hardly depends on the password.
abbrev pub fewer_rounds : Scheme → ℕ → ℕ → Option Scheme
fewer_rounds (Shacrypt sha rounds) limit len =
    let fewer = Shacrypt sha (record { count = fitting_rounds sha limit len; is_written = true }) in
    if nat_le (new_cost fewer len) limit then Some fewer else None
fewer_rounds scheme limit len = None

-- fitted scheme limit len: the scheme for a new hash of a password of this length that is within the limit, under a
-- policy with this scheme. It is the policy's own scheme if a new hash with that is within the limit, and otherwise the
-- one of `fewer_rounds`.
abbrev pub fitted : Scheme → ℕ → ℕ → Option Scheme
fitted scheme limit len = if nat_le (new_cost scheme len) limit then Some scheme else fewer_rounds scheme limit len

-- NeverFits scheme limit len: a new hash of a password of this length costs more than the limit, for SHA-crypt with any
-- number of rounds.
abbrev pub NeverFits : Scheme → ℕ → ℕ → Type 0
NeverFits (Shacrypt sha rounds) limit len = (other : Rounds) → IsRounds other → limit < new_cost (Shacrypt sha other) len
NeverFits scheme limit len = limit < new_cost scheme len

-- ---- audits

-- greatest_cost_by scheme: the cost of a hash with this scheme for the longest password and the longest salt that the
-- method keeps.
abbrev pub greatest_cost_by : Scheme → ℕ
greatest_cost_by scheme = cost_by scheme password_limit (method_row (method_of scheme)).salt_limit

-- audit_budget scheme: the budget of an audit when new hashes have this scheme. It admits every hash with this scheme,
-- and every sha512crypt hash with the recommended rounds.
abbrev pub audit_budget : Scheme → ℕ
audit_budget scheme = max (greatest_cost_by scheme) (greatest_cost_by (made_scheme Sha512crypt (recommended_rounds Sha512crypt)))

-- chosen_budget scheme budget: the budget, or `audit_budget scheme` if the budget is 0.
abbrev pub chosen_budget : Scheme → ℕ → ℕ
chosen_budget scheme budget = if budget == 0 then audit_budget scheme else budget
