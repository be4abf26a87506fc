-- The messages for reasons, and the names of schemes, by the numbers of the reasons and schemes. A scheme is one of
-- mkpasswd's methods or another scheme of crypt(5).
use Rattle.std.specs.Prelude.{◌≡◌, ◌≢◌, ℕ, ℤ, pos, List, codes, MatchOption}
use Rattle.crypt_core.specs.Methods.{method_numbered, method_row}
use Rattle.crypt_core.specs.OtherSchemes.{other_scheme_numbered, other_scheme_row}
use Rattle.call_core.specs.Reasons.{reason_row}
use Rattle.call_core.specs.Reports.{PutsWhole, put}
use Rattle.call_core.specs.declared.reason.Reason.{Reason}

-- PutsSchemeName number old result new: the effect of mkpasswd_scheme_name and web_scheme_name: they write the crypt(5)
-- name of the scheme with this number, or `unknown scheme`.
abbrev pub PutsSchemeName : ℕ → List ℕ → ℤ → List ℕ → Type 0
PutsSchemeName number old result new =
    MatchOption (method_numbered number)
    (MatchOption (other_scheme_numbered number)
    ((new ≡ put (codes "unknown scheme") old) × (result ≡ pos 0))
    (λ other. PutsWhole (other_scheme_row other).1 old result new))
    (λ method. PutsWhole (method_row method).name old result new)

-- PutsMessage number old result new: the effect of mkpasswd_message and web_message.
--   known    if a reason has this number, they write its message
--   unknown  if no reason has this number, they write `unknown reason`
pub record PutsMessage (number : ℕ) (old : List ℕ) (result : ℤ) (new : List ℕ) : Type 0 where
  pub known : (reason : Reason) → number ≡ (reason_row reason).0 → PutsWhole (reason_row reason).1 old result new
  pub unknown : ((reason : Reason) → number ≢ (reason_row reason).0) → (new ≡ put (codes "unknown reason") old) × (result ≡ pos 0)
