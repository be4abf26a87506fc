-- What a meter counts for a hash, and for a hash that fails for lack of memory.
use Rattle.std.specs.Prelude.{◌≡◌, ◌≤◌, ◌+◌, ℕ, List, length, Result, OnOk, OnErr}
use Rattle.prims_core.specs.declared.meter.Work.{Work}
use Rattle.crypt_core.specs.Crypt.{IsAfterFailedAllocation}
use Rattle.crypt_core.specs.Settings.{SettingValue}
use Rattle.crypt_core.specs.Work.{cost, raised_by, work, work_limit, IsBelow}

-- IsMetered before password kept after result: hashing the password with the setting `kept` has this result, and
-- changes the meter's counts from `before` to `after`.
--   count    a successful hash counts exactly its work
--   below    each count of the hash's work is below `work_limit`
--   within   whatever the result, the bytes digested are at most the cost
--   refused  only scrypt can fail, and then only the allocations before the failure count
pub record IsMetered {A E : Type 0} (before : Work) (password : List ℕ) (kept : SettingValue) (after : Work) (result : Result A E) : Type 0 where
  pub count : OnOk result (after ≡ raised_by before (work password kept))
  pub below : IsBelow (work password kept) work_limit
  pub within : after.bytes ≤ before.bytes + cost kept (length password)
  pub refused : OnErr result (IsAfterFailedAllocation before kept.scheme after)
