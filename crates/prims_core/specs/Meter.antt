-- The counts of a meter: how digests raise them, and bounds below which they don't overflow.
use Rattle.std.specs.Prelude.{◌≡◌, ℕ, ◌+◌, ◌^◌, ◌≤◌, List, length, sum_by}
use Rattle.prims_core.specs.Work.{IsAtMost}
use Rattle.prims_core.specs.declared.meter.Work.{Work}

-- with_work counts digests bytes: the counts after this many more digests, of this many bytes in all.
abbrev pub with_work : Work → ℕ → ℕ → Work
with_work counts digests bytes =
    record counts { digests = counts.digests + digests; bytes = counts.bytes + bytes }

-- HaveCountAndSum messages digests bytes: there are this many messages, with this many bytes in all. So digesting them
-- raises a meter by these two numbers.
pub record HaveCountAndSum (messages : List (List ℕ)) (digests bytes : ℕ) : Type 0 where
  pub count : length messages ≡ digests
  pub sum : sum_by length messages ≡ bytes

-- HasRoom counts: no count is above 2 ^ 120, so the work of any hash can be added without overflow.
abbrev pub HasRoom : Work → Type 0
HasRoom counts = IsAtMost counts (2 ^ 120)

-- HasDigestRoom counts: neither of the two counts that digests raise is above 2 ^ 120.
abbrev pub HasDigestRoom : Work → Type 0
HasDigestRoom counts = (counts.digests ≤ 2 ^ 120) × (counts.bytes ≤ 2 ^ 120)
