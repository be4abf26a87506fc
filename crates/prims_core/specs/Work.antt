-- Work, in five counts. It is the work of one hash, or all that a meter has counted.
use Rattle.std.specs.Prelude.{ℕ, ◌+◌, ◌-◌, ◌≤◌, ◌<◌}
use Rattle.prims_core.specs.declared.meter.Work.{Work}

-- No work at all: the counts of a new meter.
abbrev pub no_work : Work
no_work = record { digests = 0; bytes = 0; mixes = 0; table = 0; scratch = 0 }

-- raised_by counts work: the counts after this much more work. Each count is raised by the same count of `work`.
abbrev pub raised_by : Work → Work → Work
raised_by counts work = record {
  digests = counts.digests + work.digests;
  bytes = counts.bytes + work.bytes;
  mixes = counts.mixes + work.mixes;
  table = counts.table + work.table;
  scratch = counts.scratch + work.scratch;
}

-- work_between before after: the work done from one reading of a meter to a later one, which is how much each count has
-- risen.
abbrev pub work_between : Work → Work → Work
work_between before after = record {
  digests = after.digests - before.digests;
  bytes = after.bytes - before.bytes;
  mixes = after.mixes - before.mixes;
  table = after.table - before.table;
  scratch = after.scratch - before.scratch;
}

-- IsWithin work most: no count of `work` is above the same count of `most`.
pub record IsWithin (work most : Work) : Type 0 where
  pub digests : work.digests ≤ most.digests
  pub bytes : work.bytes ≤ most.bytes
  pub mixes : work.mixes ≤ most.mixes
  pub table : work.table ≤ most.table
  pub scratch : work.scratch ≤ most.scratch

-- IsAtMost work limit: no count of `work` is above the limit.
pub record IsAtMost (work : Work) (limit : ℕ) : Type 0 where
  pub digests : work.digests ≤ limit
  pub bytes : work.bytes ≤ limit
  pub mixes : work.mixes ≤ limit
  pub table : work.table ≤ limit
  pub scratch : work.scratch ≤ limit

-- IsBelow work limit: each count of `work` is below the limit.
pub record IsBelow (work : Work) (limit : ℕ) : Type 0 where
  pub digests : work.digests < limit
  pub bytes : work.bytes < limit
  pub mixes : work.mixes < limit
  pub table : work.table < limit
  pub scratch : work.scratch < limit
