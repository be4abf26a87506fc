-- Two options of a job: a budget, which limits the cost of a line, and rehashes, which replace stored hashes that are
-- out of date.
use Rattle.std.specs.Prelude.{ℕ, ◌+◌, ◌&&◌, Bool, false, None, if◌then◌else◌, unwrap_or}
use Rattle.crypt_core.specs.OutdatedSchemes.{is_outdated_by}
use Rattle.crypt_core.specs.Settings.{SettingValue}
use Rattle.crypt_core.specs.Work.{cost}
use Rattle.run_core.specs.Makers.{made_cost_by}
use Rattle.run_core.specs.declared.job.Job.{Job}

-- without_budget job is the job without a budget.
abbrev pub without_budget : Job → Job
without_budget job = record job { budget = None }

-- given_budget job is the budget that an audit is given. It is the budget of the job, or 0 if the job has none. With 0,
-- the audit uses a budget of its own.
abbrev pub given_budget : Job → ℕ
given_budget job = unwrap_or job.budget 0

-- is_outdated job kept is true if the job asks for rehashes and the scheme of its new hashes makes a hash with the
-- setting `kept` out of date.
abbrev pub is_outdated : Job → SettingValue → Bool
is_outdated job kept = job.rehash && is_outdated_by kept.scheme job.maker.scheme

-- check_cost job kept password_length is the maximum cost of checking a password of this length against a hash with the
-- stored setting `kept`. It is the cost of the hash with that setting. If the job asks for rehashes and the setting is
-- out of date, the cost of the new hash is added, whether or not the password matches.
abbrev pub check_cost : Job → SettingValue → ℕ → ℕ
check_cost job kept password_length =
    cost kept password_length + (if is_outdated job kept then made_cost_by job.maker password_length else 0)

-- without_rehash job is the job without rehashes.
abbrev pub without_rehash : Job → Job
without_rehash job = record job { rehash = false }
