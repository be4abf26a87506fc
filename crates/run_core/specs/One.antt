-- How the run for one password ends, depending on where the password comes from.
use Rattle.std.specs.Prelude.{◌≡◌, ℕ, ◌≤◌, List, [], ◌∷◌, length, ⊤, Result}
use Rattle.crypt_core.specs.Passwords.{IsPassword, IsPasswordRefused, password_limit}
use Rattle.run_core.specs.Answers.{password_answer}
use Rattle.run_core.specs.JobOptions.{without_budget, without_rehash}
use Rattle.run_core.specs.Input.{first_line, IsDecided, Reads}
use Rattle.run_core.specs.Runs.{EndsBy, IsWithinTurns, RunState}
use Rattle.run_core.specs.Texts.{HasNoLineFeed}
use Rattle.run_core.specs.declared.fault.RunFault.{RunFault}
use Rattle.run_core.specs.declared.job.Job.{Job}
use Rattle.run_core.specs.declared.job.PasswordFrom.{PasswordFrom}
use Rattle.run_core.specs.declared.job.PasswordFrom.TheVariants.{Word, Input}
use Rattle.run_core.specs.declared.tally.Tally.{Tally}

-- EndsPassword Decided Undecided turns job password old new result: the run for this password ends with this result. It
-- checks the password before it draws a random number.
--   Decided    what holds if the run has read the whole password
--   Undecided  what holds if the run stops while it reads
abbrev pub EndsPassword : {I O E : Type 0} → (Decided Undecided : Type 0) → ℕ → Job → List ℕ → RunState I O E → RunState I O E → Result Tally RunFault → Type 0
EndsPassword Decided Undecided turns job password old new = EndsBy
    (λ answers. Decided × IsPassword password × (answers ≡ password_answer job password old.stream ∷ []))
    (λ done. Undecided × (done ≡ []))
    (λ answers. Decided × IsPassword password × (answers ≡ password_answer job password old.stream ∷ []))
    (λ fault. Decided × IsPasswordRefused password fault) turns old new

-- EndsOne turns job from old new result: the run for the password from this source ends with this result.
--   Word   the password is the argument, and the input is unchanged
--   Input  the password is the first line of the input. If the run stops while it reads, the bytes that it has read
--          contain no line feed and are not too many for a password
abbrev pub EndsOne : {I O E : Type 0} → ℕ → Job → PasswordFrom → RunState I O E → RunState I O E → Result Tally RunFault → Type 0
EndsOne turns job (Word word) old new result = (new.input ≡ old.input) × EndsPassword ⊤ ⊥ turns job word.items old new result
EndsOne turns job Input old new result = (bytes : List ℕ) × Reads old.input new.input bytes
    × EndsPassword (IsDecided new.input bytes) (HasNoLineFeed bytes × (length bytes ≤ password_limit)) turns job (first_line bytes) old new result

-- RunsOne turns job from old new result: the run for one password ends with this result, within `turns` I/O calls. The
-- job's `budget` and `rehash` make no difference.
pub record RunsOne {I O E : Type 0} (turns : ℕ) (job : Job) (from : PasswordFrom) (old new : RunState I O E) (result : Result Tally RunFault) : Type 0 where
  pub ends : EndsOne turns job from old new result
  pub options : EndsOne turns (without_rehash (without_budget job)) from old new result
  pub within_turns : IsWithinTurns turns old new
