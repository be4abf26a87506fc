-- What one `fetch` returns, the first line in a buffer that several calls of `fetch` fill, and the password in that
-- line.
use Rattle.std.specs.Prelude.{◌≡◌, ◌≢◌, ℕ, ◌+◌, ◌≤◌, ◌⊎◌, List, [], length, take, Result, Ok, Err}
use Rattle.std.specs.Io.KnownBytes.{IsAtEnd}
use Rattle.crypt_core.specs.Passwords.{IsPassword, IsPasswordRefused, password_limit}
use Rattle.crypt_core.specs.declared.password.PasswordFault.{PasswordFault}
use Rattle.run_core.specs.Devices.{Device, MovesBytes}
use Rattle.run_core.specs.Input.{first_line, IsDecided, Reads}
use Rattle.run_core.specs.Private.Deliveries.{FailsOnce, IsUnfailed}
use Rattle.run_core.specs.Texts.{HasNoLineFeed}
use Rattle.run_core.specs.declared.fault.RunFault.{RunFault}
use Rattle.run_core.specs.declared.fault.RunFault.TheVariants.{Read, Turns, Password}
use Rattle.run_core.specs.declared.job.PasswordFrom.{PasswordFrom}
use Rattle.run_core.specs.declared.job.PasswordFrom.TheVariants.{Word, Input}

-- buffer_size is one more than the maximum length of a password. Once that many bytes without a line feed have been
-- read, the password is too long.
abbrev pub buffer_size : ℕ
buffer_size = password_limit + 1

-- IsUndecided bytes: the bytes that were read do not yet decide what the password is. They contain no line feed, and
-- are not too many for a password.
abbrev pub IsUndecided : List ℕ → Type 0
IsUndecided bytes = HasNoLineFeed bytes × (length bytes ≤ password_limit)

-- IsPasswordFault fault bytes: the bytes are refused as a password, and `fault` names the rule that they break.
abbrev pub IsPasswordFault : RunFault → List ℕ → Type 0
IsPasswordFault fault bytes = (rule : PasswordFault) × (fault ≡ Password rule) × IsPasswordRefused bytes rule

module _ {I : Type 0} where
  -- StopsFetching left old new fault: reading stopped, because a read failed or no I/O call was left. Each earlier read
  -- returned a byte.
  abbrev pub StopsFetching : ℕ → Device I → Device I → RunFault → Type 0
  StopsFetching left old new fault = MovesBytes 0 old new
      × (((fault ≡ Read) × FailsOnce old new) ⊎ ((fault ≡ Turns) × IsUnfailed old new × (left ≡ 0)))

  -- Fetches left old new buffer result: one `fetch` returned this result.
  --   Ok   the first `count` bytes of the buffer were read; if there are none, the input is at its end
  --   Err  nothing was read
  abbrev pub Fetches : ℕ → Device I → Device I → List ℕ → Result ℕ RunFault → Type 0
  Fetches left old new buffer (Ok count) =
      (count ≤ length buffer) × IsUnfailed old new × Reads old new (take count buffer)
      × (count ≡ 0 → IsAtEnd new.shown) × (count ≢ 0 → MovesBytes 0 old new) × MovesBytes 1 old new
  Fetches left old new buffer (Err fault) = Reads old new [] × StopsFetching left old new fault

  -- FindsLine old new bytes left buffer result: these bytes were read, and their first line is at the front of the
  -- buffer; or reading stopped before they decided what the password is (`IsUndecided`).
  abbrev pub FindsLine : Device I → Device I → List ℕ → ℕ → List ℕ → Result ℕ RunFault → Type 0
  FindsLine old new bytes left buffer (Ok count) =
      IsUnfailed old new × IsDecided new bytes × (count ≤ length buffer) × (take count buffer ≡ first_line bytes)
  FindsLine old new bytes left buffer (Err fault) = IsUndecided bytes × StopsFetching left old new fault

  -- Obtains old new bytes left result: these bytes were read, and their first line is the password, or is refused as a
  -- password; or reading stopped before they decided what the password is (`IsUndecided`).
  abbrev pub Obtains : Device I → Device I → List ℕ → ℕ → Result (List ℕ) RunFault → Type 0
  Obtains old new bytes left (Ok password) =
      IsUnfailed old new × IsDecided new bytes × (password ≡ first_line bytes) × IsPassword password
  Obtains old new bytes left (Err fault) = (IsUndecided bytes × StopsFetching left old new fault)
      ⊎ (IsUnfailed old new × IsDecided new bytes × IsPasswordFault fault (first_line bytes))

-- TakesAsPassword bytes result: the bytes are a valid password, which is the result, or the error names the rule that
-- they break.
abbrev pub TakesAsPassword : List ℕ → Result (List ℕ) RunFault → Type 0
TakesAsPassword bytes (Ok password) = (password ≡ bytes) × IsPassword bytes
TakesAsPassword bytes (Err fault) = IsPasswordFault fault bytes

-- ObtainsFrom from old new left result: the password from this source was obtained, refused, or could not be read.
--   Word   the password is the argument, and the input is unchanged
--   Input  the password is the first line of the input
abbrev pub ObtainsFrom : {I : Type 0} → PasswordFrom → Device I → Device I → ℕ → Result (List ℕ) RunFault → Type 0
ObtainsFrom (Word bytes) old new left result = (new ≡ old) × TakesAsPassword bytes.items result
ObtainsFrom Input old new left result =
    (bytes : List ℕ) × Reads old new bytes × Obtains old new bytes left result
