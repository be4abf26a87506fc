-- The bytes that were read from an input, and the password among them.
use Rattle.std.specs.Prelude.{◌≡◌, ℕ, ◌+◌, ◌<◌, ◌==◌, ◌⊎◌, List, length, take, Contains}
use Rattle.std.specs.List.{position_or_len}
use Rattle.std.specs.Io.KnownBytes.{Consumes, IsAtEnd}
use Rattle.crypt_core.specs.Passwords.{password_limit}
use Rattle.run_core.specs.Devices.{Device}
use Rattle.run_core.specs.Texts.{line_feed}

-- first_line bytes is everything before the first line feed, or all of `bytes` if there is none.
unfoldable pub first_line : List ℕ → List ℕ
first_line bytes = take (position_or_len (λ b. b == line_feed) bytes) bytes

-- Reads old new bytes: the calls of `fetch` returned these bytes. If the input exposes its contents, they began with
-- these bytes, which are now gone.
pub record Reads {I : Type 0} (old new : Device I) (bytes : List ℕ) : Type 0 where
  pub shown : Consumes old.shown new.shown bytes
  pub counted : new.bytes ≡ old.bytes + length bytes

-- IsDecided input bytes: the bytes that were read decide what the password is. They contain a line feed, or the input
-- is at its end, or their first line is too long for a password.
abbrev pub IsDecided : {I : Type 0} → Device I → List ℕ → Type 0
IsDecided input bytes = Contains bytes line_feed ⊎ (IsAtEnd input.shown ⊎ (password_limit < length (first_line bytes)))
