-- What a contract sees of a wrapped device.
use Rattle.std.specs.Prelude.{ℕ, ◌+◌, ◌^◌, ◌≤◌, List, Option}

-- A `Device` is what a contract sees of a device. An input moves bytes with `fetch` and is never flushed. An output
-- moves bytes with `give`.
--   inner     the device itself
--   shown     the bytes that are still to be read, or that were written, if the device exposes them
--   failures  the number of failed calls
--   calls     the number of calls that move bytes, including failed ones
--   bytes     the number of bytes that these calls moved
--   idle      the number of these calls that moved no byte and did not fail
--   flushes   the number of flushes, including failed ones
--   flushed   the number of bytes moved before the last flush that succeeded
pub record Device (T : Type 0) : Type 0 where
  pub inner : T
  pub shown : Option (List ℕ)
  pub failures : ℕ
  pub calls : ℕ
  pub bytes : ℕ
  pub idle : ℕ
  pub flushes : ℕ
  pub flushed : ℕ

-- turns_limit is the greatest limit on the I/O calls of a run. An I/O call is a `fetch` or a `give`.
abbrev pub turns_limit : ℕ
turns_limit = 2 ^ 40

-- HasRoomBeforeRun d: no count of the device can overflow during a run. `idle` needs no limit, because by the wrapper's
-- invariant it is at most `calls`.
abbrev pub HasRoomBeforeRun : {T : Type 0} → Device T → Type 0
HasRoomBeforeRun d = (d.failures ≤ 2 ^ 62) × (d.calls ≤ 2 ^ 62) × (d.bytes ≤ 2 ^ 62) × (d.flushes ≤ 2 ^ 62)

-- HasRoomWithinRun device: no count of the device can overflow in the rest of a run, or when one more text of fewer
-- than 2^63 bytes is written after it.
pub record HasRoomWithinRun {T : Type 0} (device : Device T) : Type 0 where
  pub failures : device.failures ≤ 2 ^ 63
  pub calls : device.calls ≤ 2 ^ 63 + turns_limit
  pub bytes : device.bytes ≤ 2 ^ 63
  pub flushes : device.flushes ≤ 2 ^ 63

-- MovesBytes spare old new: all but at most `spare` calls of `fetch` or `give` moved a byte or failed. So there are at
-- most `spare` more calls than bytes and failures together.
pub record MovesBytes {T : Type 0} (spare : ℕ) (old new : Device T) : Type 0 where
  pub idle : new.idle ≤ old.idle + spare
  pub calls : new.calls + old.bytes + old.failures ≤ old.calls + new.bytes + new.failures + spare
