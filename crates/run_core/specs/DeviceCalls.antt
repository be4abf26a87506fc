-- The effect of a single call of a device. Among public contracts, only those of the wrappers of devices cite these
-- definitions.
use Rattle.std.specs.Prelude.{◌≡◌, ℕ, ◌+◌, ◌==◌, ◌&&◌, Bool, true, false, nat_lt, List, length, Option, Result, Ok, Err, refl, if◌then◌else◌}
use Rattle.std.specs.Coded.{Coded, code_by, coded×, coded_ℕ, coded_list, coded_option}
use Rattle.run_core.specs.Devices.{Device}

-- device_code code encodes a device as the tuple of its fields.
abbrev pub device_code : {T : Type 0} → Coded T → Coded (Device T)
device_code {T} code =
    code_by (T × (Option (List ℕ) × (ℕ × (ℕ × (ℕ × (ℕ × (ℕ × ℕ)))))))
    (coded× code (coded× (coded_option (coded_list coded_ℕ)) (coded× coded_ℕ (coded× coded_ℕ (coded× coded_ℕ (coded× coded_ℕ (coded× coded_ℕ coded_ℕ)))))))
    (λ d. (d.inner, (d.shown, (d.failures, (d.calls, (d.bytes, (d.idle, (d.flushes, d.flushed))))))))
    (λ p. record {
      inner = p.0;
      shown = p.1.0;
      failures = p.1.1.0;
      calls = p.1.1.1.0;
      bytes = p.1.1.1.1.0;
      idle = p.1.1.1.1.1.0;
      flushes = p.1.1.1.1.1.1.0;
      flushed = p.1.1.1.1.1.1.1;
    }) (λ _. refl)

-- new_device inner shown is the device `inner` with the contents `shown` before any call.
abbrev pub new_device : {T : Type 0} → T → Option (List ℕ) → Device T
new_device inner shown = record { inner = inner; shown = shown; failures = 0; calls = 0; bytes = 0; idle = 0; flushes = 0; flushed = 0 }

-- as_count seen is 1 if `seen` is true, else 0.
abbrev pub as_count : Bool → ℕ
as_count seen = if seen then 1 else 0

-- is_failed_give result piece is true if a `give` of `piece` fails: the writer returns an error, or takes no byte of a
-- piece that is not empty.
abbrev pub is_failed_give : {E : Type 0} → Result ℕ E → List ℕ → Bool
is_failed_give (Ok count) piece = count == 0 && nat_lt 0 (length piece)
is_failed_give (Err e) piece = true

-- is_idle_fetch result is true if a `fetch` returns no byte and does not fail.
abbrev pub is_idle_fetch : {E : Type 0} → Result ℕ E → Bool
is_idle_fetch (Ok count) = count == 0
is_idle_fetch (Err e) = false

-- is_idle_give result piece is true if a `give` of an empty piece does not fail.
abbrev pub is_idle_give : {E : Type 0} → Result ℕ E → List ℕ → Bool
is_idle_give (Ok count) piece = count == 0 && length piece == 0
is_idle_give (Err e) piece = false

-- moved_by result is the number of bytes that a `fetch` returned or a `give` took.
abbrev pub moved_by : {E : Type 0} → Result ℕ E → ℕ
moved_by (Ok count) = count
moved_by (Err e) = 0

-- IsUnflushed old new: the device was not flushed.
pub record IsUnflushed {T : Type 0} (old new : Device T) : Type 0 where
  pub flushes : new.flushes ≡ old.flushes
  pub flushed : new.flushed ≡ old.flushed

-- IsFlushed old new: one flush was made, after which `flushed` is the number of all bytes moved so far. A flush that
-- succeeds does this. The record says nothing of `failures`.
pub record IsFlushed {T : Type 0} (old new : Device T) : Type 0 where
  pub flushes : new.flushes ≡ old.flushes + 1
  pub flushed : new.flushed ≡ new.bytes

-- FailsToFlush old new: one flush was made, and `flushed` is unchanged. A flush that fails does this.
pub record FailsToFlush {T : Type 0} (old new : Device T) : Type 0 where
  pub flushes : new.flushes ≡ old.flushes + 1
  pub flushed : new.flushed ≡ old.flushed
