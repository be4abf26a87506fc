-- The effect of writing a text to an output.
use Rattle.std.specs.Prelude.{◌≡◌, ◌≢◌, ℕ, ◌+◌, ◌≤◌, ◌==◌, ◌&&◌, ◌⊎◌, List, [], ◌++◌, length, Result, Ok, Err, if◌then◌else◌}
use Rattle.std.specs.Io.KnownBytes.{Appends}
use Rattle.run_core.specs.Devices.{Device, MovesBytes}
use Rattle.run_core.specs.declared.fault.RunFault.{RunFault}
use Rattle.run_core.specs.declared.fault.RunFault.TheVariants.{Write, Turns}

-- Takes failures flushes old new bytes: the output has taken exactly these bytes. If the output exposes its contents,
-- they now end with these bytes.
--   failures  the number of calls that failed
--   flushes   the number of flushes, all after these bytes. If there was one and no call failed, `flushed` is the
--             number of all bytes; otherwise it is unchanged
pub record Takes {T : Type 0} (failures flushes : ℕ) (old new : Device T) (bytes : List ℕ) : Type 0 where
  pub shown : Appends old.shown new.shown bytes
  pub counted : new.bytes ≡ old.bytes + length bytes
  pub failed : new.failures ≡ old.failures + failures
  pub tried : new.flushes ≡ old.flushes + flushes
  pub flushed : new.flushed ≡ (if flushes == 1 && failures == 0 then new.bytes else old.flushed)

-- TakesFront failures old new whole text: the output has taken `whole` and then a proper prefix of `text`. Exactly
-- `failures` calls failed, and the output was not flushed.
abbrev pub TakesFront : {T : Type 0} → ℕ → Device T → Device T → List ℕ → List ℕ → Type 0
TakesFront failures old new whole text =
    (sent unsent : List ℕ) × (sent ++ unsent ≡ text) × (unsent ≢ []) × Takes failures 0 old new (whole ++ sent)

-- Gives turns old new text result: writing and flushing `text` ended with this result.
--   Ok     the whole text was taken and flushed, and no call failed
--   Write  one call failed: a `give` before the whole text was taken, or the flush
--   Turns  `turns` calls were made and none failed, but the text was not taken as a whole
abbrev pub Gives : {A T : Type 0} → ℕ → Device T → Device T → List ℕ → Result A RunFault → Type 0
Gives turns old new text (Ok answer) = Takes 0 1 old new text
Gives turns old new text (Err fault) = ((fault ≡ Write) × (TakesFront 1 old new [] text ⊎ Takes 1 1 old new text))
    ⊎ ((fault ≡ Turns) × TakesFront 0 old new [] text × (new.calls ≡ old.calls + turns))

-- Shows turns old new text result: writing and flushing `text` ended with this result. At most `turns` calls were made
-- to write it, and each of them moved a byte or failed.
abbrev pub Shows : {A T : Type 0} → ℕ → Device T → Device T → List ℕ → Result A RunFault → Type 0
Shows turns old new text result = Gives turns old new text result × (new.calls ≤ old.calls + turns) × MovesBytes 0 old new
