-- Whether a password matches a stored hash (crypt(3)).
use Rattle.std.specs.Prelude.{◌≡◌, ℕ, ◌↔◌, Bool, List, IsTrue, Result, Ok, Err}
use Rattle.prims_core.specs.declared.meter.Work.{Work}
use Rattle.crypt_core.specs.Crypt.{IsAfterFailedAllocation, crypt}
use Rattle.crypt_core.specs.Refusals.{IsRefused}
use Rattle.crypt_core.specs.Settings.{SettingValue, Spells}
use Rattle.crypt_core.specs.Work.{raised_by, work}
use Rattle.crypt_core.specs.declared.fits.FitFault.{FitFault}
use Rattle.crypt_core.specs.declared.fits.FitFault.TheVariants.{Setting, OutOfMemory}

-- Fits password stored: the stored hash spells a setting, and hashing the password with it reproduces the stored hash
-- to the last byte.
abbrev pub Fits : List ℕ → List ℕ → Type 0
Fits password stored = (kept : SettingValue) × Spells stored kept × (crypt password kept ≡ stored)

-- Compares password stored before after result: comparing the password with the stored hash has this result, and
-- changes the meter's counts from `before` to `after`.
--   a verdict     whether the password's hash, with the setting in `stored`, equals `stored`; counts the work of that
--                 hash
--   Setting       the first rule of a setting that the stored hash breaks; counts nothing
--   OutOfMemory   scrypt, with the stored hash's setting, failed to allocate; counts the allocations before the failure
abbrev pub Compares : List ℕ → List ℕ → Work → Work → Result Bool FitFault → Type 0
Compares password stored before after (Ok verdict) =
    (kept : SettingValue) × Spells stored kept × (IsTrue verdict ↔ (crypt password kept ≡ stored))
    × (after ≡ raised_by before (work password kept))
Compares password stored before after (Err (Setting fault)) = IsRefused stored fault × (after ≡ before)
Compares password stored before after (Err OutOfMemory) =
    (kept : SettingValue) × Spells stored kept × IsAfterFailedAllocation before kept.scheme after
