-- The clause `fits` of `StoredHash::matches` follows from the comparison of the password's hash with the stored one.
use Rattle.std.proofs.Common.{◌≡◌, ◌∙◌, sym, ap, IsTrue}
use Rattle.std.specs.Bool.{Decides}
use Rattle.std.proofs.lemmas.Slice.Eq.{bytes_eq-Decides}
use Rattle.crypt_core.specs.Crypt.{crypt}
use Rattle.crypt_core.specs.Fits.{Fits}
use Rattle.crypt_core.specs.Settings.{SettingValue}
use Rattle.crypt_core.proofs.OneSetting.{setting_unique}
use Rattle.crypt_core.proofs.stored.StoredHash.matches.Goals as goal

-- A text spells at most one setting, so the hash that was compared is the only one that could equal the text.
pub returns-clause-fits : goal.returns-clause-fits
returns-clause-fits g c =
    let password = c.args.password.now in
    let stored = c.self.inside.text.now in
    let setting : SettingValue = c.self.inside.setting in
    let hashed : c.text.result.now ≡ crypt password setting = c.text.ensures.text ∙ c.in_ok-hashed.ensures.text in
    let same : Decides c.same_bytes.result (c.text.result.now ≡ stored) = rw c.same_bytes.ensures (bytes_eq-Decides c.text.result.now stored) in
    let fitting : IsTrue c.same_bytes.result → Fits password stored = λ equal. (setting, c.self.invariant, sym hashed ∙ same.0 equal) in
    let equal : Fits password stored → IsTrue c.same_bytes.result = λ fits. same.1 (hashed ∙ ap (crypt password) (setting_unique stored setting fits.0 c.self.invariant fits.1) ∙ fits.2) in
    rw (← c.self.view_is) (fitting, equal)
