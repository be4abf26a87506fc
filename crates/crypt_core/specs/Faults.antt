-- The messages of this crate's errors.
use Rattle.std.specs.Prelude.{ℕ, List, codes}
use Rattle.crypt_core.specs.declared.fits.FitFault.{FitFault}
use Rattle.crypt_core.specs.declared.fits.FitFault.TheVariants as fit
use Rattle.crypt_core.specs.declared.hash.HashFault.{HashFault}
use Rattle.crypt_core.specs.declared.hash.HashFault.TheVariants.{OutOfMemory}
use Rattle.crypt_core.specs.declared.password.PasswordFault.{PasswordFault}
use Rattle.crypt_core.specs.declared.password.PasswordFault.TheVariants as password
use Rattle.crypt_core.specs.declared.setting.fault.MakeFault.{MakeFault}
use Rattle.crypt_core.specs.declared.setting.fault.MakeFault.TheVariants.{SaltLength, SaltCharacter, Cost}
use Rattle.crypt_core.specs.declared.setting.fault.SettingFault.{SettingFault}
use Rattle.crypt_core.specs.declared.setting.fault.SettingFault.TheVariants.{TooLong, BadCharacter, UnknownScheme, BadRounds, BadCost, ScryptRange, AboveCeiling, BadSalt}

-- password_fault_text fault: the message that says why bytes are not a password.
abbrev pub password_fault_text : PasswordFault → List ℕ
password_fault_text password.TooLong = codes "password too long"
password_fault_text password.HasNul = codes "password has a zero byte"

-- setting_fault_text fault: the message that says why a string is not a setting.
abbrev pub setting_fault_text : SettingFault → List ℕ
setting_fault_text TooLong = codes "setting too long"
setting_fault_text BadCharacter = codes "bad character"
setting_fault_text UnknownScheme = codes "unknown scheme"
setting_fault_text BadRounds = codes "bad rounds"
setting_fault_text BadCost = codes "bad cost"
setting_fault_text ScryptRange = codes "scrypt range"
setting_fault_text AboveCeiling = codes "above ceiling"
setting_fault_text BadSalt = codes "bad salt"

-- make_fault_text fault: the message that says why a setting can't be made.
abbrev pub make_fault_text : MakeFault → List ℕ
make_fault_text SaltLength = codes "salt length"
make_fault_text SaltCharacter = codes "salt character"
make_fault_text Cost = codes "cost"

-- hash_fault_text fault: the message that says why a password could not be hashed.
abbrev pub hash_fault_text : HashFault → List ℕ
hash_fault_text OutOfMemory = codes "out of memory"

-- fit_fault_text fault: the message that says why a password can't be compared with a stored hash.
abbrev pub fit_fault_text : FitFault → List ℕ
fit_fault_text (fit.Setting fault) = setting_fault_text fault
fit_fault_text fit.OutOfMemory = hash_fault_text OutOfMemory
