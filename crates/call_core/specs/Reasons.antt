-- The reasons why a call did not do what its name says, each with a number and a message.
use Rattle.std.specs.Prelude.{◌==◌, ℕ, List, [], ◌∷◌, Option, codes, find}
use Rattle.crypt_core.specs.Faults.{make_fault_text, password_fault_text, setting_fault_text}
use Rattle.crypt_core.specs.declared.password.PasswordFault.{PasswordFault}
use Rattle.crypt_core.specs.declared.password.PasswordFault.TheVariants as password
use Rattle.crypt_core.specs.declared.setting.fault.MakeFault.{MakeFault}
use Rattle.crypt_core.specs.declared.setting.fault.MakeFault.TheVariants as making
use Rattle.crypt_core.specs.declared.setting.fault.SettingFault.{SettingFault}
use Rattle.crypt_core.specs.declared.setting.fault.SettingFault.TheVariants as setting
use Rattle.call_core.specs.declared.reason.Reason.{Reason}
use Rattle.call_core.specs.declared.reason.Reason.TheVariants.{PasswordTooLong, PasswordZeroByte, SettingTooLong, BadCharacter, UnknownScheme, BadRounds, BadCost, ScryptRange, AboveCeiling, BadSalt, UnknownMethod, SaltLength, SaltCharacter, Rounds, Locked, NoHash, NoScheme, OverBudget, TooFewBytes, NoRandomNumbers, OutOfMemory, WrongPassword, Dead}

-- reason_row reason: the number of the reason, which is never 0, and its message.
abbrev pub reason_row : Reason → ℕ × List ℕ
reason_row PasswordTooLong = (1, password_fault_text password.TooLong)
reason_row PasswordZeroByte = (2, password_fault_text password.HasNul)
reason_row SettingTooLong = (3, setting_fault_text setting.TooLong)
reason_row BadCharacter = (4, setting_fault_text setting.BadCharacter)
reason_row UnknownScheme = (5, setting_fault_text setting.UnknownScheme)
reason_row BadRounds = (6, setting_fault_text setting.BadRounds)
reason_row BadCost = (7, setting_fault_text setting.BadCost)
reason_row ScryptRange = (8, setting_fault_text setting.ScryptRange)
reason_row AboveCeiling = (9, setting_fault_text setting.AboveCeiling)
reason_row BadSalt = (10, setting_fault_text setting.BadSalt)
reason_row UnknownMethod = (11, codes "unknown method")
reason_row SaltLength = (12, make_fault_text making.SaltLength)
reason_row SaltCharacter = (13, make_fault_text making.SaltCharacter)
reason_row Rounds = (14, codes "rounds out of range")
reason_row Locked = (15, codes "locked")
reason_row NoHash = (16, codes "no hash")
reason_row NoScheme = (17, codes "no scheme")
reason_row OverBudget = (18, codes "over budget")
reason_row TooFewBytes = (19, codes "too few bytes")
reason_row NoRandomNumbers = (20, codes "no random numbers")
reason_row OutOfMemory = (21, codes "out of memory")
reason_row WrongPassword = (22, codes "wrong password")
reason_row Dead = (23, codes "dead")

-- The reasons, in the order of their numbers.
abbrev pub reasons : List Reason
reasons =
    PasswordTooLong ∷ PasswordZeroByte ∷ SettingTooLong ∷ BadCharacter ∷ UnknownScheme ∷ BadRounds ∷ BadCost ∷ ScryptRange ∷ AboveCeiling
    ∷ BadSalt ∷ UnknownMethod ∷ SaltLength ∷ SaltCharacter ∷ Rounds ∷ Locked ∷ NoHash ∷ NoScheme ∷ OverBudget ∷ TooFewBytes
    ∷ NoRandomNumbers ∷ OutOfMemory ∷ WrongPassword ∷ Dead ∷ []

-- reason_numbered number: the reason with this number, if there is one.
abbrev pub reason_numbered : ℕ → Option Reason
reason_numbered number = find (λ reason. number == (reason_row reason).0) reasons

-- password_reason fault: the reason for a refused password.
abbrev pub password_reason : PasswordFault → Reason
password_reason password.TooLong = PasswordTooLong
password_reason password.HasNul = PasswordZeroByte

-- setting_reason fault: the reason for a refused setting.
abbrev pub setting_reason : SettingFault → Reason
setting_reason setting.TooLong = SettingTooLong
setting_reason setting.BadCharacter = BadCharacter
setting_reason setting.UnknownScheme = UnknownScheme
setting_reason setting.BadRounds = BadRounds
setting_reason setting.BadCost = BadCost
setting_reason setting.ScryptRange = ScryptRange
setting_reason setting.AboveCeiling = AboveCeiling
setting_reason setting.BadSalt = BadSalt

-- make_reason fault: the reason why a method, rounds and a given salt make no setting.
abbrev pub make_reason : MakeFault → Reason
make_reason making.SaltLength = SaltLength
make_reason making.SaltCharacter = SaltCharacter
make_reason making.Cost = Rounds
