-- Which bytes are a password.
use Rattle.std.specs.Prelude.{ℕ, ◌<◌, ◌≤◌, List, [], ◌∷◌, length, Contains}
use Rattle.crypt_core.specs.declared.password.PasswordFault.{PasswordFault}
use Rattle.crypt_core.specs.declared.password.PasswordFault.TheVariants.{TooLong, HasNul}

-- The most bytes of a password.
abbrev pub password_limit : ℕ
password_limit = 1024

-- IsPassword bytes: there are no more bytes than the limit, and none of them is 0.
abbrev pub IsPassword : List ℕ → Type 0
IsPassword bytes = (length bytes ≤ password_limit) × ¬ Contains bytes 0

-- The errors for bytes that are not a password, in the order in which their rules are checked.
abbrev pub password_faults : List PasswordFault
password_faults = TooLong ∷ HasNul ∷ []

-- IsPasswordRefused bytes fault: the bytes are not a password, and this is the error of the first rule that they break.
abbrev pub IsPasswordRefused : List ℕ → PasswordFault → Type 0
IsPasswordRefused bytes TooLong = password_limit < length bytes
IsPasswordRefused bytes HasNul = (length bytes ≤ password_limit) × Contains bytes 0
