-- The schemes that a method's number and rounds make, and which of them replaces another. The lemmas serve all calls
-- that take a method and rounds: `read_request`, `report_rehash`, `new_hash_of`, `log_in`, `login_need`, `report_audit`
-- and `report_rounds`. No two methods have the same number, so two schemes that a number and rounds make are equal.
use Rattle.std.proofs.Common.{◌≡◌, ℕ, Some, Err, false, inl, inr, refl, subst, arith}
use Rattle.crypt_core.specs.MadeSettings.{TakesRounds}
use Rattle.crypt_core.specs.OutdatedSchemes.{is_outdated_by}
use Rattle.crypt_core.specs.declared.method.Method.{Method}
use Rattle.crypt_core.specs.declared.method.Method.TheVariants as methods
use Rattle.crypt_core.specs.declared.scheme.Scheme.{Scheme}
use Rattle.crypt_core.specs.declared.scheme.Scheme.TheVariants.{Md5crypt, Shacrypt, Scrypt}
use Rattle.crypt_core.specs.declared.scheme.Sha.TheVariants.{Sha256, Sha512}
use Rattle.call_core.specs.Arguments.{IsSchemeMade, IsSchemeReading, OnScheme, TakesNewRounds, chosen_method}
use Rattle.call_core.specs.declared.reason.Reason.{Reason}

-- If reading the scheme fails, and `Fails` holds of the reason, then `OnScheme` holds. Either the method is unknown, or
-- it does not take the rounds.
pub OnScheme-refused : (Takes : Method → ℕ → Type 0) (number rounds : ℕ) (reason : Reason) (Fails : Reason → Type 0) (Then : Scheme → Type 0)
    → IsSchemeReading Takes number rounds (Err reason) → Fails reason → OnScheme Takes number rounds Fails Then
OnScheme-refused Takes number rounds reason Fails Then (inl (kind, none)) fails = inr (inl (none, subst Fails kind fails))
OnScheme-refused Takes number rounds reason Fails Then (inr (kind, (method, named, never))) fails =
    inr (inr (method, named, never, subst Fails kind fails))

-- If a method takes rounds for new hashes, `TakesRounds` holds of them too.
TakesRounds_from_TakesNewRounds : (method : Method) (rounds : ℕ) → TakesNewRounds method rounds → TakesRounds method rounds
TakesRounds_from_TakesNewRounds methods.Scrypt rounds takes = takes
TakesRounds_from_TakesNewRounds method rounds takes = tt

pub IsSchemeMade-TakesRounds : (number rounds : ℕ) (scheme : Scheme) → IsSchemeMade TakesNewRounds number rounds scheme → IsSchemeMade TakesRounds number rounds scheme
IsSchemeMade-TakesRounds number rounds scheme made = (made.0, made.1, TakesRounds_from_TakesNewRounds made.0 rounds made.2, made.3)

-- Two schemes that the same number and rounds make are equal.
pub IsSchemeMade-unique : (Takes Also : Method → ℕ → Type 0) (number rounds : ℕ) (a b : Scheme)
    → IsSchemeMade Takes number rounds a → IsSchemeMade Also number rounds b → a ≡ b
IsSchemeMade-unique Takes Also number rounds a b one two =
    let same : one.0 ≡ two.0 = cc (one.1, two.1) in
    cc (same, one.3, two.3)

-- A number and rounds that make a scheme are not refused.
pub IsSchemeMade-not_refused : (number rounds : ℕ) (scheme : Scheme) (Then : Type 0) → IsSchemeMade TakesNewRounds number rounds scheme
    → (method : Method) → chosen_method number ≡ Some method → ¬ TakesNewRounds method rounds → Then
IsSchemeMade-not_refused number rounds scheme Then makes method named never =
    let same : method ≡ makes.0 = cc (named, makes.1) in
    absurd (never (rw same makes.2))

-- No scheme replaces itself.
pub is_outdated_by-self : (scheme : Scheme) → is_outdated_by scheme scheme ≡ false
is_outdated_by-self Md5crypt = refl
is_outdated_by-self (Shacrypt Sha256 rounds) = grind arith
is_outdated_by-self (Shacrypt Sha512 rounds) = grind arith
is_outdated_by-self (Scrypt params) = grind arith
