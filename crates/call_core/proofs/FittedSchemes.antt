-- The rounds that mkpasswd_rounds reports make the fitted scheme again, for the clause `fitted` of `report_rounds`. The
-- proof goes method by method. SHA-crypt does not change rounds that are in its range, and scrypt's parameters give
-- back the rounds that made them. GivenSettings uses `made_rounds-chosen_rounds` too.
use Rattle.std.proofs.Common.{◌≡◌, ◌==◌, ◌<◌, ◌≤◌, ◌∙◌, ℕ, Bool, Some, None, true, false, nat_le, if◌then◌else◌, inl, inr, refl, ap, sym, arith}
use Rattle.crypt_core.specs.MadeSettings.{made_params, made_rounds, made_scheme, rounds_of}
use Rattle.crypt_core.specs.Policies.{chosen_rounds, fewer_rounds, fitted, new_cost, recommended_rounds}
use Rattle.crypt_core.specs.Rounds.{clamped}
use Rattle.crypt_core.specs.declared.method.Method.TheVariants as methods
use Rattle.crypt_core.specs.declared.scheme.Scheme.{Scheme}
use Rattle.crypt_core.specs.declared.scheme.Scheme.TheVariants.{Shacrypt, Scrypt}
use Rattle.crypt_core.specs.declared.scheme.Sha.{Sha}
use Rattle.crypt_core.specs.declared.scheme.Sha.TheVariants.{Sha256, Sha512}
use Rattle.call_core.specs.Arguments.{IsSchemeMade, TakesNewRounds}

-- ---- SHA-crypt

-- Rounds that are in SHA-crypt's range are not changed, and are written in the setting.
made_rounds-clamped : (n : ℕ) → made_rounds (chosen_rounds methods.Sha512crypt (clamped n)) ≡ record { count = clamped n; is_written = true }
made_rounds-clamped n = go (clamped n) (omega arith) (omega arith) where
  go : (count : ℕ) → 0 < count → clamped count ≡ count → made_rounds (chosen_rounds methods.Sha512crypt count) ≡ record { count = count; is_written = true }
  go count some same =
      let none : (count == 0) ≡ false = grind (arith, some) in
      rw (none, none, same) refl

-- The rounds of a new hash are the chosen ones, clamped, and are written in the setting.
pub made_rounds-chosen_rounds : (rounds : ℕ) → made_rounds (chosen_rounds methods.Sha512crypt rounds)
    ≡ record { count = clamped (chosen_rounds methods.Sha512crypt rounds); is_written = true }
made_rounds-chosen_rounds rounds = go (rounds == 0) refl where
  go : (default : Bool) → (rounds == 0) ≡ default → made_rounds (if default then recommended_rounds methods.Sha512crypt else rounds)
      ≡ record { count = clamped (if default then recommended_rounds methods.Sha512crypt else rounds); is_written = true }
  go true e = refl
  go false e = rw e refl

-- ---- scrypt

-- For rounds from 6 to 11, scrypt's parameters give back rounds that make the same parameters.
made_scheme-made_params : (rounds : ℕ) → 6 ≤ rounds → rounds ≤ 11
    → made_scheme methods.Scrypt (chosen_rounds methods.Scrypt (rounds_of (Scrypt (made_params rounds)))) ≡ Scrypt (made_params rounds)
made_scheme-made_params rounds low high =
    let some : (rounds == 0) ≡ false = grind (arith, low) in
    let same : rounds_of (Scrypt (made_params rounds)) ≡ rounds = rw some (omega arith) in
    rw (same, some, some) refl

-- ---- Each scheme

-- If a method's number and rounds make a scheme, so do the number and the rounds that the scheme has (`rounds_of`).
pub IsSchemeMade-rounds_of : (number rounds : ℕ) (scheme : Scheme) → IsSchemeMade TakesNewRounds number rounds scheme
    → IsSchemeMade TakesNewRounds number (rounds_of scheme) scheme
IsSchemeMade-rounds_of number rounds scheme (methods.Md5crypt, named, takes, is) = rw is (methods.Md5crypt, named, tt, refl)
IsSchemeMade-rounds_of number rounds scheme (methods.Sha256crypt, named, takes, is) =
    let made : scheme ≡ Shacrypt Sha256 (record { count = clamped (chosen_rounds methods.Sha512crypt rounds); is_written = true }) =
    is ∙ ap (Shacrypt Sha256) (made_rounds-chosen_rounds rounds) in
    rw made (methods.Sha256crypt, named, inr (omega arith), sym (ap (Shacrypt Sha256) (made_rounds-clamped (chosen_rounds methods.Sha512crypt rounds))))
IsSchemeMade-rounds_of number rounds scheme (methods.Sha512crypt, named, takes, is) =
    let made : scheme ≡ Shacrypt Sha512 (record { count = clamped (chosen_rounds methods.Sha512crypt rounds); is_written = true }) =
    is ∙ ap (Shacrypt Sha512) (made_rounds-chosen_rounds rounds) in
    rw made (methods.Sha512crypt, named, inr (omega arith), sym (ap (Shacrypt Sha512) (made_rounds-clamped (chosen_rounds methods.Sha512crypt rounds))))
IsSchemeMade-rounds_of number rounds scheme (methods.Scrypt, named, inl none, is) =
    let made : scheme ≡ Scrypt (made_params 7) = rw none at is in
    rw made (methods.Scrypt, named, inr (omega arith, omega arith), sym (made_scheme-made_params 7 (omega arith) (omega arith)))
IsSchemeMade-rounds_of number rounds scheme (methods.Scrypt, named, inr (low, high), is) =
    let some : (rounds == 0) ≡ false = grind (arith, low) in
    let made : scheme ≡ Scrypt (made_params rounds) = rw some at is in
    let same : rounds_of (Scrypt (made_params rounds)) ≡ rounds = rw some (omega arith) in
    rw (made, same) (methods.Scrypt, named, inr (low, high), rw (some, some) refl)

-- If `fewer_rounds` finds a scheme, it is the one with the rounds that it tried.
Some-within-unique : (sha : Sha) (n : ℕ) (within : Bool) (own : Scheme)
    → (if within then Some (Shacrypt sha (record { count = clamped n; is_written = true })) else None) ≡ Some own
    → Shacrypt sha (record { count = clamped n; is_written = true }) ≡ own
Some-within-unique sha n true own e = cc e
Some-within-unique sha n false own e = absurd (cc e)

-- If `fewer_rounds` finds a scheme, the method's number and the rounds that this scheme has (`rounds_of`) make it.
IsSchemeMade-fewer_rounds : (number rounds limit len : ℕ) (scheme own : Scheme) → IsSchemeMade TakesNewRounds number rounds scheme
    → fewer_rounds scheme limit len ≡ Some own → IsSchemeMade TakesNewRounds number (rounds_of own) own
IsSchemeMade-fewer_rounds number rounds limit len scheme own (methods.Md5crypt, named, takes, is) e = absurd (cc (rw is at e))
IsSchemeMade-fewer_rounds number rounds limit len scheme own (methods.Scrypt, named, takes, is) e = absurd (cc (rw is at e))
IsSchemeMade-fewer_rounds number rounds limit len scheme own (methods.Sha256crypt, named, takes, is) e =
    let same = Some-within-unique Sha256 _ _ own (rw is at e) in
    rw (← same) (methods.Sha256crypt, named, inr (omega arith), sym (ap (Shacrypt Sha256) (made_rounds-clamped _)))
IsSchemeMade-fewer_rounds number rounds limit len scheme own (methods.Sha512crypt, named, takes, is) e =
    let same = Some-within-unique Sha512 _ _ own (rw is at e) in
    rw (← same) (methods.Sha512crypt, named, inr (omega arith), sym (ap (Shacrypt Sha512) (made_rounds-clamped _)))

-- The method's number and the rounds that a fitted scheme has (`rounds_of`) make this scheme. It is the policy's own
-- scheme, or the one that `fewer_rounds` finds.
pub IsSchemeMade-fitted : (number rounds limit len : ℕ) (scheme own : Scheme) → IsSchemeMade TakesNewRounds number rounds scheme
    → fitted scheme limit len ≡ Some own → IsSchemeMade TakesNewRounds number (rounds_of own) own
IsSchemeMade-fitted number rounds limit len scheme own makes = go (nat_le (new_cost scheme len) limit) where
  go : (within : Bool) → (if within then Some scheme else fewer_rounds scheme limit len) ≡ Some own
      → IsSchemeMade TakesNewRounds number (rounds_of own) own
  go true e =
      let same : scheme ≡ own = cc e in
      rw (← same) (IsSchemeMade-rounds_of number rounds scheme makes)
  go false e = IsSchemeMade-fewer_rounds number rounds limit len scheme own makes e
