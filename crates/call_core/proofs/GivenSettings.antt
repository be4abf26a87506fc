-- The first rule that a method, rounds and a given salt break, for the clause of `given_setting`. If making the setting
-- fails, the rule that it reports is the first (`IsGivenRefused_from_IsMakeRefused`). If making it succeeds but the
-- rounds were clamped, the rule on the rounds is the first (`IsGivenRefused-clamped`). Otherwise no rule is broken
-- (`not_BreaksGiven`). The rules on the salt are the same for any setting and for one of a new hash; the rule on the
-- rounds is compared method by method.
use Rattle.std.proofs.Common.{◌≡◌, ◌≢◌, ◌==◌, ◌∙◌, ℕ, List, Some, false, inl, inr, refl, sym, ap, arith}
use Rattle.crypt_core.specs.MadeSettings.{BreaksMake, IsMakeRefused, TakesRounds, made_rounds, made_scheme}
use Rattle.crypt_core.specs.Policies.{chosen_rounds}
use Rattle.crypt_core.specs.Rounds.{Rounds, clamped}
use Rattle.crypt_core.specs.declared.method.Method.{Method}
use Rattle.crypt_core.specs.declared.method.Method.TheVariants as methods
use Rattle.crypt_core.specs.declared.setting.fault.MakeFault.{MakeFault}
use Rattle.crypt_core.specs.declared.setting.fault.MakeFault.TheVariants.{SaltLength, SaltCharacter, Cost}
use Rattle.call_core.specs.Arguments.{BreaksGiven, IsGivenRefused, TakesNewRounds}
use Rattle.call_core.specs.Private.Settings.{IsClamped}
use Rattle.call_core.proofs.FittedSchemes.{made_rounds-chosen_rounds}

-- For SHA-crypt, `chosen_rounds` returns rounds other than 0 unchanged.
chosen_rounds-nonzero : (rounds : ℕ) → rounds ≢ 0 → chosen_rounds methods.Sha512crypt rounds ≡ rounds
chosen_rounds-nonzero rounds some =
    let none : (rounds == 0) ≡ false = grind (arith, some) in
    rw none refl

-- For rounds other than 0, a made scheme of SHA-crypt has these rounds, clamped.
made_count-nonzero : (rounds : ℕ) → rounds ≢ 0 → (made_rounds (chosen_rounds methods.Sha512crypt rounds)).count ≡ clamped rounds
made_count-nonzero rounds some = ap (λ (made : Rounds). made.count) (made_rounds-chosen_rounds rounds) ∙ ap clamped (chosen_rounds-nonzero rounds some)

-- ---- The rule on the rounds

-- If scrypt takes the rounds, it also takes them after `chosen_rounds` replaced 0 by the recommended ones.
TakesRounds-chosen_rounds : (rounds : ℕ) → TakesRounds methods.Scrypt rounds → TakesRounds methods.Scrypt (chosen_rounds methods.Scrypt rounds)
TakesRounds-chosen_rounds rounds (inl none) = rw none (inr (omega arith, omega arith))
TakesRounds-chosen_rounds rounds (inr (low, high)) =
    let some : (rounds == 0) ≡ false = grind (arith, low) in
    rw some (inr (low, high))

-- Rounds that a method does not take are not taken for new hashes.
not_TakesNewRounds-not_taken : (method : Method) (rounds : ℕ) → ¬ TakesRounds method (chosen_rounds method rounds) → ¬ TakesNewRounds method rounds
not_TakesNewRounds-not_taken methods.Md5crypt rounds never takes = never tt
not_TakesNewRounds-not_taken methods.Sha256crypt rounds never takes = never tt
not_TakesNewRounds-not_taken methods.Sha512crypt rounds never takes = never tt
not_TakesNewRounds-not_taken methods.Scrypt rounds never takes = never (TakesRounds-chosen_rounds rounds takes)

-- Rounds that a method clamps are not taken for new hashes.
not_TakesNewRounds-clamped : (method : Method) (rounds : ℕ) → IsClamped (made_scheme method (chosen_rounds method rounds)) rounds → ¬ TakesNewRounds method rounds
not_TakesNewRounds-clamped methods.Md5crypt rounds is takes = is
not_TakesNewRounds-clamped methods.Sha256crypt rounds (some, other) (inl none) = some none
not_TakesNewRounds-clamped methods.Sha256crypt rounds (some, other) (inr same) = other (made_count-nonzero rounds some ∙ same)
not_TakesNewRounds-clamped methods.Sha512crypt rounds (some, other) (inl none) = some none
not_TakesNewRounds-clamped methods.Sha512crypt rounds (some, other) (inr same) = other (made_count-nonzero rounds some ∙ same)
not_TakesNewRounds-clamped methods.Scrypt rounds is takes = is

-- Rounds that a method takes without clamping them are taken for new hashes (stated with double negations).
not_not_TakesNewRounds : (method : Method) (rounds : ℕ) → ¬ (¬ TakesRounds method (chosen_rounds method rounds))
    → ¬ IsClamped (made_scheme method (chosen_rounds method rounds)) rounds → ¬ (¬ TakesNewRounds method rounds)
not_not_TakesNewRounds methods.Md5crypt rounds taken same never = never tt
not_not_TakesNewRounds methods.Sha256crypt rounds taken same never =
    let some : rounds ≢ 0 = λ none. never (inl none) in
    same (some, λ is. never (inr (sym (made_count-nonzero rounds some) ∙ is)))
not_not_TakesNewRounds methods.Sha512crypt rounds taken same never =
    let some : rounds ≢ 0 = λ none. never (inl none) in
    same (some, λ is. never (inr (sym (made_count-nonzero rounds some) ∙ is)))
not_not_TakesNewRounds methods.Scrypt rounds taken same never = taken (λ made. never (scrypt_given rounds made)) where
  scrypt_given : (rounds : ℕ) → TakesRounds methods.Scrypt (chosen_rounds methods.Scrypt rounds) → TakesRounds methods.Scrypt rounds
  scrypt_given rounds takes = search (arith, takes)

-- ---- The first rule that is broken

-- The rule that making the setting reports is also the first that a new hash's arguments break.
pub IsGivenRefused_from_IsMakeRefused : (method : Method) (rounds : ℕ) (salt : List ℕ) (fault : MakeFault)
    → IsMakeRefused method (chosen_rounds method rounds) (Some salt) fault → IsGivenRefused method rounds salt fault
unfolding IsMakeRefused IsGivenRefused
IsGivenRefused_from_IsMakeRefused method rounds salt fault (inl (is, broken)) = inl (is, broken)
IsGivenRefused_from_IsMakeRefused method rounds salt fault (inr (fits, inl (is, broken))) = inr (fits, inl (is, broken))
IsGivenRefused_from_IsMakeRefused method rounds salt fault (inr (fits, inr (known, inl (is, broken)))) =
    inr (fits, inr (known, inl (is, not_TakesNewRounds-not_taken method rounds broken)))
IsGivenRefused_from_IsMakeRefused method rounds salt fault (inr (fits, inr (known, inr never))) = absurd never.1

-- If making the setting breaks no rule but the rounds were clamped, the first broken rule is the one on the rounds.
pub IsGivenRefused-clamped : (method : Method) (rounds : ℕ) (salt : List ℕ)
    → ((fault : MakeFault) → ¬ BreaksMake method (chosen_rounds method rounds) (Some salt) fault)
    → IsClamped (made_scheme method (chosen_rounds method rounds)) rounds → IsGivenRefused method rounds salt Cost
unfolding IsGivenRefused
IsGivenRefused-clamped method rounds salt none is =
    inr (none SaltLength, inr (none SaltCharacter, inl (refl, not_TakesNewRounds-clamped method rounds is)))

-- If making the setting breaks no rule and the rounds were not clamped, no rule is broken.
pub not_BreaksGiven : (method : Method) (rounds : ℕ) (salt : List ℕ)
    → ((fault : MakeFault) → ¬ BreaksMake method (chosen_rounds method rounds) (Some salt) fault)
    → ¬ IsClamped (made_scheme method (chosen_rounds method rounds)) rounds → (fault : MakeFault) → ¬ BreaksGiven method rounds salt fault
not_BreaksGiven method rounds salt none same SaltLength = none SaltLength
not_BreaksGiven method rounds salt none same SaltCharacter = none SaltCharacter
not_BreaksGiven method rounds salt none same Cost = not_not_TakesNewRounds method rounds (none Cost) same
