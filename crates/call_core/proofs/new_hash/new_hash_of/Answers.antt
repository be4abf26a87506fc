-- The clauses of `new_hash_of`, with three random numbers and without, by the lemmas of PutNewHashes. The new hash is
-- not outdated, because its scheme is the one that the method and the rounds make, and no scheme replaces itself.
use Rattle.std.proofs.Common.{◌≡◌, ◌==◌, ℕ, List, [], ◌∷◌, length, false, true, arith, inl, refl, rules, Ok, Err}
use Rattle.std.specs.Prelude.{slice_index}
use Rattle.std.proofs.lemmas.Grind.{common_steps}
use Rattle.crypt_core.specs.MadeSettings.{salted}
use Rattle.std.proofs.lemmas.Result.{IfOk-weaker}
use Rattle.call_core.proofs.PutNewHashes.{not_three-false, MakesHashAnew-numbers, MakesHashAnew-no_numbers}
use Rattle.call_core.proofs.MadeSchemes.{is_outdated_by-self, IsSchemeMade-TakesRounds}
use Rattle.call_core.proofs.new_hash.new_hash_of.Goals as goal

-- A list of length 3 consists of its items 0, 1 and 2.
length-three : (numbers : List ℕ) → length numbers ≡ 3 → numbers ≡ slice_index numbers 0 ∷ slice_index numbers 1 ∷ slice_index numbers 2 ∷ []
length-three [] few = absurd (omega (arith, few))
length-three (a ∷ []) few = absurd (omega (arith, few))
length-three (a ∷ b ∷ []) few = absurd (omega (arith, few))
length-three (a ∷ b ∷ d ∷ []) is = refl
length-three (a ∷ b ∷ d ∷ e ∷ rest) many = absurd (omega (arith, many))

pub returns-then-numbers-eq3-clause-opens : goal.returns-then-numbers-eq3-clause-opens
returns-then-numbers-eq3-clause-opens g c =
    let password = c.in_ok-request.ensures.password in
    IfOk-weaker c.hash_within.result _ _ (λ made is. (password.1, (c.salted-setting.result, is.0, is.1, is.2)))
    (rw (password.0, c.in_ok-request.ensures.limit) at c.hash_within.ensures.spells)

pub returns-then-numbers-eq3-clause-current : goal.returns-then-numbers-eq3-clause-current
returns-then-numbers-eq3-clause-current g c =
    let scheme = (c.in_ok-request.request).scheme in
    let same : (c.salted-setting.result).scheme ≡ scheme = rw c.salted-setting.ensures refl in
    let makes = IsSchemeMade-TakesRounds c.args.method c.args.rounds scheme c.in_ok-request.ensures.scheme in
    IfOk-weaker c.hash_within.result _ _
    (λ made is. inl (c.salted-setting.result, is.0, inl (scheme, makes, rw (same, is_outdated_by-self scheme) refl)))
    c.hash_within.ensures.spells

pub returns-in_err-hash_cost-clause-makes : goal.returns-in_err-hash_cost-clause-makes
returns-in_err-hash_cost-clause-makes g c =
    let missing : (length c.args.numbers.now == 3) ≡ false = not_three-false (length c.args.numbers.now) c.if-numbers-eq3.false in
    let password = c.in_ok-request.ensures.password in
    rw (← c.in_ok-request.ensures.limit) (MakesHashAnew-no_numbers c.args.password.now c.args.method c.args.rounds c.args.numbers.now (c.in_ok-request.request).limit c.args.room (c.in_ok-request.request).scheme
    (Err c.in_err-hash_cost.field-0.0) _ password.1 c.in_ok-request.ensures.scheme missing
    (rw (c.salted-setting-2.ensures, password.0) at c.in_err-hash_cost.ensures) (search rules))

pub returns-clause-makes : goal.returns-clause-makes
returns-clause-makes g c =
    let missing : (length c.args.numbers.now == 3) ≡ false = not_three-false (length c.args.numbers.now) c.if-numbers-eq3.false in
    let password = c.in_ok-request.ensures.password in
    rw (← c.in_ok-request.ensures.limit) (MakesHashAnew-no_numbers c.args.password.now c.args.method c.args.rounds c.args.numbers.now (c.in_ok-request.request).limit c.args.room (c.in_ok-request.request).scheme
    (Ok c.in_ok-hash_cost.hash_cost) _ password.1 c.in_ok-request.ensures.scheme missing
    (rw (c.salted-setting-2.ensures, password.0) at c.in_ok-hash_cost.ensures) (search rules))

pub returns-then-numbers-eq3-clause-makes : goal.returns-then-numbers-eq3-clause-makes
returns-then-numbers-eq3-clause-makes g c =
    let numbers = c.args.numbers.now in
    let is_three : length numbers ≡ 3 = c.if-numbers-eq3.true in
    let drawn : (length numbers == 3) ≡ true = grind (arith, is_three) in
    let password = c.in_ok-request.ensures.password in
    let scheme = (c.in_ok-request.request).scheme in
    let setting : c.salted-setting.result ≡ salted scheme numbers = grind (arith, common_steps, length-three numbers is_three) in
    rw (← c.in_ok-request.ensures.limit) (MakesHashAnew-numbers c.args.password.now c.args.method c.args.rounds numbers (c.in_ok-request.request).limit
    c.args.room scheme c.hash_within.result password.1 c.in_ok-request.ensures.scheme drawn
    (rw (password.0, setting) at c.hash_within.ensures.makes))

pub returns-then-numbers-eq3-clause-enough : goal.returns-then-numbers-eq3-clause-enough
returns-then-numbers-eq3-clause-enough g c = λ enough.
    let scheme = (c.in_ok-request.request).scheme in
    let same : (c.salted-setting.result).scheme ≡ scheme = rw c.salted-setting.ensures refl in
    c.hash_within.ensures.enough (λ low. rw same (enough scheme c.in_ok-request.ensures.scheme))
