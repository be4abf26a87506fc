-- The limit of a policy. It admits a new hash of each password of up to 64 bytes. If it admits a new hash of the
-- password, a login under it makes the dummy hash for a field that it can't check. If it does not, a login makes no
-- hash and lets nobody in.
--
-- The clauses `used` of `report_limit`, `writes` of mkpasswd_new, and `treats_alike` of a login rest on these lemmas,
-- and so does `ForeseesLogins` of an audit. Where `limit_by` is 0, no hash is within the limit, because every hash
-- costs more than 0.
use Rattle.std.proofs.Common.{◌≡◌, ◌≤◌, ◌<◌, ◌+◌, ◌*◌, ◌⊎◌, ℕ, Bool, List, [], ◌∷◌, length, nat_lt, false, true, inl, inr, refl, ap, sym, ◌∙◌, arith}
use Rattle.std.specs.Prelude.{MatchBool, ◌||◌, if◌then◌else◌}
use Rattle.std.specs.Option.{option_map_or}
use Rattle.std.proofs.lemmas.Bool.Decides.{nat_tests}
use Rattle.std.proofs.Math.Nat.{mul-le-mul_right}
use Rattle.prims_core.specs.Work.{no_work}
use Rattle.prims_core.specs.declared.meter.Work.{Work}
use Rattle.crypt_core.specs.Crypt.{IsAfterFailedAllocation}
use Rattle.crypt_core.specs.MadeSettings.{made_scheme, salted}
use Rattle.crypt_core.specs.Methods.{method_row}
use Rattle.crypt_core.specs.Passwords.{password_limit}
use Rattle.crypt_core.specs.Policies.{chosen_rounds}
use Rattle.crypt_core.specs.Rounds.{Rounds}
use Rattle.crypt_core.specs.Schemes.{method_of}
use Rattle.crypt_core.specs.Settings.{SettingValue, Spells, SpellsCost, SpellsRounds}
use Rattle.crypt_core.specs.Work.{cost, cost_by, work}
use Rattle.crypt_core.specs.declared.method.Method.{Method}
use Rattle.crypt_core.specs.declared.method.Method.TheVariants as methods
use Rattle.crypt_core.specs.declared.scheme.Scheme.{Scheme}
use Rattle.crypt_core.specs.declared.scheme.Scheme.TheVariants.{Md5crypt, Shacrypt, Scrypt}
use Rattle.crypt_core.specs.declared.scheme.Sha.TheVariants.{Sha256, Sha512}
use Rattle.crypt_core.proofs.MadeSaltLemmas.{length-made_salt}
use Rattle.crypt_core.proofs.WorkBounds.{cost_by-le-at_64}
use Rattle.call_core.specs.Arguments.{IsSchemeMade, TakesNewRounds}
use Rattle.call_core.specs.Checks.{Opens}
use Rattle.call_core.specs.Limits.{allowance, limit_by, limit_bytes, limit_in, method_limit, new_cost, policy_limit, takes_new_rounds}
use Rattle.call_core.specs.declared.limit.Limit.{Limit}
use Rattle.call_core.specs.declared.limit.Limit.TheVariants.{Policy, Bytes}
use Rattle.call_core.specs.Logins.{IsHashWork, IsLoginWork, dummy}
use Rattle.call_core.proofs.MadeSchemes.{IsSchemeMade-unique}

-- ---- The limit of a call

-- `takes_new_rounds` is true if the method takes the rounds for new hashes.
takes_new_rounds-true : (method : Method) (rounds : ℕ) → TakesNewRounds method rounds → takes_new_rounds method rounds ≡ true
takes_new_rounds-true methods.Md5crypt rounds takes = refl
takes_new_rounds-true methods.Sha256crypt rounds takes = grind (arith, nat_tests, takes)
takes_new_rounds-true methods.Sha512crypt rounds takes = grind (arith, nat_tests, takes)
takes_new_rounds-true methods.Scrypt rounds takes = grind (arith, nat_tests, takes)

-- The limit for a method's number and rounds is the limit for the scheme that they make.
pub limit_in-allowance : (number rounds : ℕ) (scheme : Scheme) (limit : Limit) (len : ℕ) → IsSchemeMade TakesNewRounds number rounds scheme
    → limit_in number rounds limit len ≡ allowance limit scheme len
limit_in-allowance number rounds scheme (Bytes budget) len makes = refl
limit_in-allowance number rounds scheme Policy len (method, named, takes, is) =
    let found : limit_in number rounds Policy len ≡ method_limit method rounds len =
    ap (λ made. option_map_or (λ (m : Method). method_limit m rounds len) made 0) named in
    let own : method_limit method rounds len ≡ limit_by (made_scheme method (chosen_rounds method rounds)) len =
    ap (λ (takes : Bool). if takes then limit_by (made_scheme method (chosen_rounds method rounds)) len else 0) (takes_new_rounds-true method rounds takes) in
    found ∙ own ∙ ap (λ (s : Scheme). limit_by s len) (sym is)

-- If a new hash of a password is within the policy's limit, the limit for this password is the policy's.
pub limit_by-policy_limit : (scheme : Scheme) (len limit : ℕ) → limit ≡ limit_by scheme len → len ≤ password_limit → new_cost scheme len ≤ policy_limit scheme
    → limit ≡ policy_limit scheme
limit_by-policy_limit scheme len limit is short within =
    let few : nat_lt password_limit len ≡ false = grind (arith, short) in
    let below : nat_lt (policy_limit scheme) (new_cost scheme len) ≡ false = grind (arith, within) in
    rw (few, below) at is

-- If a new hash of a password is within a limit, the policy's or a budget, the limit for this password is that limit.
pub limit_in-limit_bytes : (number rounds : ℕ) (scheme : Scheme) (limit : Limit) (len : ℕ) → IsSchemeMade TakesNewRounds number rounds scheme
    → len ≤ password_limit → new_cost scheme len ≤ limit_bytes limit scheme → limit_in number rounds limit len ≡ limit_bytes limit scheme
limit_in-limit_bytes number rounds scheme (Bytes budget) len makes short within = refl
limit_in-limit_bytes number rounds scheme Policy len makes short within =
    limit_by-policy_limit scheme len (limit_in number rounds Policy len) (limit_in-allowance number rounds scheme Policy len makes) short within

-- ---- The limit admits new hashes

-- A new hash of a password of up to 64 bytes costs no more than one of 64 bytes.
new_cost-le-64 : (scheme : Scheme) (len : ℕ) → len ≤ 64 → new_cost scheme len ≤ new_cost scheme 64
new_cost-le-64 scheme len short = cost_by-le-at_64 scheme len (method_row (method_of scheme)).made_salt_length short

-- The policy's limit admits a new hash of the empty password, since it admits one of a password of 64 bytes.
pub new_cost-empty-le : (scheme : Scheme) → new_cost scheme 0 ≤ policy_limit scheme
new_cost-empty-le scheme =
    let less = new_cost-le-64 scheme 0 (omega arith) in
    grind (arith, less)

-- A new hash costs the same with any salt.
pub cost-salted : (scheme : Scheme) (numbers : List ℕ) (len : ℕ) → cost (salted scheme numbers) len ≡ new_cost scheme len
cost-salted scheme numbers len = ap (cost_by scheme len) (length-made_salt numbers (method_row (method_of scheme)).made_salt_length)

-- If the policy's limit admits a new hash of a password, the dummy hash is made, unless scrypt lacks memory.
pub dummy_work-policy_limit : (password : List ℕ) (scheme : Scheme) (limit : ℕ) (done : Work) → limit ≡ policy_limit scheme
    → new_cost scheme (length password) ≤ policy_limit scheme → IsHashWork password (dummy scheme) limit done
    → (done ≡ work password (dummy scheme)) ⊎ IsAfterFailedAllocation no_work scheme done
dummy_work-policy_limit password scheme limit done is within hashed =
    let below : nat_lt limit (new_cost scheme (length password)) ≡ false = grind (arith, is, within) in
    let test : nat_lt limit (cost (dummy scheme) (length password)) ≡ false =
    ap (nat_lt limit) (cost-salted scheme (0 ∷ 0 ∷ 0 ∷ []) (length password)) ∙ below in
    rw test at hashed

-- If a new hash of a password is above the policy's limit, the limit for this password is 0.
pub limit_by-zero : (scheme : Scheme) (len limit : ℕ) → limit ≡ limit_by scheme len → policy_limit scheme < new_cost scheme len → limit ≡ 0
limit_by-zero scheme len limit is above =
    let test : nat_lt (policy_limit scheme) (new_cost scheme len) ≡ true = grind (arith, above) in
    go (nat_lt password_limit len) (rw test at is)
  where
    go : (long : Bool) → limit ≡ (if long || true then 0 else policy_limit scheme) → limit ≡ 0
    go true e = e
    go false e = e

-- ---- A limit of 0 admits no hash

-- A count that is positive in both cases of a test is positive.
count-positive : (written : Bool) (count : ℕ) (Written Unwritten : Type 0) → (Written → 0 < count) → (Unwritten → 0 < count)
    → MatchBool written Written Unwritten → 0 < count
count-positive true count Written Unwritten one other is = one is
count-positive false count Written Unwritten one other is = other is

-- The rounds of SHA-crypt are positive, whether or not the setting spells them.
SpellsRounds-positive : (rounds : Rounds) (part after : List ℕ) → SpellsRounds rounds part after → 0 < rounds.count
SpellsRounds-positive rounds part after spells =
    count-positive rounds.is_written rounds.count _ _ (λ is. omega (arith, is.3)) (λ is. omega (arith, is.1)) spells

-- If `count` and `digest` are positive, so is each number that is at least their product.
product-positive : (count digest bytes : ℕ) → 0 < count → 0 < digest → count * digest ≤ bytes → 0 < bytes
product-positive count digest bytes some long most =
    let times : 1 * digest ≤ count * digest = mul-le-mul_right digest some in
    omega (arith, times, most)

SpellsCost-positive : (scheme : Scheme) (part after : List ℕ) (len salt : ℕ) → SpellsCost scheme part after → 0 < cost_by scheme len salt
SpellsCost-positive Md5crypt part after len salt spells = omega arith
SpellsCost-positive (Shacrypt Sha256 rounds) part after len salt spells =
    product-positive rounds.count (32 + len) _ (SpellsRounds-positive rounds part after spells) (omega arith) (omega arith)
SpellsCost-positive (Shacrypt Sha512 rounds) part after len salt spells =
    product-positive rounds.count (64 + len) _ (SpellsRounds-positive rounds part after spells) (omega arith) (omega arith)
SpellsCost-positive (Scrypt params) part after len salt spells = omega arith

-- Every setting that a text spells has a positive cost.
Spells-cost_positive : (text : List ℕ) (kept : SettingValue) (len : ℕ) → Spells text kept → 0 < cost kept len
Spells-cost_positive text kept len spells = SpellsCost-positive kept.scheme spells.scheme.0 _ len (length kept.salt) spells.scheme.2

-- A hash whose cost is positive is not made within a limit of 0, so there is no work.
no_work-zero_limit : (password : List ℕ) (kept : SettingValue) (done : Work) → 0 < cost kept (length password) → IsHashWork password kept 0 done → done ≡ no_work
no_work-zero_limit password kept done some hashed =
    let test : nat_lt 0 (cost kept (length password)) ≡ true = grind (arith, some) in
    rw test at hashed

-- A login within a limit of 0 does no work, if a new hash of the password is above the policy's limit.
pub IsLoginWork-zero_limit : (password field : List ℕ) (number rounds : ℕ) (scheme : Scheme) (done : Work)
    → IsSchemeMade TakesNewRounds number rounds scheme → policy_limit scheme < new_cost scheme (length password)
    → IsLoginWork password field number rounds 0 done → done ≡ no_work
IsLoginWork-zero_limit password field number rounds scheme done makes above (inl none) = none
IsLoginWork-zero_limit password field number rounds scheme done makes above (inr (kept, inl spells, hashed, _)) =
    no_work-zero_limit password kept done (Spells-cost_positive field kept (length password) spells) hashed
IsLoginWork-zero_limit password field number rounds scheme done makes above (inr (kept, inr (other, also, is), hashed, _)) =
    let one : other ≡ scheme = IsSchemeMade-unique TakesNewRounds TakesNewRounds number rounds other scheme also makes in
    let same_cost : cost kept (length password) ≡ new_cost scheme (length password) =
    ap (λ (own : SettingValue). cost own (length password)) is ∙ cost-salted other (0 ∷ 0 ∷ 0 ∷ []) (length password)
    ∙ ap (λ (own : Scheme). new_cost own (length password)) one in
    no_work-zero_limit password kept done (omega (arith, same_cost, above)) hashed

-- No password opens a stored hash within a limit of 0: the stored hash spells a setting (`opens.1.1`), whose cost is
-- positive, but it would be at most the limit (`opens.1.3`).
pub not_Opens-zero_limit : (password stored : List ℕ) → Opens password stored 0 → ⊥
not_Opens-zero_limit password stored opens =
    let some = Spells-cost_positive stored opens.1.0 (length password) opens.1.1 in
    absurd (omega (arith, some, opens.1.3))
