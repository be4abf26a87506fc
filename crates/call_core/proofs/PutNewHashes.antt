-- The effect of a call that makes a new hash, for the clauses of `new_hash_of` and `put_new_hash` and for the clause
-- `writes` of mkpasswd_new. The proof splits on whether there are three random numbers. With them the hash is made and
-- written as in PutHashes. Without them the call reports the first refusal, or NoRandomNumbers.
--
-- In the patterns on the cases, `inr ..` is a refused password, `inl (_, inr (inl ..))` an unknown method, `inl (_, inr
-- (inr ..))` refused rounds, and `inl (_, inl ..)` a scheme with which the hash is made.
use Rattle.std.proofs.Common.{◌≡◌, ◌≢◌, ◌==◌, ◌⊎◌, ap, nat_lt, refl, ℕ, List, [], ◌∷◌, length, Result, Ok, Err, false, inl, inr, arith}
use Rattle.std.specs.Prelude.{MatchBool, MatchResult, Bool, true}
use Rattle.crypt_core.specs.Crypt.{crypt}
use Rattle.crypt_core.specs.MadeSettings.{salted}
use Rattle.crypt_core.specs.Passwords.{IsPassword}
use Rattle.crypt_core.specs.Settings.{SettingValue}
use Rattle.crypt_core.specs.Work.{cost}
use Rattle.crypt_core.specs.declared.password.PasswordFault.TheVariants.{TooLong, HasNul}
use Rattle.crypt_core.specs.declared.scheme.Scheme.{Scheme}
use Rattle.call_core.specs.Arguments.{IsSchemeMade, TakesNewRounds}
use Rattle.call_core.specs.Hashes.{PutsHash, admission}
use Rattle.call_core.specs.Private.Hashes.{IsPut, MakesHash}
use Rattle.call_core.specs.Reasons.{reason_row}
use Rattle.call_core.specs.Reports.{Leaves, put, refused, token}
use Rattle.call_core.specs.declared.reason.Reason.TheVariants.{NoRandomNumbers, OutOfMemory}
use Rattle.call_core.specs.declared.report.Report.{Report}
use Rattle.call_core.proofs.MadeSchemes.{IsSchemeMade-unique, IsSchemeMade-not_refused}
use Rattle.call_core.proofs.PutHashes.{PutsHash_from_IsPut}
use Rattle.call_core.specs.Hashes.{HashesAnew}
use Rattle.call_core.specs.Private.Hashes.{MakesHashAnew}

-- ---- What the first step makes

-- Without three random numbers the first step makes no hash.
pub MakesHashAnew-no_numbers : (password : List ℕ) (number rounds : ℕ) (numbers : List ℕ) (budget room : ℕ) (scheme : Scheme) (admitted : Result ℕ Report)
    (made : Result (List ℕ × Report) Report) → IsPassword password → IsSchemeMade TakesNewRounds number rounds scheme
    → (length numbers == 3) ≡ false → admitted ≡ admission budget room password (salted scheme (0 ∷ 0 ∷ 0 ∷ []))
    → MatchResult admitted (λ hash_cost. made ≡ Err (refused NoRandomNumbers hash_cost)) (λ refusal. made ≡ Err refusal)
    → MakesHashAnew password number rounds numbers budget room made
MakesHashAnew-no_numbers password number rounds numbers budget room scheme admitted made is makes missing e fails =
    inl (is, inl (scheme, makes, rw missing (rw e at fails)))

-- With three random numbers the first step makes the hash with the setting that they make.
pub MakesHashAnew-numbers : (password : List ℕ) (number rounds : ℕ) (numbers : List ℕ) (budget room : ℕ) (scheme : Scheme)
    (made : Result (List ℕ × Report) Report) → IsPassword password → IsSchemeMade TakesNewRounds number rounds scheme
    → (length numbers == 3) ≡ true → MakesHash password (salted scheme numbers) budget room made
    → MakesHashAnew password number rounds numbers budget room made
MakesHashAnew-numbers password number rounds numbers budget room scheme made is makes drawn hashed = inl (is, inl (scheme, makes, rw drawn hashed))

-- ---- What the call writes

-- Without three random numbers the call reports the refusal and writes the token.
IsPut-no_numbers : (old : List ℕ) (made : Result (List ℕ × Report) Report) (report : Report) (new : List ℕ) (admitted : Result ℕ Report)
    → MatchResult admitted (λ hash_cost. made ≡ Err (refused NoRandomNumbers hash_cost)) (λ refusal. made ≡ Err refusal)
    → IsPut made (token []) old report new
    → MatchResult admitted (λ hash_cost. Leaves (refused NoRandomNumbers hash_cost) (token []) old report new) (λ refusal. Leaves refusal (token []) old report new)
IsPut-no_numbers old made report new (Ok hash_cost) e put = rw e at put
IsPut-no_numbers old made report new (Err refusal) e put = rw e at put

-- Making a new hash and writing it has the effect `HashesAnew`, with three random numbers and without.
IsPut-numbers : (password : List ℕ) (scheme : Scheme) (numbers : List ℕ) (budget : ℕ) (old : List ℕ) (made : Result (List ℕ × Report) Report)
    (report : Report) (new : List ℕ) (three : Bool)
    → MatchBool three
    (MakesHash password (salted scheme numbers) budget (length old) made)
    (MatchResult (admission budget (length old) password (salted scheme (0 ∷ 0 ∷ 0 ∷ [])))
    (λ hash_cost. made ≡ Err (refused NoRandomNumbers hash_cost))
    (λ refusal. made ≡ Err refusal))
    → IsPut made (token []) old report new
    → MatchBool three
    (PutsHash password (salted scheme numbers) budget (token []) old report new)
    (MatchResult (admission budget (length old) password (salted scheme (0 ∷ 0 ∷ 0 ∷ [])))
    (λ hash_cost. Leaves (refused NoRandomNumbers hash_cost) (token []) old report new)
    (λ refusal. Leaves refusal (token []) old report new))
IsPut-numbers password scheme numbers budget old made report new true makes put =
    PutsHash_from_IsPut password (salted scheme numbers) budget (token []) old made report new makes put
IsPut-numbers password scheme numbers budget old made report new false makes put =
    IsPut-no_numbers old made report new (admission budget (length old) password (salted scheme (0 ∷ 0 ∷ 0 ∷ []))) makes put

-- Making a new hash and writing it has the effect `HashesAnew`.
pub HashesAnew_from_IsPut : (password : List ℕ) (number rounds budget : ℕ) (numbers old : List ℕ) (made : Result (List ℕ × Report) Report) (report : Report)
    (new : List ℕ) → MakesHashAnew password number rounds numbers budget (length old) made → IsPut made (token []) old report new
    → HashesAnew password number rounds budget numbers old report new
HashesAnew_from_IsPut password number rounds budget numbers old made report new (inr (fault, is, e)) put = inr (fault, is, rw e at put)
HashesAnew_from_IsPut password number rounds budget numbers old made report new (inl (is, inr (inl (none, e)))) put =
    inl (is, inr (inl (none, rw e at put)))
HashesAnew_from_IsPut password number rounds budget numbers old made report new (inl (is, inr (inr (method, named, never, e)))) put =
    inl (is, inr (inr (method, named, never, rw e at put)))
HashesAnew_from_IsPut password number rounds budget numbers old made report new (inl (is, inl (scheme, makes, made_by))) put =
    inl (is, inl (scheme, makes, IsPut-numbers password scheme numbers budget old made report new (length numbers == 3) made_by put))

pub not_three-false : (n : ℕ) → n ≢ 3 → (n == 3) ≡ false
not_three-false n other = grind arith

-- ---- A hash that nothing refuses

-- A hash that the budget and the capacity allow is made, unless scrypt lacks memory. Then `lacks.0.2` says so.
PutsHash-made : (password : List ℕ) (kept : SettingValue) (budget : ℕ) (lock old : List ℕ) (report : Report) (new : List ℕ)
    → nat_lt budget (cost kept (length password)) ≡ false → nat_lt (length (crypt password kept)) (length old) ≡ true
    → PutsHash password kept budget lock old report new
    → (report.error ≡ 0) ⊎ (report.error ≡ (reason_row OutOfMemory).0)
PutsHash-made password kept budget lock old report new low room puts =
    elim (rw (low, room) at puts) [
      | inl leaves ↦ inl (rw leaves.0 refl)
      | inr lacks ↦ inr (ap (λ (r : Report). r.error) lacks.0.2)
    ]

-- If the password, the method and the rounds are valid, there are three random numbers, and the budget and the capacity
-- allow the new hash, it is written, unless scrypt lacks memory.
pub HashesAnew-made : (password : List ℕ) (number rounds budget : ℕ) (numbers old : List ℕ) (scheme : Scheme) (report : Report) (new : List ℕ)
    → IsSchemeMade TakesNewRounds number rounds scheme → IsPassword password → (length numbers == 3) ≡ true
    → nat_lt budget (cost (salted scheme numbers) (length password)) ≡ false
    → nat_lt (length (crypt password (salted scheme numbers))) (length old) ≡ true
    → HashesAnew password number rounds budget numbers old report new
    → (report.error ≡ 0) ⊎ (report.error ≡ (reason_row OutOfMemory).0)
HashesAnew-made password number rounds budget numbers old scheme report new makes is three low room (inr (TooLong, broken, e)) = absurd (omega (arith, is.0, broken))
HashesAnew-made password number rounds budget numbers old scheme report new makes is three low room (inr (HasNul, broken, e)) = absurd (is.1 broken.1)
HashesAnew-made password number rounds budget numbers old scheme report new makes is three low room (inl (also, inr (inl (none, e)))) = absurd (cc (none, makes.1))
HashesAnew-made password number rounds budget numbers old scheme report new makes is three low room (inl (also, inr (inr (method, named, never, e)))) =
    IsSchemeMade-not_refused number rounds scheme _ makes method named never
HashesAnew-made password number rounds budget numbers old scheme report new makes is three low room (inl (also, inl (other, made, puts))) =
    let same : other ≡ scheme = IsSchemeMade-unique TakesNewRounds TakesNewRounds number rounds other scheme made makes in
    let put = rw (three, same) at puts in
    PutsHash-made password (salted scheme numbers) budget (token []) old report new low room put
