-- The hash that a call made is the one that it writes to the caller's bytes, for the clauses `hashes` and `opens` of
-- `put_hash` and `put_new_hash`. The first step of a call makes a hash or refuses (`MakesHash`), and the second step
-- writes it (`IsPut`). The lemmas combine the two steps, case by case. A hash that fits is written whole, so what holds
-- of the hash holds of the first `length` bytes of `out`.
use Rattle.std.proofs.Common.{◌≡◌, ◌⊎◌, ◌<◌, ℕ, List, [], ◌∷◌, length, take, Result, Ok, Err, inl, inr, refl, subst, sym, arith}
use Rattle.std.proofs.Math.Seq.{take-append_seam}
use Rattle.std.proofs.lemmas.List.{take_all}
use Rattle.std.specs.Prelude.{IfOk, MatchResult}
use Rattle.prims_core.specs.declared.meter.Work.{Work}
use Rattle.crypt_core.specs.Crypt.{crypt}
use Rattle.crypt_core.specs.Settings.{SettingValue}
use Rattle.crypt_core.specs.Work.{work}
use Rattle.call_core.specs.Hashes.{Hashes, PutsHash, admission}
use Rattle.call_core.specs.Private.Hashes.{IsPut, IsReported, MakesHash, MakesHashOf}
use Rattle.call_core.specs.Reports.{LacksMemory, Leaves, put, succeeded, token}
use Rattle.call_core.specs.declared.report.Report.{Report}

-- Making a hash and writing it has the effect `PutsHash` in both cases of `admission`: a cost, or a refusal.
IsPut-admission : (password text : List ℕ) (kept : SettingValue) (lock old : List ℕ) (made : Result (List ℕ × Report) Report) (report : Report) (new : List ℕ)
    (admitted : Result ℕ Report)
    → MatchResult admitted
    (λ hash_cost. (made ≡ Ok (text, succeeded (length text) hash_cost (work password kept)))
    ⊎ ((reported : Report) × (made ≡ Err reported) × LacksMemory kept hash_cost reported))
    (λ refusal. made ≡ Err refusal)
    → IsPut made lock old report new
    → MatchResult admitted
    (λ hash_cost. Leaves (succeeded (length text) hash_cost (work password kept)) text old report new
    ⊎ (LacksMemory kept hash_cost report × Leaves report lock old report new))
    (λ refusal. Leaves refusal lock old report new)
IsPut-admission password text kept lock old made report new (Ok hash_cost) (inl e) put = inl (rw e at put)
IsPut-admission password text kept lock old made report new (Ok hash_cost) (inr (reported, e, lacks)) put =
    let left = rw e at put in
    inr (rw left.0 lacks, (refl, left.1))
IsPut-admission password text kept lock old made report new (Err refusal) e put = rw e at put

-- Making a hash with a setting and writing it has the effect `PutsHash`.
pub PutsHash_from_IsPut : (password : List ℕ) (kept : SettingValue) (budget : ℕ) (lock old : List ℕ) (made : Result (List ℕ × Report) Report) (report : Report) (new : List ℕ)
    → MakesHash password kept budget (length old) made → IsPut made lock old report new → PutsHash password kept budget lock old report new
PutsHash_from_IsPut password kept budget lock old made report new makes put =
    IsPut-admission password (crypt password kept) kept lock old made report new (admission budget (length old) password kept) makes put

-- Making a hash with the setting in a text and writing it has the effect `Hashes`, also if an argument is refused.
pub Hashes_from_IsPut : (password text : List ℕ) (budget : ℕ) (old : List ℕ) (made : Result (List ℕ × Report) Report) (report : Report) (new : List ℕ)
    → MakesHashOf password text budget (length old) made → IsPut made (token text) old report new → Hashes password text budget old report new
Hashes_from_IsPut password text budget old made report new (inr (fault, is, e)) put = inr (fault, is, rw e at put)
Hashes_from_IsPut password text budget old made report new (inl (is, inr (fault, broken, e))) put = inl (is, inr (fault, broken, rw e at put))
Hashes_from_IsPut password text budget old made report new (inl (is, inl (kept, spells, makes))) put =
    inl (is, inl (kept, spells, PutsHash_from_IsPut password kept budget (token text) old made report new makes put))

-- `put` writes the whole text if it is shorter than `old`.
take-put : (text old : List ℕ) → length text < length old → take (length text) (put text old) ≡ text
take-put text [] room = absurd (omega arith)
take-put text (b ∷ rest) room =
    let whole : take (length rest) text ≡ text = take_all (length rest) text (omega arith) in
    rw whole (take-append_seam text _)

-- If the error is 0, what holds of the hash that was made holds of the first `length` bytes of `out`.
pub IsPut-whole : (Holds : List ℕ → Type 0) (budget : ℕ) (lock old : List ℕ) (done : Work) (made : Result (List ℕ × Report) Report) (report : Report)
    (new : List ℕ) → IsReported budget (length old) done made → IsPut made lock old report new → IfOk made (λ both. Holds both.0)
    → report.error ≡ 0 → Holds (take report.length new)
IsPut-whole Holds budget lock old done (Ok (text, reported)) report new says is_put holds positive =
    let same : report ≡ reported = is_put.0 in
    let e : take report.length new ≡ text = rw (same, is_put.1, says.1) (take-put text old says.2) in
    subst Holds (sym e) holds
IsPut-whole Holds budget lock old done (Err reported) report new says is_put holds positive =
    let same : report ≡ reported = is_put.0 in
    absurd (says.0 (rw same at positive))
