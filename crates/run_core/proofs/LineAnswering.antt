-- Lemmas for the clause `runs` of `answer_lines`: what changes when one more line is answered. A lemma `..-push` for
-- each function of a list of answers (texts, hashes, random numbers left, counts, tally) says what one more answer at
-- the end adds. It follows from a lemma on appended lists. `AreAnswers-push` shows by induction over the lines that the
-- answers stay right for the longer list of lines: the new line has the next number, and begins with the random numbers
-- that the answers before it left.
use Rattle.std.proofs.Common.{◌≡◌, Bool, ℕ, suc, ◌+◌, List, [], ◌∷◌, ◌++◌, length, count_by, refl, ap, ◌∙◌, append-nil, add-zero, zero-add, arith}
use Rattle.std.proofs.lemmas.List.{length-append}
use Rattle.std.proofs.lemmas.List.Concat.{flat_map-append}
use Rattle.std.proofs.lemmas.List.Sums.{fold-append, sum_by-append}
use Rattle.rand_core.specs.Stream.{Stream}
use Rattle.prims_core.specs.declared.meter.Work.{Work}
use Rattle.run_core.specs.Answers.{Answer, Hashing, after_work, fault_texts, hashings_of, is_misfit, is_refusal, stream_left, tally_of, texts}
use Rattle.run_core.specs.DeviceCalls.{as_count}
use Rattle.run_core.specs.LineAnswers.{AreAnswers, IsAnswer}
use Rattle.run_core.specs.Private.Answers.{counted}
use Rattle.run_core.specs.declared.job.Job.{Job}
use Rattle.run_core.specs.declared.line.Kind.{Kind}
use Rattle.run_core.specs.declared.tally.Tally.{Tally}

-- ---- one more answer

pub texts-push : (answers : List Answer) (next : Answer) → texts (answers ++ next ∷ []) ≡ texts answers ++ texts (next ∷ [])
texts-push answers next = flat_map-append _ answers (next ∷ [])

pub fault_texts-push : (answers : List Answer) (next : Answer) → fault_texts (answers ++ next ∷ []) ≡ fault_texts answers ++ fault_texts (next ∷ [])
fault_texts-push answers next = flat_map-append _ answers (next ∷ [])

hashings_of-push : (answers : List Answer) (next : Answer) → hashings_of (answers ++ next ∷ []) ≡ hashings_of answers ++ next.hashings
hashings_of-push answers next =
    flat_map-append (λ (answer : Answer). answer.hashings) answers (next ∷ []) ∙ ap (λ (made : List Hashing). hashings_of answers ++ made) (append-nil next.hashings)

pub stream_left-push : (stream : Stream) (answers : List Answer) (next : Answer)
    → stream_left stream (hashings_of (answers ++ next ∷ [])) ≡ stream_left (stream_left stream (hashings_of answers)) next.hashings
stream_left-push stream answers next =
    ap (stream_left stream) (hashings_of-push answers next) ∙ fold-append _ stream (hashings_of answers) next.hashings

pub after_work-push : (counts : Work) (answers : List Answer) (next : Answer)
    → after_work counts (hashings_of (answers ++ next ∷ [])) ≡ after_work (after_work counts (hashings_of answers)) next.hashings
after_work-push counts answers next =
    ap (after_work counts) (hashings_of-push answers next) ∙ fold-append _ counts (hashings_of answers) next.hashings

count_by-single : (seen : Answer → Bool) (next : Answer) → count_by seen (next ∷ []) ≡ as_count (seen next)
count_by-single seen next = zero-add (as_count (seen next))

count_by-push : (seen : Answer → Bool) (answers : List Answer) (next : Answer)
    → count_by seen (answers ++ next ∷ []) ≡ count_by seen answers + as_count (seen next)
count_by-push seen answers next = sum_by-append _ answers (next ∷ []) ∙ ap (λ (n : ℕ). count_by seen answers + n) (count_by-single seen next)

-- Two tallies with the same counts are equal.
Tally-eq : (a b c d e f : ℕ) → a ≡ d → b ≡ e → c ≡ f
    → ◌≡◌ {A = Tally} (record { lines = a; refused = b; misfits = c }) (record { lines = d; refused = e; misfits = f })
Tally-eq a b c d e f one two three = cc

-- The tally of one more answer counts one more line.
pub tally_of-push : (answers : List Answer) (next : Answer) → tally_of (answers ++ next ∷ []) ≡ counted (tally_of answers) next.outcome
tally_of-push answers next = Tally-eq _ _ _ _ _ _ (length-append answers (next ∷ []))
    (count_by-push (λ (answer : Answer). is_refusal answer.outcome) answers next) (count_by-push (λ (answer : Answer). is_misfit answer.outcome) answers next)

-- ---- the answers to lines

-- There are as many answers as lines.
pub length_from_AreAnswers : (kind : Kind) (job : Job) (number : ℕ) (lines : List (List ℕ)) (stream : Stream) (answers : List Answer)
    → AreAnswers kind job number lines stream answers → length answers ≡ length lines
length_from_AreAnswers kind job number [] stream [] are = refl
length_from_AreAnswers kind job number (line ∷ lines) stream (answer ∷ answers) are =
    ap (λ (n : ℕ). suc n) (length_from_AreAnswers kind job (number + 1) lines (stream_left stream answer.hashings) answers are.1)
length_from_AreAnswers kind job number [] stream (answer ∷ answers) are = absurd are
length_from_AreAnswers kind job number (line ∷ lines) stream [] are = absurd are

-- The answers to some lines, and then the answer to the next line, are the answers to all these lines.
pub AreAnswers-push : (kind : Kind) (job : Job) (number : ℕ) (lines : List (List ℕ)) (line : List ℕ) (stream : Stream) (answers : List Answer) (next : Answer)
    → AreAnswers kind job number lines stream answers
    → IsAnswer kind job (number + length lines) line (stream_left stream (hashings_of answers)) next
    → AreAnswers kind job number (lines ++ line ∷ []) stream (answers ++ next ∷ [])
AreAnswers-push kind job number [] line stream [] next are is = (rw add-zero at is, tt)
AreAnswers-push kind job number (first ∷ lines) line stream (answer ∷ answers) next are is =
    let place : number + suc (length lines) ≡ number + 1 + length lines = omega arith in
    let left : stream_left stream (answer.hashings ++ hashings_of answers) ≡ stream_left (stream_left stream answer.hashings) (hashings_of answers) =
    fold-append _ stream answer.hashings (hashings_of answers) in
    (are.0, AreAnswers-push kind job (number + 1) lines line (stream_left stream answer.hashings) answers next are.1 (rw (place, left) at is))
AreAnswers-push kind job number [] line stream (answer ∷ answers) next are is = absurd are
AreAnswers-push kind job number (first ∷ lines) line stream [] next are is = absurd are
