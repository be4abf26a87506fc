-- Where the first line feed of a list is, and the first line, which ends there. The clauses `read` of `read_first_line`
-- (`FirstLineReading`) and `gives` of `LineReader::next_line` (`InputLines`) need these facts. `feed_at` is the
-- position of the first line feed, or the length of a list without one. `position-Some` and `position-None` derive it
-- from the result of `line_feed_at`. The other proofs apply lemmas of the standard library on the first item of a list
-- that passes a test.
use Rattle.std.proofs.Common.{◌≡◌, ℕ, ◌+◌, ◌<◌, ◌≤◌, Bool, true, false, cond, eqb, not, List, ◌++◌, length, take, Contains, Some, None, refl, ap, ◌∙◌, arith}
use Rattle.std.specs.List.{position, position_or_len}
use Rattle.std.proofs.lemmas.Bool.{eqb-true, eqb-false, ltb-false, ltb-true}
use Rattle.std.proofs.lemmas.Bool.Decides.{nat_tests}
use Rattle.std.proofs.lemmas.List.{take_all}
use Rattle.std.proofs.lemmas.List.Folds.{prefix_len-append}
use Rattle.std.proofs.lemmas.List.Sums.{fails_before_first, passes_at_first, prefix_len-le-length}
use Rattle.run_core.specs.Input.{first_line}

-- feed_at xs: the position of the first line feed in the list, or the length of the list if it has none.
abbrev pub feed_at : List ℕ → ℕ
feed_at xs = position_or_len (λ b. eqb b 10) xs

pub not_Contains-feed_at : (xs : List ℕ) → feed_at xs ≡ length xs → ¬ Contains xs 10
not_Contains-feed_at xs none h = eqb-false _ _ (fails_before_first (λ b. eqb b 10) xs h.0 10 (omega (arith, none, h.1))) h.2

pub Contains-feed_at : (xs : List ℕ) → feed_at xs < length xs → Contains xs 10
Contains-feed_at xs some = (feed_at xs, some, eqb-true _ _ (passes_at_first (λ b. eqb b 10) xs 10 some))

pub feed_at-le-length : (xs : List ℕ) → feed_at xs ≤ length xs
feed_at-le-length xs = prefix_len-le-length _ xs

-- If `xs` contains no line feed, the first line feed of `xs ++ ys` is that of `ys`.
pub feed_at-append : (xs ys : List ℕ) → feed_at xs ≡ length xs → feed_at (xs ++ ys) ≡ length xs + feed_at ys
feed_at-append xs ys none = grind (arith, nat_tests, prefix_len-append (λ b. not (eqb b 10)) xs ys)

cond-Some : (b : Bool) (n at : ℕ) → cond b (Some n) None ≡ Some at → (b ≡ true) × (n ≡ at)
cond-Some true n at e = (refl, cc)
cond-Some false n at e = absurd (cc)

cond-None : (b : Bool) (n : ℕ) → cond b (Some n) None ≡ None → b ≡ false
cond-None true n e = absurd (cc)
cond-None false n e = refl

pub position-Some : (xs : List ℕ) (at : ℕ) → position (λ b. eqb b 10) xs ≡ Some at → (feed_at xs ≡ at) × (at < length xs)
position-Some xs at e = let test = cond-Some _ _ at e in (test.1, let below = ltb-true _ _ test.0 in omega (arith, below, test.1))

pub position-None : (xs : List ℕ) → position (λ b. eqb b 10) xs ≡ None → feed_at xs ≡ length xs
position-None xs e =
    let above : length xs ≤ feed_at xs = ltb-false _ _ (cond-None _ _ e) in
    omega (arith, feed_at-le-length xs)

-- A list without a line feed is its own first line.
pub first_line-whole : (xs : List ℕ) → feed_at xs ≡ length xs → first_line xs ≡ xs
unfolding first_line
first_line-whole xs none = ap (λ n. take n xs) none ∙ take_all (length xs) xs (omega arith)

pub first_line-take : (xs : List ℕ) → first_line xs ≡ take (feed_at xs) xs
unfolding first_line
first_line-take xs = refl
