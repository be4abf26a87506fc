-- How the lines of an input arise from the pieces in which it is read, for the clause `gives` of
-- `LineReader::next_line` (`LineReading`). `with_line_feeds` joins lines, each with its line feed.
-- `IsCutAtFeed_from_position` cuts a piece at its first line feed, before which there are only bytes of one line.
-- `lines_of-with_line_feeds` shows by induction over the lines that splitting joined lines and a rest gives the lines,
-- and then those of the rest.
use Rattle.std.proofs.Common.{◌≡◌, ◌≢◌, ℕ, ◌+◌, ◌<◌, false, eqb, List, [], ◌∷◌, ◌++◌, length, take, drop, get_or, flat_map, Some, None, refl, sym, ap, ◌∙◌, append_assoc, append-nil, add-one, get_or-take, arith, inl, inr}
use Rattle.std.specs.List.{All, AllByRecursion, position, slice_split}
use Rattle.std.proofs.Math.Seq.{split_at}
use Rattle.std.proofs.lemmas.Bool.{eqb-false, eqb-true, ne_eqb}
use Rattle.std.proofs.lemmas.List.{get_or_default, length-take-le}
use Rattle.std.proofs.lemmas.List.Concat.{flat_map-append}
use Rattle.std.proofs.lemmas.List.Elements.{Contains-append_cases}
use Rattle.std.proofs.lemmas.List.Splits.{length-slice_split, slice_split_at, slice_split_none}
use Rattle.std.proofs.lemmas.List.Sums.{fails_before_first, passes_at_first}
use Rattle.run_core.specs.LineRuns.{lines_of, without_empty_end}
use Rattle.run_core.specs.Texts.{HasNoLineFeed, line_feed}
use Rattle.run_core.proofs.LineFeeds.{feed_at, not_Contains-feed_at, position-Some, position-None}

-- ---- lines with their line feeds

-- with_line_feeds lines: the bytes of these lines as they are in an input, each with its line feed.
abbrev pub with_line_feeds : List (List ℕ) → List ℕ
with_line_feeds = flat_map (λ line. line ++ line_feed ∷ [])

with_line_feeds-push : (lines : List (List ℕ)) (line : List ℕ) → with_line_feeds (lines ++ line ∷ []) ≡ with_line_feeds lines ++ (line ++ line_feed ∷ [])
with_line_feeds-push lines line =
    flat_map-append (λ line. line ++ line_feed ∷ []) lines (line ∷ []) ∙ ap (λ bytes. with_line_feeds lines ++ bytes) (append-nil (line ++ line_feed ∷ []))

-- If the bytes so far are some lines and `rest`, which is the beginning of another line, then `front` and a line feed
-- complete this line.
with_line_feeds-behind : (bytes : List ℕ) (lines : List (List ℕ)) (rest front line behind : List ℕ) → bytes ≡ with_line_feeds lines ++ rest → line ≡ rest ++ front
    → bytes ++ (front ++ line_feed ∷ behind) ≡ with_line_feeds lines ++ (line ++ line_feed ∷ behind)
with_line_feeds-behind bytes lines rest front line behind split is_line = rw (split, is_line) (
    append_assoc (with_line_feeds lines) rest (front ++ line_feed ∷ behind)
    ∙ ap (λ others. with_line_feeds lines ++ others) (sym (append_assoc rest front (line_feed ∷ behind))))

-- If the bytes so far are some lines and `rest`, then `front`, a line feed and `behind` after them complete one more
-- line, `rest ++ front`, which is followed by `behind`.
pub with_line_feeds-behind_line : (bytes : List ℕ) (lines : List (List ℕ)) (rest front line behind : List ℕ) → bytes ≡ with_line_feeds lines ++ rest → line ≡ rest ++ front
    → bytes ++ (front ++ line_feed ∷ behind) ≡ with_line_feeds (lines ++ line ∷ []) ++ behind
with_line_feeds-behind_line bytes lines rest front line behind split is_line =
    with_line_feeds-behind bytes lines rest front line behind split is_line
    ∙ sym (ap (λ b. b ++ behind) (with_line_feeds-push lines line)
    ∙ append_assoc (with_line_feeds lines) (line ++ line_feed ∷ []) behind
    ∙ ap (λ others. with_line_feeds lines ++ others) (append_assoc line (line_feed ∷ []) behind))

pub AllByRecursion-append : {A : Type 0} (P : A → Type 0) (xs ys : List A) → AllByRecursion P xs → AllByRecursion P ys → AllByRecursion P (xs ++ ys)
AllByRecursion-append P [] ys firsts others = others
AllByRecursion-append P (x ∷ xs) ys firsts others = (firsts.0, AllByRecursion-append P xs ys firsts.1 others)

pub AllByRecursion-push : {A : Type 0} (P : A → Type 0) (xs : List A) (y : A) → AllByRecursion P xs → P y → AllByRecursion P (xs ++ y ∷ [])
AllByRecursion-push P xs y firsts last = AllByRecursion-append P xs (y ∷ []) firsts (last, tt)

-- ---- line feeds

pub HasNoLineFeed-append : (xs ys : List ℕ) → HasNoLineFeed xs → HasNoLineFeed ys → HasNoLineFeed (xs ++ ys)
HasNoLineFeed-append xs ys none none_behind has = elim (Contains-append_cases xs ys line_feed has) [
  | inl before ↦ none before
  | inr behind ↦ none_behind behind
]

pub HasNoLineFeed-position : (xs : List ℕ) → position (λ b. eqb b 10) xs ≡ None → HasNoLineFeed xs
HasNoLineFeed-position xs none = not_Contains-feed_at xs (position-None xs none)

-- The list is cut at its first line feed, which is at the position `at`.
pub record IsCutAtFeed (xs : List ℕ) (at : ℕ) : Type 0 where
  pub within : at < length xs
  pub parts : xs ≡ take at xs ++ line_feed ∷ drop (at + 1) xs
  pub no_feed : HasNoLineFeed (take at xs)

HasNoLineFeed-take : (xs : List ℕ) → feed_at xs < length xs → HasNoLineFeed (take (feed_at xs) xs)
HasNoLineFeed-take xs within has =
    let before : has.0 < feed_at xs = omega (arith, has.1, length-take-le (feed_at xs) xs (omega (arith, within))) in
    let same = get_or-take (feed_at xs) xs has.0 line_feed before in
    eqb-false _ _ (fails_before_first (λ b. eqb b line_feed) xs has.0 line_feed before) (sym same ∙ has.2)

pub IsCutAtFeed_from_position : (xs : List ℕ) (at : ℕ) → position (λ b. eqb b 10) xs ≡ Some at → IsCutAtFeed xs at
IsCutAtFeed_from_position xs at found =
    let place = position-Some xs at found in
    let within : feed_at xs < length xs = omega (arith, place.0, place.1) in
    let feed = eqb-true _ _ (passes_at_first (λ b. eqb b line_feed) xs line_feed within) in
    rw (← place.0) (record {
      within = within;
      parts = split_at xs (feed_at xs) line_feed within ∙ rw (feed, add-one);
      no_feed = HasNoLineFeed-take xs within;
    })

-- ---- the lines of an input

-- Only the last part is dropped if it is empty, so a part before others stays.
without_empty_end-cons : (part : List ℕ) (parts : List (List ℕ)) → 0 < length parts → without_empty_end (part ∷ parts) ≡ part ∷ without_empty_end parts
without_empty_end-cons part [] some = absurd (omega (arith, some))
without_empty_end-cons [] (next ∷ parts) some = refl
without_empty_end-cons (b ∷ bs) (next ∷ parts) some = refl

All_from_HasNoLineFeed : (xs : List ℕ) → HasNoLineFeed xs → All (λ b. eqb b line_feed ≡ false) xs
All_from_HasNoLineFeed xs none k d below = ne_eqb (get_or xs k d) line_feed (λ is. none (k, below, get_or_default xs k line_feed d below ∙ is))

pub lines_of-cons : (line rest : List ℕ) → HasNoLineFeed line → lines_of (line ++ line_feed ∷ rest) ≡ line ∷ lines_of rest
unfolding lines_of
lines_of-cons line rest none =
    let is_feed = λ (b : ℕ). eqb b line_feed in
    let others = length-slice_split is_feed rest in
    ap without_empty_end (slice_split_at is_feed line line_feed rest (All_from_HasNoLineFeed line none) refl)
    ∙ without_empty_end-cons line (slice_split is_feed rest) (omega (arith, others))

-- Splitting lines with their line feeds, followed by more bytes, gives these lines, and then the lines of the other
-- bytes.
pub lines_of-with_line_feeds : (lines : List (List ℕ)) (rest : List ℕ) → AllByRecursion HasNoLineFeed lines → lines_of (with_line_feeds lines ++ rest) ≡ lines ++ lines_of rest
lines_of-with_line_feeds [] rest none = refl
lines_of-with_line_feeds (line ∷ lines) rest none =
    let split : with_line_feeds (line ∷ lines) ++ rest ≡ line ++ line_feed ∷ (with_line_feeds lines ++ rest) =
    append_assoc (line ++ line_feed ∷ []) (with_line_feeds lines) rest ∙ append_assoc line (line_feed ∷ []) (with_line_feeds lines ++ rest) in
    ap lines_of split ∙ (lines_of-cons line (with_line_feeds lines ++ rest) none.0 ∙ ap (λ others. line ∷ others) (lines_of-with_line_feeds lines rest none.1))

pub lines_of-nil : lines_of [] ≡ []
unfolding lines_of
lines_of-nil = refl

without_empty_end-single : (part : List ℕ) → part ≢ [] → without_empty_end (part ∷ []) ≡ part ∷ []
without_empty_end-single [] some = absurd (some refl)
without_empty_end-single (b ∷ bs) some = refl

-- Bytes without a line feed are one line, unless there are no bytes.
pub lines_of-last : (line : List ℕ) → HasNoLineFeed line → line ≢ [] → lines_of line ≡ line ∷ []
unfolding lines_of
lines_of-last line none some =
    ap without_empty_end (slice_split_none (λ b. eqb b line_feed) line (All_from_HasNoLineFeed line none)) ∙ without_empty_end-single line some
