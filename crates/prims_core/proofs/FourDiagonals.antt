-- A block of sixteen words as four diagonals, for `Diagonals`: loading a block that is in row order or in diagonal
-- order, storing it in either order, and applying an operator to it lane by lane. Lists of a known length are split
-- into their items, by `four_items-written_out` and `sixteen_words-written_out`; then both sides of an equation compute
-- to the same words.
use Rattle.std.proofs.Common.{◌≡◌, ℕ, ◌+◌, ◌<◌, ◌≤◌, List, [], ◌∷◌, ◌++◌, length, take, drop, get_or, slice_index, refl, sym, ◌∙◌, ap, subst, arith}
use Rattle.std.specs.List.{concat}
use Rattle.std.specs.Simd.Lanes.{zip2, pick_l}
use Rattle.std.proofs.lemmas.List.{drop_more}
use Rattle.std.proofs.lemmas.Simd.{get_or-zip2, length-zip2}
use Rattle.prims_core.specs.Diagonals.{block_in_rows}
use Rattle.prims_core.specs.Private.Diagonals.{HaveFourWords, words_on}
use Rattle.prims_core.specs.Words.{chunks_exact}
use Rattle.prims_core.proofs.ChunkFacts.{concat-chunks_exact}

-- To prove a property of a list of four items, it suffices to prove it of the list with its items written out.
pub four_items-written_out : (P : List ℕ → Type 0) → (xs : List ℕ) → length xs ≡ 4
    → P (slice_index xs 0 ∷ slice_index xs 1 ∷ slice_index xs 2 ∷ slice_index xs 3 ∷ []) → P xs
four_items-written_out P (w ∷ x ∷ y ∷ z ∷ []) four p = p
four_items-written_out P [] four p = absurd (omega arith)
four_items-written_out P (w ∷ []) four p = absurd (omega arith)
four_items-written_out P (w ∷ x ∷ []) four p = absurd (omega arith)
four_items-written_out P (w ∷ x ∷ y ∷ []) four p = absurd (omega arith)
four_items-written_out P (w ∷ x ∷ y ∷ z ∷ v ∷ xs) four p = absurd (omega arith)

-- The four items of a list from place i on, written out.
take_four-drop : (xs : List ℕ) (i : ℕ) → i + 4 ≤ length xs
    → take 4 (drop i xs) ≡ get_or xs i 0 ∷ get_or xs (i + 1) 0 ∷ get_or xs (i + 2) 0 ∷ get_or xs (i + 3) 0 ∷ []
take_four-drop xs i inside =
    let first = drop_more xs i 0 (omega arith) in
    let second = drop_more xs (i + 1) 0 (omega arith) in
    let two : i + 1 + 1 ≡ i + 2 = omega arith in
    let third = drop_more xs (i + 2) 0 (omega arith) in
    let three : i + 2 + 1 ≡ i + 3 = omega arith in
    let fourth = drop_more xs (i + 3) 0 (omega arith) in
    rw (first, second, two, third, three, fourth) refl

-- Sixteen words cut into rows of four, written out.
chunks_exact-four_of_sixteen : (xs : List ℕ) → length xs ≡ 16
    → chunks_exact xs 4
    ≡ (get_or xs 0 0 ∷ get_or xs 1 0 ∷ get_or xs 2 0 ∷ get_or xs 3 0 ∷ [])
    ∷ (get_or xs 4 0 ∷ get_or xs 5 0 ∷ get_or xs 6 0 ∷ get_or xs 7 0 ∷ [])
    ∷ (get_or xs 8 0 ∷ get_or xs 9 0 ∷ get_or xs 10 0 ∷ get_or xs 11 0 ∷ [])
    ∷ (get_or xs 12 0 ∷ get_or xs 13 0 ∷ get_or xs 14 0 ∷ get_or xs 15 0 ∷ [])
    ∷ []
unfolding chunks_exact
chunks_exact-four_of_sixteen xs sixteen =
    rw (sixteen, take_four-drop xs 0 (omega arith), take_four-drop xs 4 (omega arith), take_four-drop xs 8 (omega arith), take_four-drop xs 12 (omega arith)) refl

-- A list of sixteen words equals the list with its words written out.
sixteen_words-written_out : (xs : List ℕ) → length xs ≡ 16
    → (slice_index xs 0 ∷ slice_index xs 1 ∷ slice_index xs 2 ∷ slice_index xs 3
    ∷ slice_index xs 4 ∷ slice_index xs 5 ∷ slice_index xs 6 ∷ slice_index xs 7
    ∷ slice_index xs 8 ∷ slice_index xs 9 ∷ slice_index xs 10 ∷ slice_index xs 11
    ∷ slice_index xs 12 ∷ slice_index xs 13 ∷ slice_index xs 14 ∷ slice_index xs 15 ∷ []) ≡ xs
sixteen_words-written_out xs long = sym (ap concat (chunks_exact-four_of_sixteen xs long)) ∙ concat-chunks_exact xs 4 4 (omega arith) (omega arith)

-- `Diagonals::of`: the diagonals that it picks of a block in row order make up that block.
pub words_on-loaded_from_rows : (xs : List ℕ) → length xs ≡ 16
    → words_on (pick_l 0 (xs ++ xs) (0 ∷ 5 ∷ 10 ∷ 15 ∷ [])) (pick_l 0 (xs ++ xs) (4 ∷ 9 ∷ 14 ∷ 3 ∷ []))
    (pick_l 0 (xs ++ xs) (8 ∷ 13 ∷ 2 ∷ 7 ∷ [])) (pick_l 0 (xs ++ xs) (12 ∷ 1 ∷ 6 ∷ 11 ∷ [])) ≡ xs
words_on-loaded_from_rows xs long =
    subst (λ (ys : List ℕ). words_on (pick_l 0 (ys ++ ys) (0 ∷ 5 ∷ 10 ∷ 15 ∷ [])) (pick_l 0 (ys ++ ys) (4 ∷ 9 ∷ 14 ∷ 3 ∷ []))
    (pick_l 0 (ys ++ ys) (8 ∷ 13 ∷ 2 ∷ 7 ∷ [])) (pick_l 0 (ys ++ ys) (12 ∷ 1 ∷ 6 ∷ 11 ∷ [])) ≡ ys) (sixteen_words-written_out xs long) refl

-- `Diagonals::store`: shuffling the diagonals, which are joined two by two, gives the block in row order.
pub words_on-stored_in_rows : (a b c d : List ℕ) → length a ≡ 4 → length c ≡ 4
    → (slice_index (a ++ b) 0 ∷ slice_index (c ++ d) 5 ∷ slice_index (c ++ d) 2 ∷ slice_index (a ++ b) 7
    ∷ slice_index (a ++ b) 4 ∷ slice_index (a ++ b) 1 ∷ slice_index (c ++ d) 6 ∷ slice_index (c ++ d) 3
    ∷ slice_index (c ++ d) 0 ∷ slice_index (a ++ b) 5 ∷ slice_index (a ++ b) 2 ∷ slice_index (c ++ d) 7
    ∷ slice_index (c ++ d) 4 ∷ slice_index (c ++ d) 1 ∷ slice_index (a ++ b) 6 ∷ slice_index (a ++ b) 3 ∷ [])
    ≡ words_on a b c d
words_on-stored_in_rows a b c d four_a four_c =
    four_items-written_out (λ (a : List ℕ). (slice_index (a ++ b) 0 ∷ slice_index (c ++ d) 5 ∷ slice_index (c ++ d) 2 ∷ slice_index (a ++ b) 7
    ∷ slice_index (a ++ b) 4 ∷ slice_index (a ++ b) 1 ∷ slice_index (c ++ d) 6 ∷ slice_index (c ++ d) 3
    ∷ slice_index (c ++ d) 0 ∷ slice_index (a ++ b) 5 ∷ slice_index (a ++ b) 2 ∷ slice_index (c ++ d) 7
    ∷ slice_index (c ++ d) 4 ∷ slice_index (c ++ d) 1 ∷ slice_index (a ++ b) 6 ∷ slice_index (a ++ b) 3 ∷ [])
    ≡ words_on a b c d) a four_a
    (four_items-written_out (λ (c : List ℕ). (slice_index a 0 ∷ slice_index (c ++ d) 5 ∷ slice_index (c ++ d) 2 ∷ slice_index b 3
    ∷ slice_index b 0 ∷ slice_index a 1 ∷ slice_index (c ++ d) 6 ∷ slice_index (c ++ d) 3
    ∷ slice_index (c ++ d) 0 ∷ slice_index b 1 ∷ slice_index a 2 ∷ slice_index (c ++ d) 7
    ∷ slice_index (c ++ d) 4 ∷ slice_index (c ++ d) 1 ∷ slice_index b 2 ∷ slice_index a 3 ∷ [])
    ≡ words_on a b c d) c four_c refl)

-- `Diagonals::of_diagonals`: the diagonals that it picks of a block in diagonal order make up that block in row order.
pub words_on-loaded_from_diagonals : (xs : List ℕ) → length xs ≡ 16
    → words_on (pick_l 0 (xs ++ xs) (0 ∷ 1 ∷ 2 ∷ 3 ∷ [])) (pick_l 0 (xs ++ xs) (4 ∷ 5 ∷ 6 ∷ 7 ∷ []))
    (pick_l 0 (xs ++ xs) (8 ∷ 9 ∷ 10 ∷ 11 ∷ [])) (pick_l 0 (xs ++ xs) (12 ∷ 13 ∷ 14 ∷ 15 ∷ [])) ≡ block_in_rows xs
unfolding block_in_rows
words_on-loaded_from_diagonals xs long =
    subst (λ (ys : List ℕ). words_on (pick_l 0 (ys ++ ys) (0 ∷ 1 ∷ 2 ∷ 3 ∷ [])) (pick_l 0 (ys ++ ys) (4 ∷ 5 ∷ 6 ∷ 7 ∷ []))
    (pick_l 0 (ys ++ ys) (8 ∷ 9 ∷ 10 ∷ 11 ∷ [])) (pick_l 0 (ys ++ ys) (12 ∷ 13 ∷ 14 ∷ 15 ∷ [])) ≡ block_in_rows ys)
    (sixteen_words-written_out xs long) refl

-- `Diagonals::store_diagonals`: shuffling the diagonals, which are joined two by two, gives the block in diagonal
-- order.
pub words_on-stored_by_diagonals : (a b c d : List ℕ) → length a ≡ 4 → length c ≡ 4
    → block_in_rows (slice_index (a ++ b) 0 ∷ slice_index (a ++ b) 1 ∷ slice_index (a ++ b) 2 ∷ slice_index (a ++ b) 3
    ∷ slice_index (a ++ b) 4 ∷ slice_index (a ++ b) 5 ∷ slice_index (a ++ b) 6 ∷ slice_index (a ++ b) 7
    ∷ slice_index (c ++ d) 0 ∷ slice_index (c ++ d) 1 ∷ slice_index (c ++ d) 2 ∷ slice_index (c ++ d) 3
    ∷ slice_index (c ++ d) 4 ∷ slice_index (c ++ d) 5 ∷ slice_index (c ++ d) 6 ∷ slice_index (c ++ d) 7 ∷ [])
    ≡ words_on a b c d
unfolding block_in_rows
words_on-stored_by_diagonals a b c d four_a four_c = words_on-stored_in_rows a b c d four_a four_c

-- An operator applied lane by lane leaves four words in each diagonal.
pub HaveFourWords-zip2 : (f : ℕ → ℕ → ℕ) (a b c d a' b' c' d' : List ℕ) → HaveFourWords a b c d → HaveFourWords a' b' c' d'
    → HaveFourWords (zip2 f a a') (zip2 f b b') (zip2 f c c') (zip2 f d d')
HaveFourWords-zip2 f a b c d a' b' c' d' fours fours' =
    let lanes : (xs ys : List ℕ) → length xs ≡ 4 → length ys ≡ 4 → length (zip2 f xs ys) ≡ 4 =
    λ xs ys four_xs four_ys. length-zip2 f xs ys (four_xs ∙ sym four_ys) ∙ four_xs in
    (lanes a a' fours.0 fours'.0, lanes b b' fours.1 fours'.1, lanes c c' fours.2 fours'.2, lanes d d' fours.3 fours'.3)

-- Applying an operator to the diagonals of two blocks applies it to the words of the blocks.
pub words_on-zip2 : (f : ℕ → ℕ → ℕ) (a b c d a' b' c' d' : List ℕ) → HaveFourWords a b c d → HaveFourWords a' b' c' d'
    → words_on (zip2 f a a') (zip2 f b b') (zip2 f c c') (zip2 f d d') ≡ zip2 f (words_on a b c d) (words_on a' b' c' d')
words_on-zip2 f a b c d a' b' c' d' fours fours' =
    let lane : (xs ys : List ℕ) → length xs ≡ 4 → length ys ≡ 4 → (i : ℕ) → i < 4
    → slice_index (zip2 f xs ys) i ≡ f (slice_index xs i) (slice_index ys i) =
    λ xs ys four_xs four_ys i inside. get_or-zip2 f xs ys i 0 0 0 (omega arith) (omega arith) in
    rw (
      lane a a' fours.0 fours'.0 0 (omega arith),
      lane a a' fours.0 fours'.0 1 (omega arith),
      lane a a' fours.0 fours'.0 2 (omega arith),
      lane a a' fours.0 fours'.0 3 (omega arith),
      lane b b' fours.1 fours'.1 0 (omega arith),
      lane b b' fours.1 fours'.1 1 (omega arith),
      lane b b' fours.1 fours'.1 2 (omega arith),
      lane b b' fours.1 fours'.1 3 (omega arith),
      lane c c' fours.2 fours'.2 0 (omega arith),
      lane c c' fours.2 fours'.2 1 (omega arith),
      lane c c' fours.2 fours'.2 2 (omega arith),
      lane c c' fours.2 fours'.2 3 (omega arith),
      lane d d' fours.3 fours'.3 0 (omega arith),
      lane d d' fours.3 fours'.3 1 (omega arith),
      lane d d' fours.3 fours'.3 2 (omega arith),
      lane d d' fours.3 fours'.3 3 (omega arith),
    ) refl
