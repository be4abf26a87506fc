-- A block of sixteen words as the four diagonals of its matrix. Each diagonal starts with the first word of a row, and
-- each next word is one to the right and one down, where the first row follows the last one.
use Rattle.std.specs.Prelude.{◌≡◌, ℕ, List, [], ◌∷◌, length, slice_index}

-- HaveFourWords a b c d: each of the four lists has four words.
abbrev pub HaveFourWords : List ℕ → List ℕ → List ℕ → List ℕ → Type 0
HaveFourWords a b c d = (length a ≡ 4) × (length b ≡ 4) × (length c ≡ 4) × (length d ≡ 4)

-- words_on a b c d: the words, in row order, of the matrix with these four diagonals. With the words numbered in row
-- order, a has the words 0 5 10 15, b 4 9 14 3, c 8 13 2 7, and d 12 1 6 11.
abbrev pub words_on : List ℕ → List ℕ → List ℕ → List ℕ → List ℕ
words_on a b c d =
    slice_index a 0 ∷ slice_index d 1 ∷ slice_index c 2 ∷ slice_index b 3
    ∷ slice_index b 0 ∷ slice_index a 1 ∷ slice_index d 2 ∷ slice_index c 3
    ∷ slice_index c 0 ∷ slice_index b 1 ∷ slice_index a 2 ∷ slice_index d 3
    ∷ slice_index d 0 ∷ slice_index c 1 ∷ slice_index b 2 ∷ slice_index a 3 ∷ []
