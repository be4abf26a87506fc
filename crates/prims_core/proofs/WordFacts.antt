-- Words as bytes, and the XOR of lists of words. `words_of-from_places` serves `load_words`: words that are each the
-- number of their four bytes are `words_of` the bytes. `little_number-first_word` serves Integerify in kdf_core: in a
-- number whose bytes are those of words, the first word decides the lowest 32 bits. The lemmas on `xor_lists` serve
-- `mix_xor_diagonals`: a part of the XOR of two lists is the XOR of their parts.
use Rattle.std.proofs.Common.{◌≡◌, ℕ, zero, suc, ◌+◌, ◌*◌, ◌%◌, ◌^◌, ◌<◌, ◌≤◌, List, [], ◌∷◌, ◌++◌, length, take, drop, get_or, map, bit_xor, flat_map, refl, sym, ◌∙◌, ap, arith}
use Rattle.std.proofs.lemmas.Grind.{same_number_lists}
use Rattle.std.proofs.lemmas.List.{get_or-map, get_or-take, length-map}
use Rattle.std.specs.Simd.Lanes.{zip2}
use Rattle.std.proofs.lemmas.Simd.{length-zip2}
use Rattle.byteorder.specs.Endian.{little_from}
use Rattle.prims_core.specs.Words.{bytes_of_words, chunks_exact, little_bytes, little_number, words_of, xor_lists}
use Rattle.prims_core.proofs.ChunkFacts.{length-chunks_exact, get_or-chunks_exact}

-- The number that the first four bytes of a list encode does not depend on the bytes after them.
little_number-take_four : (bytes : List ℕ) → little_number 4 (take 4 bytes) ≡ little_number 4 bytes
little_number-take_four bytes =
    rw (
      get_or-take 4 bytes 0 0 (omega arith),
      get_or-take 4 bytes 1 0 (omega arith),
      get_or-take 4 bytes 2 0 (omega arith),
      get_or-take 4 bytes 3 0 (omega arith),
    ) refl

-- If word k is the number of the four bytes from place 4k on, for each k, the words are `words_of` the bytes.
pub words_of-from_places : (bytes words : List ℕ) → length bytes ≡ 4 * length words
    → ((k : ℕ) → k < length words → get_or words k 0 ≡ little_number 4 (drop (4 * k) bytes))
    → words ≡ words_of bytes
unfolding words_of
words_of-from_places bytes words length_bytes word_at =
    let count_pieces : length (chunks_exact bytes 4) ≡ length words =
    length-chunks_exact bytes 4 (length words) (omega arith) length_bytes in
    same_number_lists words (map (little_number 4) (chunks_exact bytes 4))
    (sym (length-map (chunks_exact bytes 4) (little_number 4) ∙ count_pieces))
    (λ k inside. word_at k inside ∙ sym (
    get_or-map (little_number 4) (chunks_exact bytes 4) k [] 0 (omega arith)
    ∙ ap (little_number 4) (get_or-chunks_exact bytes 4 (length words) k (omega arith) length_bytes inside)
    ∙ little_number-take_four (drop (4 * k) bytes)))

-- The number that the bytes of a list of words encode is the first word modulo 2 ^ 32, plus a multiple of 2 ^ 32.
pub little_number-first_word : (count word : ℕ) (words : List ℕ)
    → (above : ℕ) × (little_number (count + 4) (bytes_of_words (word ∷ words)) ≡ word % 2 ^ 32 + 2 ^ 32 * above)
unfolding bytes_of_words
little_number-first_word count word words =
    let bytes : List ℕ = little_bytes 4 word ++ flat_map (little_bytes 4) words in
    let count_is : count + 4 ≡ suc (suc (suc (suc count))) = omega arith in
    (little_from 4 count bytes, rw count_is (omega arith))

-- Taking the first n items of two lists before or after an operator is applied to them, item by item, gives the same
-- list, and so does dropping the first n items.
take-zip2 : (f : ℕ → ℕ → ℕ) (n : ℕ) (xs ys : List ℕ) → take n (zip2 f xs ys) ≡ zip2 f (take n xs) (take n ys)
take-zip2 f zero xs ys = refl
take-zip2 f (suc n) [] ys = refl
take-zip2 f (suc n) (x ∷ xs) [] = refl
take-zip2 f (suc n) (x ∷ xs) (y ∷ ys) = ap (λ (zs : List ℕ). f x y ∷ zs) (take-zip2 f n xs ys)

zip2-nil : (f : ℕ → ℕ → ℕ) (xs : List ℕ) → zip2 f xs [] ≡ []
zip2-nil f [] = refl
zip2-nil f (x ∷ xs) = refl

drop-zip2 : (f : ℕ → ℕ → ℕ) (n : ℕ) (xs ys : List ℕ) → drop n (zip2 f xs ys) ≡ zip2 f (drop n xs) (drop n ys)
drop-zip2 f zero xs ys = refl
drop-zip2 f (suc n) [] ys = refl
drop-zip2 f (suc n) (x ∷ xs) [] = sym (zip2-nil f (drop n xs))
drop-zip2 f (suc n) (x ∷ xs) (y ∷ ys) = drop-zip2 f n xs ys

pub take_drop-xor_lists : (size start : ℕ) (xs ys : List ℕ)
    → take size (drop start (xor_lists xs ys)) ≡ xor_lists (take size (drop start xs)) (take size (drop start ys))
unfolding xor_lists
take_drop-xor_lists size start xs ys =
    ap (take size) (drop-zip2 bit_xor start xs ys) ∙ take-zip2 bit_xor size (drop start xs) (drop start ys)

pub length-xor_lists : (xs ys : List ℕ) → length ys ≡ length xs → length (xor_lists xs ys) ≡ length xs
unfolding xor_lists
length-xor_lists xs ys same = length-zip2 bit_xor xs ys (sym same)

-- The XOR of two lists is no longer than either of them.
pub length-xor_lists_le : (xs ys : List ℕ) → (length (xor_lists xs ys) ≤ length xs) × (length (xor_lists xs ys) ≤ length ys)
unfolding xor_lists
length-xor_lists_le [] ys = (omega arith, omega arith)
length-xor_lists_le (x ∷ xs) [] = (omega arith, omega arith)
length-xor_lists_le (x ∷ xs) (y ∷ ys) = let less = length-xor_lists_le xs ys in (omega (arith, less), omega (arith, less))
