-- The additions and rotations of Salsa20/8 on vectors of four lanes, for `xor_rotated_sum` and `row_round`.
-- `xor_halves-rotate_left` shows for one word: XORing in the two shifted halves of a rotation, one after the other,
-- XORs in the rotated word, because the halves have no bit in common. `rotated_sum-in_lanes` shows it for each lane.
use Rattle.std.proofs.Common.{◌≡◌, ℕ, zero, suc, ◌+◌, ◌-◌, ◌*◌, ◌/◌, ◌%◌, ◌^◌, ◌<◌, List, [], ◌∷◌, ◌++◌, length, slice_index, bit_xor, refl, sym, ◌∙◌, ap, pow-add, pow_pos, arith}
use Rattle.std.specs.Int.{w32, rotate_left}
use Rattle.std.specs.Int.Bits.{xor_assoc, xor_shifted}
use Rattle.std.specs.Simd.Lanes.{zip2}
use Rattle.std.proofs.lemmas.Nat.{or_shifted, mod-pow-add}
use Rattle.std.proofs.Math.Nat.{mul-mod_left, div-lt_iff_lt-mul}
use Rattle.std.proofs.lemmas.List.{get_or_append_left}
use Rattle.prims_core.specs.Salsa.{sum_of_words, rotated_sum}
use Rattle.prims_core.proofs.FourDiagonals.{four_items-written_out}

-- To prove a property of each lane below 4, it suffices to prove it of the lanes 0, 1, 2 and 3.
cases_lt_four : (P : ℕ → Type 0) → P 0 → P 1 → P 2 → P 3 → (j : ℕ) → j < 4 → P j
cases_lt_four P p0 p1 p2 p3 zero inside = p0
cases_lt_four P p0 p1 p2 p3 (suc zero) inside = p1
cases_lt_four P p0 p1 p2 p3 (suc (suc zero)) inside = p2
cases_lt_four P p0 p1 p2 p3 (suc (suc (suc zero))) inside = p3
cases_lt_four P p0 p1 p2 p3 (suc (suc (suc (suc n)))) inside = absurd (omega arith)

-- The first four items of a vector of four lanes joined to itself are the lanes of the vector, and so are the next
-- four. A rotation of lanes picks its items from such a list.
pub slice_index-append_self : (xs : List ℕ) → length xs ≡ 4
    → (slice_index (xs ++ xs) 0 ≡ slice_index xs 0) × (slice_index (xs ++ xs) 1 ≡ slice_index xs 1)
    × (slice_index (xs ++ xs) 2 ≡ slice_index xs 2) × (slice_index (xs ++ xs) 3 ≡ slice_index xs 3)
slice_index-append_self xs four =
    let lane : (k : ℕ) → k < 4 → slice_index (xs ++ xs) k ≡ slice_index xs k =
    λ k inside. get_or_append_left xs xs 0 k (omega arith) in
    (lane 0 (omega arith), lane 1 (omega arith), lane 2 (omega arith), lane 3 (omega arith))

-- XORing a word with x shifted up by `bits`, modulo 2 ^ 32, and then with x shifted down by 32 - `bits` gives the same
-- as XORing it with x rotated left by `bits`.
xor_halves-rotate_left : (bits : ℕ) → 0 < bits → bits < 32 → (word x : ℕ) → x < 2 ^ 32
    → bit_xor (bit_xor word (x * 2 ^ bits % 2 ^ 32)) (x / 2 ^ (32 - bits)) ≡ bit_xor word (rotate_left w32 x bits)
xor_halves-rotate_left bits some few word x fits =
    let down = 32 - bits in
    let down_add_bits : down + bits ≡ 32 = omega arith in
    let pow_split : 2 ^ 32 ≡ 2 ^ bits * 2 ^ down = omega (ap (λ (n : ℕ). 2 ^ n) (sym down_add_bits) ∙ pow-add 2 down bits, arith) in
    let up = x * 2 ^ bits / 2 ^ bits % 2 ^ down in
    -- The half shifted up is a multiple of 2 ^ bits, and the half shifted down is below 2 ^ bits.
    let up_multiple : x * 2 ^ bits % 2 ^ 32 ≡ up * 2 ^ bits =
    omega (ap (λ (n : ℕ). x * 2 ^ bits % 2 ^ n) (sym down_add_bits) ∙ mod-pow-add (x * 2 ^ bits) down bits, mul-mod_left x (2 ^ bits), arith) in
    let down_below : x / 2 ^ down < 2 ^ bits = (div-lt_iff_lt-mul (pow_pos down)).1 (omega arith) in
    let bits_mod : bits % 32 ≡ bits = omega arith in
    let down_mod : down % 32 ≡ down = omega arith in
    rw (xor_assoc, bits_mod, down_mod, up_multiple, xor_shifted up bits (x / 2 ^ down) down_below, or_shifted up bits (x / 2 ^ down) down_below) refl

-- IsRotatedInLanes bits word x y: in each lane, the operations of `xor_rotated_sum` give `word` XOR the rotated sum of
-- x and y.
abbrev IsRotatedInLanes : ℕ → List ℕ → List ℕ → List ℕ → Type 0
IsRotatedInLanes bits word x y = (j : ℕ) → j < 4
    → slice_index (zip2 bit_xor
    (zip2 bit_xor word (zip2 (λ x n. x * 2 ^ n % 2 ^ 32) (zip2 sum_of_words x y) (bits ∷ bits ∷ bits ∷ bits ∷ [])))
    (zip2 (λ x n. x / 2 ^ n) (zip2 sum_of_words x y) ((32 - bits) ∷ (32 - bits) ∷ (32 - bits) ∷ (32 - bits) ∷ []))) j
    ≡ bit_xor (slice_index word j) (rotated_sum (slice_index x j) (slice_index y j) bits)

pub rotated_sum-in_lanes : (bits : ℕ) → 0 < bits → bits < 32 → (word : List ℕ) → length word ≡ 4 → (x : List ℕ) → length x ≡ 4
    → (y : List ℕ) → length y ≡ 4 → IsRotatedInLanes bits word x y
rotated_sum-in_lanes bits some few word four_word x four_x y four_y =
    let lane : (w a b : ℕ) → bit_xor (bit_xor w (sum_of_words a b * 2 ^ bits % 2 ^ 32)) (sum_of_words a b / 2 ^ (32 - bits))
    ≡ bit_xor w (rotated_sum a b bits) =
    λ w a b. xor_halves-rotate_left bits some few w (sum_of_words a b) (omega arith) in
    four_items-written_out (λ word. IsRotatedInLanes bits word x y) word four_word
    (four_items-written_out (λ x. IsRotatedInLanes bits (slice_index word 0 ∷ slice_index word 1 ∷ slice_index word 2 ∷ slice_index word 3 ∷ []) x y) x four_x
    (four_items-written_out (λ y. IsRotatedInLanes bits (slice_index word 0 ∷ slice_index word 1 ∷ slice_index word 2 ∷ slice_index word 3 ∷ [])
    (slice_index x 0 ∷ slice_index x 1 ∷ slice_index x 2 ∷ slice_index x 3 ∷ []) y) y four_y
    (cases_lt_four _ (lane _ _ _) (lane _ _ _) (lane _ _ _) (lane _ _ _))))
