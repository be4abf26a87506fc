-- Lemmas for `same_bytes` in src/same.rt. The loop keeps in `differ` the OR of all byte differences so far;
-- `differ-zero_iff_fronts_equal` shows that `differ` is 0 exactly if the bytes so far are equal, and
-- `differ-zero_is_bytes_eq` that after the last byte, testing `differ` for 0 gives the result of `==`.
use Rattle.std.proofs.Common.{◌≡◌, ◌<◌, ◌≤◌, ◌+◌, ◌∙◌, ◌↔◌, ℕ, nat_eq, List, take, length, get_or, bit_or, bit_xor, bytes_eq, refl, sym, ap, arith}
use Rattle.std.specs.Cmp.{unsigned_Decides}
use Rattle.std.proofs.lemmas.Bool.Decides.{same_from_decides}
use Rattle.std.proofs.lemmas.List.{get_or-take, take-take, take_all, take_more_same}
use Rattle.std.proofs.lemmas.Slice.Eq.{bytes_eq-Decides}
use Rattle.std.proofs.lemmas.Nat.{and_le_l, and_le_r, le_or_l, le_or_r}
use lib.Bits.{xor_add_and, xor_self}

-- One step of the loop: if `differ` is right for the first i bytes, that is, if it is 0 exactly when they are equal,
-- then after the OR with the next difference it is right for the first i + 1 bytes.
pub differ-zero_iff_fronts_equal : (xs ys : List ℕ) (i differ : ℕ) → i < length xs → i < length ys → differ ≡ 0 ↔ take i xs ≡ take i ys
    → bit_or differ (bit_xor (get_or xs i 0) (get_or ys i 0)) ≡ 0 ↔ take (i + 1) xs ≡ take (i + 1) ys
differ-zero_iff_fronts_equal xs ys i differ inside also so_far =
    let x = get_or xs i 0 in
    let y = get_or ys i 0 in
    let equal_if_zero : bit_or differ (bit_xor x y) ≡ 0 → take (i + 1) xs ≡ take (i + 1) ys = λ e.
    let before : differ ≡ 0 = omega (arith, le_or_l differ (bit_xor x y), e) in
    let here : bit_xor x y ≡ 0 = omega (arith, le_or_r differ (bit_xor x y), e) in
    let same : x ≡ y = omega (arith, xor_add_and x y, and_le_l x y, and_le_r x y, here) in
    take_more_same xs ys i 0 inside also (so_far.0 before) same in
    let zero_if_equal : take (i + 1) xs ≡ take (i + 1) ys → bit_or differ (bit_xor x y) ≡ 0 = λ e.
    let fronts : take i xs ≡ take i ys =
    sym (take-take i (i + 1) xs (omega arith)) ∙ ap (λ (l : List ℕ). take i l) e ∙ take-take i (i + 1) ys (omega arith) in
    let before : differ ≡ 0 = so_far.1 fronts in
    let here : x ≡ y = sym (get_or-take (i + 1) xs i 0 (omega arith)) ∙ ap (λ (l : List ℕ). get_or l i 0) e ∙ get_or-take (i + 1) ys i 0 (omega arith) in
    rw (before, here, xor_self y) refl in
    (equal_if_zero, zero_if_equal)

-- After the last byte, comparing the OR of all differences with 0 gives the same result as `==`.
pub differ-zero_is_bytes_eq : (xs ys : List ℕ) (i differ : ℕ) → length xs ≡ length ys → length xs ≤ i → differ ≡ 0 ↔ take i xs ≡ take i ys
    → nat_eq differ 0 ≡ bytes_eq xs ys
differ-zero_is_bytes_eq xs ys i differ long whole so_far =
    let all : differ ≡ 0 ↔ xs ≡ ys = rw (← take_all i xs whole, ← take_all i ys (omega arith)) so_far in
    let test = unsigned_Decides differ 0 in
    let same = bytes_eq-Decides xs ys in
    same_from_decides (nat_eq differ 0) (bytes_eq xs ys) (λ e. all.0 (test.0 e), λ e. test.1 (all.1 e)) same
