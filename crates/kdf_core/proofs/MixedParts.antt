-- The loop of `mix_parts`, which replaces the parts by their ROMix one by one. Its invariant says what the bytes before
-- part i are (`take`) and that those from part i on are unchanged (`drop`). `take-put_mid_part` and `drop-put_mid_part`
-- are one iteration of the loop, and `mixed_parts-from_first_parts` is the clause of `mix_parts` at its end.
use Rattle.std.proofs.Common.{◌≡◌, ℕ, ◌+◌, ◌*◌, ◌<◌, ◌≤◌, List, [], ◌∷◌, ◌++◌, length, take, drop, sym, ap, ◌∙◌, arith, ◌/◌}
use Rattle.std.specs.List.{flat_map, range_with_len}
use Rattle.std.proofs.lemmas.Grind.{flat_map-append}
use Rattle.std.proofs.lemmas.List.{append-nil, drop-drop, take_all}
use Rattle.std.proofs.lemmas.List.Folds.{flat_map-map}
use borrow.Rule.Slice.PartMut.{put_mid}
use Rattle.std.proofs.lemmas.Slice.{take-put_mid, drop-put_mid}
use Rattle.std.proofs.Math.Nat.{mul-div_cancel}
use Rattle.prims_core.specs.declared.meter.Work.{Work}
use Rattle.prims_core.specs.Words.{chunks_exact}
use Rattle.kdf_core.proofs.Pbkdf2Lemmas.{range_with_len-add_one}
use Rattle.kdf_core.specs.Scrypt.{mixed_part}
use Rattle.kdf_core.specs.ScryptMessages.{mixed_parts}

-- Counting n times 0 mixings, as before the first iteration, leaves the meter unchanged.
pub mixes-add_zero : (m : Work) (n : ℕ) → m ≡ record m { mixes = m.mixes + n * 0 }
mixes-add_zero m n = let none : m.mixes ≡ m.mixes + n * 0 = omega arith in ap (λ k. record m { mixes = k }) none

-- first_parts n size bytes count: the first `count` parts, of `size` bytes each, with each replaced by its ROMix with n
-- rows.
unfoldable pub first_parts : ℕ → ℕ → List ℕ → ℕ → List ℕ
first_parts n size bytes count =
    flat_map (λ i. mixed_part n (take size (drop (size * i) bytes))) (range_with_len 0 count)

-- Before the first iteration, both the replaced parts and the bytes before part 0 are an empty list.
pub first_parts-zero : (n size : ℕ) (bytes : List ℕ) → take (size * 0) bytes ≡ first_parts n size bytes 0
unfolding first_parts
first_parts-zero n size bytes = let none : size * 0 ≡ 0 = omega arith in ap (λ m. take m bytes) none

-- The first i + 1 replaced parts are the first i replaced parts, followed by the ROMix of part i.
first_parts-add_one : (n size : ℕ) (bytes : List ℕ) (i : ℕ)
    → first_parts n size bytes (i + 1) ≡ first_parts n size bytes i ++ mixed_part n (take size (drop (size * i) bytes))
unfolding first_parts
first_parts-add_one n size bytes i =
    let each = λ (k : ℕ). mixed_part n (take size (drop (size * k) bytes)) in
    let here : 0 + i ≡ i = omega arith in
    ap (flat_map each) (range_with_len-add_one 0 i)
    ∙ (flat_map-append each (range_with_len 0 i) ((0 + i) ∷ [])
    ∙ (ap (λ k. flat_map each (range_with_len 0 i) ++ (each k ++ [])) here
    ∙ ap (λ (b : List ℕ). flat_map each (range_with_len 0 i) ++ b) (append-nil (each i))))

-- After the ROMix of part i is written over part i, the first i + 1 parts are replaced.
pub take-put_mid_part : (n size i k : ℕ) (start old part : List ℕ) → size * i + size ≤ length old → k ≡ size
    → take (size * i) old ≡ first_parts n size start i → drop (size * i) old ≡ drop (size * i) start
    → part ≡ mixed_part n (take k (drop (size * i) old)) → length part ≡ size
    → take (size * (i + 1)) (put_mid (size * i) k old part) ≡ first_parts n size start (i + 1)
take-put_mid_part n size i k start old part part_fits width_is done to_come part_is length_part =
    let at = size * i in
    let next_start : size * (i + 1) ≡ at + size = omega arith in
    let part_end : at + size ≡ at + length part = omega arith in
    let within : at ≤ length old = omega arith in
    -- Part i is still as at the start, so its ROMix is the one that `first_parts` has.
    let part_read : take k (drop at old) ≡ take size (drop at start) = ap (λ m. take m (drop at old)) width_is ∙ ap (take size) to_come in
    ap (λ m. take m (put_mid at k old part)) next_start
    ∙ (take-put_mid at k old part (at + size) part_end within
    ∙ (ap (λ (front : List ℕ). front ++ part) done
    ∙ (ap (λ (b : List ℕ). first_parts n size start i ++ b) (part_is ∙ ap (mixed_part n) part_read)
    ∙ sym (first_parts-add_one n size start i))))

-- After the ROMix of part i is written over part i, the parts after it are still as at the start.
pub drop-put_mid_part : (size i k : ℕ) (start old part : List ℕ) → size * i + size ≤ length old → k ≡ size
    → drop (size * i) old ≡ drop (size * i) start → length part ≡ size
    → drop (size * (i + 1)) (put_mid (size * i) k old part) ≡ drop (size * (i + 1)) start
drop-put_mid_part size i k start old part part_fits width_is to_come length_part =
    let at = size * i in
    let next_start : size * (i + 1) ≡ at + size = omega arith in
    let part_end : at + k ≤ at + size = omega arith in
    let within : at ≤ length old = omega arith in
    let width_filled : length part ≡ k = omega arith in
    ap (λ m. drop m (put_mid at k old part)) next_start
    ∙ (drop-put_mid at k old part (at + size) part_end within width_filled
    ∙ (sym (drop-drop size at old)
    ∙ (ap (drop size) to_come
    ∙ (drop-drop size at start ∙ ap (λ m. drop m start) (sym next_start)))))

-- When all parts are replaced, the bytes are those of `mixed_parts`.
pub mixed_parts-from_first_parts : (n size count : ℕ) (start old : List ℕ) → 0 < size → length start ≡ size * count → length old ≡ length start
    → take (size * count) old ≡ first_parts n size start count → old ≡ mixed_parts n size start
unfolding mixed_parts chunks_exact first_parts
mixed_parts-from_first_parts n size count start old size_positive length_start same_length done =
    let within : length old ≤ size * count = omega arith in
    let mul_turned : size * count ≡ count * size = omega arith in
    let quotient : length start / size ≡ count = ap (λ m. m / size) (length_start ∙ mul_turned) ∙ mul-div_cancel count size_positive in
    let cut = λ (i : ℕ). take size (drop (size * i) start) in
    sym (take_all (size * count) old within)
    ∙ (done
    ∙ (ap (λ m. first_parts n size start m) (sym quotient)
    ∙ sym (flat_map-map (mixed_part n) cut (range_with_len 0 (length start / size)))))
