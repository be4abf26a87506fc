-- The loop of scryptBlockMix, for `put_result`, `mix_blocks` and `mix_and_append`: X from block to block, and the
-- results that are in their places so far. `ArePlaced-put_mid` adds a result; no two results have the same place, so it
-- overwrites none. When all 2r results are in their places, `in_rows-from_ArePlaced` shows that the output is the
-- results with even numbers followed by those with odd numbers.
use Rattle.std.proofs.Common.{◌≡◌, ℕ, ◌+◌, ◌-◌, ◌*◌, ◌/◌, ◌%◌, ◌<◌, ◌⊎◌, inl, inr, List, [], ◌++◌, length, take, map, refl, sym, ◌∙◌, ap, add-one, arith}
use borrow.Rule.Slice.PartMut.{put_mid}
use Rattle.std.specs.List.{concat, range_with_len}
use Rattle.std.proofs.lemmas.Bool.{cases_lt}
use Rattle.std.proofs.lemmas.List.FromFn.{get_or-map-range_with_len, length-map-range_with_len}
use Rattle.std.proofs.lemmas.List.{get_or_append_left, get_or-append_right, length-append}
use Rattle.std.proofs.Math.Seq.{take-add}
use Rattle.prims_core.specs.Private.Mixing.{mixed_block, place_of, ArePlaced}
use Rattle.prims_core.specs.BlockMix.{block_at, x_after}
use Rattle.prims_core.specs.Diagonals.{block_in_rows, in_rows}
use Rattle.prims_core.proofs.ChunkFacts.{concat-from_pieces}
use Rattle.prims_core.proofs.BlockFacts.{block_at-in_rows, length-in_rows, block_at-put_mid_same, block_at-put_mid_other}

-- X before the first block is the last block; X after one more block is Salsa20/8 of X XOR that block.
pub x_after-zero : (r : ℕ) (words : List ℕ) → x_after r words 0 ≡ block_at (2 * r - 1) words
unfolding x_after
x_after-zero r words = refl

pub x_after-add_one : (r : ℕ) (words : List ℕ) (i : ℕ) → x_after r words (i + 1) ≡ mixed_block (x_after r words i) (block_at i words)
unfolding x_after
x_after-add_one r words i = rw add-one refl

-- The place of result i is i / 2, rounded down, if i is even, and r places later if i is odd.
pub place_of-even_or_odd : (r i : ℕ)
    → ((i % 2 ≡ 0) × (place_of r i ≡ i / 2)) ⊎ ((i % 2 ≡ 1) × (place_of r i ≡ i / 2 + r))
place_of-even_or_odd r i = elim (cases_lt (i % 2) 1) [
  | inl even ↦ let is : i % 2 ≡ 0 = omega arith in inl (is, rw is (omega arith))
  | inr odd ↦ let is : i % 2 ≡ 1 = omega arith in inr (is, rw is (omega arith))
]

-- If results 0 to i - 1 are in their places, writing result i to its place leaves results 0 to i in their places.
pub ArePlaced-put_mid : (r i width : ℕ) (y : ℕ → List ℕ) (out x : List ℕ) → length out ≡ 32 * r
    → i < 2 * r → width ≡ 16 → length x ≡ 16 → block_in_rows x ≡ y i → ArePlaced y r i out
    → ArePlaced y r (i + 1) (put_mid (16 * place_of r i) width out x)
ArePlaced-put_mid r i width y out x length_out inside width_is length_x x_is_result placed = λ k so_far.
    let place : ℕ = place_of r i in
    -- A result k other than i has another place, so writing result i does not change it.
    let other : ℕ = place_of r k in
    let fits : place < 2 * r = omega (arith, place_of-even_or_odd r i) in
    elim (cases_lt k i) [
      | inl earlier ↦
          let other_place : (other < place) ⊎ (place < other) = elim (cases_lt other place) [
            | inl below ↦ inl below
            | inr above ↦ inr (omega (arith, place_of-even_or_odd r i, place_of-even_or_odd r k))
          ] in
          ap block_in_rows (block_at-put_mid_other place width other out x (omega arith) width_is length_x other_place) ∙ placed k earlier
      | inr now ↦
          let k_is_i : k ≡ i = omega arith in
          rw k_is_i (ap block_in_rows (block_at-put_mid_same place width out x (omega arith) length_x) ∙ x_is_result)
    ]

-- When all 2r results are in their places, the list is the results with even numbers followed by those with odd
-- numbers.
pub in_rows-from_ArePlaced : (r : ℕ) (y : ℕ → List ℕ) (out : List ℕ) → length out ≡ 32 * r → ArePlaced y r (2 * r) out
    → in_rows out ≡ concat (map (λ i. y (2 * i)) (range_with_len 0 r) ++ map (λ i. y (2 * i + 1)) (range_with_len 0 r))
in_rows-from_ArePlaced r y out length_out placed =
    let evens = map (λ i. y (2 * i)) (range_with_len 0 r) in
    let odds = map (λ i. y (2 * i + 1)) (range_with_len 0 r) in
    let length_evens : length evens ≡ r = length-map-range_with_len (λ i. y (2 * i)) 0 r in
    let length_odds : length odds ≡ r = length-map-range_with_len (λ i. y (2 * i + 1)) 0 r in
    let length_both : length (evens ++ odds) ≡ 2 * r = omega (arith, length-append evens odds) in
    -- Block p of `out`, rearranged to row order, is block p of `in_rows out`.
    let same_block : (p : ℕ) → p < 2 * r → block_in_rows (block_at p out) ≡ block_at p (in_rows out) =
    λ p inside. sym (block_at-in_rows out p (omega arith)) in
    -- If p is below r, block p is result 2p. Otherwise it is result 2q + 1, where q is p - r.
    concat-from_pieces 16 (evens ++ odds) (in_rows out) (omega (arith, length-in_rows out)) (λ p inside.
    elim (cases_lt p r) [
      | inl front ↦
          let place_is_p : place_of r (2 * p) ≡ p = omega (arith, place_of-even_or_odd r (2 * p)) in
          get_or_append_left evens odds [] p (omega arith)
          ∙ get_or-map-range_with_len (λ i. y (2 * i)) 0 r p p [] front (omega arith)
          ∙ sym (rw place_is_p at (placed (2 * p) (omega arith))) ∙ same_block p (omega arith)
      | inr back ↦
          let q = p - r in
          let place_is_p : place_of r (2 * q + 1) ≡ p = omega (arith, place_of-even_or_odd r (2 * q + 1)) in
          get_or-append_right evens odds r p [] length_evens back
          ∙ get_or-map-range_with_len (λ i. y (2 * i + 1)) 0 r q q [] (omega arith) (omega arith)
          ∙ sym (rw place_is_p at (placed (2 * q + 1) (omega arith))) ∙ same_block p (omega arith)
    ])

-- The first i blocks followed by block i are the first i + 1 blocks.
pub take-append-block_at : (i : ℕ) (src : List ℕ) → take (16 * i) src ++ block_at i src ≡ take (16 * (i + 1)) src
take-append-block_at i src =
    let more : 16 * (i + 1) ≡ 16 * i + 16 = omega arith in
    rw more (sym (take-add (16 * i) 16 src))
