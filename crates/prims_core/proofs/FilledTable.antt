-- The rows that `fill_by_mixing` has filled so far: each row i of them holds the start after i mixings (`HasMixings`).
-- The loop adds two rows at a time, by `HasMixings-append_two`. Once all rows are filled,
-- `HoldsMixings-from_HasMixings` gives the clause `rows`. `mix_with_rows` and `mix_parts` of kdf_core also use the
-- lemmas on iterations and on counted mixings.
use Rattle.std.proofs.Common.{◌≡◌, ℕ, zero, suc, ◌+◌, ◌*◌, ◌/◌, ◌<◌, ◌≤◌, List, [], ◌++◌, length, take, drop, refl, sym, ◌∙◌, ap, arith, below_more, length-append, length-drop}
use Rattle.std.specs.Fn.{iterate}
use Rattle.std.proofs.Math.Nat.{mul-le-mul_left}
use Rattle.std.proofs.lemmas.List.{drop-append-le, take-append-le, drop_at, take_all}
use Rattle.std.proofs.lemmas.Nat.{rows}
use Rattle.prims_core.specs.BlockMix.{block_mix}
use Rattle.prims_core.specs.Diagonals.{in_rows}
use Rattle.prims_core.specs.Memory.{rows_of, HoldsMixings}
use Rattle.prims_core.specs.declared.meter.Work.{Work}
use Rattle.prims_core.proofs.TableFacts.{get_or-rows_of}

-- Applying h n + 1 times is applying it n times and then once more.
pub iterate-add_one : (h : List ℕ → List ℕ) (n : ℕ) (x : List ℕ) → iterate h (n + 1) x ≡ h (iterate h n x)
iterate-add_one h zero x = refl
iterate-add_one h (suc n) x =
    let next : suc n + 1 ≡ suc (n + 1) = omega arith in
    ap (λ k. iterate h k x) next ∙ iterate-add_one h n (h x)

-- Applying h 2n times and then twice more is applying it 2(n + 1) times. The values between the applications are given
-- by equations.
pub iterate-add_two : (h : List ℕ → List ℕ) (n : ℕ) (x a b c : List ℕ) → a ≡ iterate h (2 * n) x → b ≡ h a → c ≡ h b
    → c ≡ iterate h (2 * (n + 1)) x
iterate-add_two h n x a b c a_is b_is c_is =
    let count_is : 2 * n + 1 + 1 ≡ 2 * (n + 1) = omega arith in
    let b_iterated : b ≡ iterate h (2 * n + 1) x = b_is ∙ (ap h a_is ∙ sym (iterate-add_one h (2 * n) x)) in
    c_is ∙ (ap h b_iterated ∙ (sym (iterate-add_one h (2 * n + 1) x) ∙ ap (λ k. iterate h k x) count_is))

-- A meter that counts m mixings and then n mixings has counted m + n mixings.
pub mixes-add : (a b c : Work) (m n all : ℕ) → b ≡ record a { mixes = a.mixes + m } → c ≡ record b { mixes = b.mixes + n } → m + n ≡ all
    → c ≡ record a { mixes = a.mixes + all }
mixes-add a b c m n all b_is c_is sum_is =
    let counted : a.mixes + m + n ≡ a.mixes + all = omega arith in
    c_is ∙ (ap (λ (x : Work). record x { mixes = x.mixes + n }) b_is ∙ ap (λ k. record a { mixes = k }) counted)

-- HasMixings items w count start: the list consists of `count` rows of w words, and row i, which is in diagonal order,
-- holds `start` after i mixings.
pub record HasMixings (items : List ℕ) (w count : ℕ) (start : List ℕ) : Type 0 where
  pub long : length items ≡ count * w
  pub held : (i : ℕ) → i < count → in_rows (take w (drop (i * w) items)) ≡ iterate block_mix i start

-- `HasMixings` holds of an empty list and no rows.
pub HasMixings-nil : (w : ℕ) (start : List ℕ) → HasMixings [] w 0 start
HasMixings-nil w start = record { long = omega arith; held = λ i none. absurd (omega arith) }

-- If `HasMixings` holds of `count` rows, and `start` mixed `count` times is appended as a row, it holds of `count` + 1
-- rows.
pub HasMixings-append : (items row start : List ℕ) (w count : ℕ) → HasMixings items w count start → length row ≡ w
    → in_rows row ≡ iterate block_mix count start → HasMixings (items ++ row) w (count + 1) start
HasMixings-append items row start w count before length_row row_mixed =
    record {
      long = length-append items row ∙ omega (arith, before.long, length_row);
      held = below_more _ _
          (λ (i : ℕ) (inside : i < count).
          let row_fits : i * w + w ≤ count * w = grind (arith, rows) in
          let row_ends : i * w + w ≤ length items = omega (arith, before.long, row_fits) in
          ap in_rows (ap (take w) (drop-append-le (i * w) items row (omega (arith, row_ends)))
          ∙ take-append-le w (drop (i * w) items) row (omega (arith, row_ends, length-drop (i * w) items)))
          ∙ before.held i inside)
          (ap in_rows (ap (take w) (drop_at items row (count * w) before.long) ∙ take_all w row (omega (arith, length_row))) ∙ row_mixed);
    }

-- If `HasMixings` holds of 2i rows, and two rows are appended, x, which is the start mixed 2i times, and y, which is x
-- mixed once more, then it holds of 2(i + 1) rows. This is one iteration of the loop of `fill_by_mixing`.
pub HasMixings-append_two : (items once twice x y start : List ℕ) (w i : ℕ) → HasMixings items w (2 * i) start → length x ≡ w → length y ≡ w
    → in_rows x ≡ iterate block_mix (2 * i) start → in_rows y ≡ block_mix (in_rows x) → once ≡ items ++ x → twice ≡ once ++ y
    → HasMixings twice w (2 * (i + 1)) start
HasMixings-append_two items once twice x y start w i before length_x length_y x_mixed y_mixed once_is twice_is =
    let count_is : 2 * i + 1 + 1 ≡ 2 * (i + 1) = omega arith in
    let with_x : HasMixings once w (2 * i + 1) start = rw once_is (HasMixings-append items x start w (2 * i) before length_x x_mixed) in
    rw (twice_is, ← count_is) (HasMixings-append once y start w (2 * i + 1) with_x length_y
    (y_mixed ∙ (ap block_mix x_mixed ∙ sym (iterate-add_one block_mix (2 * i) start))))

-- After i iterations, of two rows of w words each, memory for n rows has space for two more rows if i is below n / 2.
pub two_more_rows-fit : (n w i : ℕ) → i < n / 2 → 2 * i * w + w + w ≤ n * w
two_more_rows-fit n w i inside =
    let more : 2 * i + 2 ≤ n = omega arith in
    omega (arith, mul-le-mul_left w more)

-- If `HasMixings` holds of a list with n rows, then `HoldsMixings` holds of these rows as a table.
pub HoldsMixings-from_HasMixings : (n w : ℕ) (items start : List ℕ) → HasMixings items w n start → HoldsMixings (rows_of n w items) n start
HoldsMixings-from_HasMixings n w items start filled = λ i inside. ap in_rows (get_or-rows_of n w items i [] inside) ∙ filled.held i inside
