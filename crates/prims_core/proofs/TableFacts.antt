-- The rows of a table in one list of words, for `Table` and, in kdf_core, `mix_back`: where row i starts and ends, what
-- reading it gives, and what writing it changes. A list that is shorter than the table counts as followed by zeros
-- (`padded`). So a row after its end reads as zeros, and appending zeros leaves the table as it is. For `set_row`,
-- `rows_of-written` shows that writing a row replaces it and keeps the others.
use Rattle.std.proofs.Common.{◌≡◌, ℕ, zero, suc, ◌+◌, ◌-◌, ◌*◌, ◌<◌, ◌≤◌, List, [], ◌∷◌, ◌++◌, length, get_or, set, take, drop, replicate, refl, sym, ◌∙◌, ap, arith, length-take, length-drop, length-append, length-take-le, append_assoc, zero-add}
use Rattle.std.proofs.Math.Nat.{suc-mul, zero-mul}
use Rattle.std.proofs.Math.Seq.{take-add, drop-append-add}
use Rattle.std.proofs.lemmas.List.{length-replicate, drop-drop, drop-append-le, take-append-le, take_at, drop_at, take-replicate, drop-replicate, replicate-append-replicate}
use Rattle.std.proofs.lemmas.Nat.{rows}
use borrow.Rule.Slice.PartMut.{put_mid}
use Rattle.prims_core.specs.Memory.{rows_of, padded, HasShape, IsLaidOut}

pub length-rows_of : (n w : ℕ) (xs : List ℕ) → length (rows_of n w xs) ≡ n
unfolding rows_of
length-rows_of zero w xs = refl
length-rows_of (suc n) w xs = ap suc (length-rows_of n w (drop w xs))

-- Row i of a table of rows of w words is the w words of the list from place i * w on.
pub get_or-rows_of : (n w : ℕ) (xs : List ℕ) (i : ℕ) (d : List ℕ) → i < n
    → get_or (rows_of n w xs) i d ≡ take w (drop (i * w) xs)
unfolding rows_of
get_or-rows_of zero w xs i d inside = absurd (omega arith)
get_or-rows_of (suc n) w xs zero d inside = rw zero-mul refl
get_or-rows_of (suc n) w xs (suc i) d inside =
    get_or-rows_of n w (drop w xs) i d (omega arith)
    ∙ ap (take w) (drop-drop (i * w) w xs ∙ ap (λ (k : ℕ). drop k xs) (omega (arith, suc-mul i w)))

-- A table that equals `rows_of n w` of a list has n rows. The lemmas below give their table by such an equation too.
pub length-table : (n w : ℕ) (xs : List ℕ) (table : List (List ℕ)) → rows_of n w xs ≡ table → length table ≡ n
length-table n w xs table table_is = sym (ap length table_is) ∙ length-rows_of n w xs

-- A number below the length of a table of n rows is below n, and the row with this number ends within the list.
pub row_number-lt : (n w : ℕ) (xs : List ℕ) (table : List (List ℕ)) (i : ℕ) → rows_of n w xs ≡ table
    → i < length table → i < n
row_number-lt n w xs table i table_is inside = omega (arith, ap length table_is, length-rows_of n w xs)

-- Each row of the table ends within the words of the table.
pub row_ends_within : (n w : ℕ) (xs : List ℕ) (table : List (List ℕ)) (i : ℕ) → rows_of n w xs ≡ table
    → i < length table → i * w + w ≤ n * w
row_ends_within n w xs table i table_is inside =
    let row_below : i < n = row_number-lt n w xs table i table_is inside in
    grind (arith, rows)

-- Reading w words from place i * w on gives row i, which has w words.
pub take_drop-row : (n w : ℕ) (xs : List ℕ) (table : List (List ℕ)) (i : ℕ) → rows_of n w xs ≡ table
    → i < length table → take w (drop (i * w) xs) ≡ get_or table i []
take_drop-row n w xs table i table_is inside =
    sym (get_or-rows_of n w xs i [] (row_number-lt n w xs table i table_is inside))
    ∙ ap (λ (rows : List (List ℕ)). get_or rows i []) table_is

pub length-row : (n w : ℕ) (xs : List ℕ) (table : List (List ℕ)) (i : ℕ) → rows_of n w xs ≡ table
    → i < length table → n * w ≤ length xs → length (get_or table i []) ≡ w
length-row n w xs table i table_is inside whole =
    ap length (sym (take_drop-row n w xs table i table_is inside))
    ∙ length-take-le w (drop (i * w) xs) (omega (arith, length-drop (i * w) xs, row_ends_within n w xs table i table_is inside))

-- A list of at most `size` items has `size` items after padding.
pub length-padded : (size : ℕ) (xs : List ℕ) → length xs ≤ size → length (padded size xs) ≡ size
length-padded size xs inside = simp (length-append, length-replicate) (omega (arith, inside))

-- A row that is as long as row i of a table of rows of w words, as `set_row` requires, has w words.
pub length-accepted_row : (n w : ℕ) (xs row : List ℕ) (table : List (List ℕ)) (i : ℕ) → rows_of n w (padded (n * w) xs) ≡ table
    → i < length table → length xs ≤ n * w → length row ≡ length (get_or table i []) → length row ≡ w
length-accepted_row n w xs row table i table_is inside within same_length =
    same_length ∙ length-row n w (padded (n * w) xs) table i table_is inside (omega (arith, length-padded (n * w) xs within))

-- If a table has the shape of `rows` rows of `words` words, these are no more words than the padded list has.
-- `into_words` needs this.
pub HasShape-le : (n w rows words : ℕ) (xs : List ℕ) (table : List (List ℕ)) → rows_of n w (padded (n * w) xs) ≡ table
    → length xs ≤ n * w → HasShape table rows words → rows * words ≤ n * w
HasShape-le n w zero words xs table table_is within shape = omega (arith, zero-mul words)
HasShape-le n w (suc rows) words xs table table_is within shape =
    let rows_are_n : suc rows ≡ n = sym (shape.row_count) ∙ length-table n w (padded (n * w) xs) table table_is in
    let some_row : 0 < length table = omega (arith, shape.row_count) in
    let words_are_w : words ≡ w =
    sym (shape.row_words 0 (omega arith))
    ∙ length-row n w (padded (n * w) xs) table 0 table_is some_row (omega (arith, length-padded (n * w) xs within)) in
    rw (rows_are_n, words_are_w) (omega arith)

-- A list of zeros, cut into rows, is rows of zeros.
pub rows_of-replicate : (n w : ℕ) → rows_of n w (replicate (n * w) 0) ≡ replicate n (replicate w 0)
unfolding rows_of
rows_of-replicate zero w = refl
rows_of-replicate (suc n) w =
    let size_split : suc n * w ≡ n * w + w = suc-mul n w in
    let first_row : take w (replicate (n * w + w) zero) ≡ replicate w zero =
    take-replicate w (n * w + w) zero (omega arith) in
    let rest_size : n * w + w - w ≡ n * w = omega arith in
    let other_rows : drop w (replicate (n * w + w) zero) ≡ replicate (n * w) zero =
    drop-replicate w (n * w + w) zero ∙ ap (λ (k : ℕ). replicate k zero) rest_size in
    rw (size_split, first_row, other_rows, rows_of-replicate n w) refl

-- Writing a row of w words at place i * w replaces row i and keeps the others. The proof goes by induction over the
-- rows.
pub rows_of-written : (n w i : ℕ) (xs row : List ℕ) → i < n → length row ≡ w → n * w ≤ length xs
    → rows_of n w (take (i * w) xs ++ (row ++ drop (i * w + w) xs)) ≡ set (rows_of n w xs) i row
unfolding rows_of
rows_of-written zero w i xs row inside length_row whole = absurd (omega arith)
rows_of-written (suc n) w zero xs row inside length_row whole =
    rw (zero-mul, zero-add, take_at row (drop w xs) w length_row, drop_at row (drop w xs) w length_row) refl
rows_of-written (suc n) w (suc i) xs row inside length_row whole =
    let row_start : suc i * w ≡ w + i * w = omega (arith, suc-mul i w) in
    let length_first : length (take w xs) ≡ w = length-take-le w xs (omega (arith, suc-mul n w)) in
    let others : List ℕ = drop w xs in
    -- The first row is kept. The rest of the list is the list of the other rows, in which the row is written over row
    -- i.
    let first_kept : take (suc i * w) xs ++ (row ++ drop (suc i * w + w) xs)
    ≡ take w xs ++ (take (i * w) others ++ (row ++ drop (i * w + w) others)) =
    rw (row_start, take-add w (i * w) xs, append_assoc, drop-drop (i * w + w) w xs)
    (ap (λ (k : ℕ). take w xs ++ (take (i * w) (drop w xs) ++ (row ++ drop k xs))) (omega arith)) in
    let others_written : rows_of n w (take (i * w) others ++ (row ++ drop (i * w + w) others)) ≡ set (rows_of n w others) i row =
    rows_of-written n w i others row (omega arith) length_row (omega (arith, length-drop w xs, suc-mul n w)) in
    rw (
      first_kept,
      take_at (take w xs) (take (i * w) others ++ (row ++ drop (i * w + w) others)) w length_first,
      drop_at (take w xs) (take (i * w) others ++ (row ++ drop (i * w + w) others)) w length_first,
    )
    (ap (λ (xss : List (List ℕ)). take w xs ∷ xss) others_written)

-- Appending zeros to a list doesn't change the padded list, so the table stays the same.
pub padded-append_zeros : (size len : ℕ) (xs : List ℕ) → len ≤ size
    → padded size (xs ++ replicate (len - length xs) 0) ≡ padded size xs
padded-append_zeros size len xs inside =
    let length_filled : length (xs ++ replicate (len - length xs) zero) ≡ length xs + (len - length xs) =
    simp (length-append, length-replicate) refl in
    rw (
      length_filled,
      append_assoc xs (replicate (len - length xs) zero) (replicate (size - (length xs + (len - length xs))) zero),
      replicate-append-replicate (len - length xs) (size - (length xs + (len - length xs))) zero,
    )
    (ap (λ (k : ℕ). xs ++ replicate k zero) (omega (arith, inside)))

-- Zeros after the words that were written do not change the rows, which are padded with zeros.
pub rows_of-append_zeros : (n w end : ℕ) (xs ys : List ℕ) (table : List (List ℕ)) → rows_of n w (padded (n * w) xs) ≡ table
    → end ≤ n * w → ys ≡ xs ++ replicate (end - length xs) 0 → rows_of n w (padded (n * w) ys) ≡ table
rows_of-append_zeros n w end xs ys table table_is inside ys_filled =
    ap (λ (list : List ℕ). rows_of n w (padded (n * w) list)) ys_filled ∙ ap (rows_of n w) (padded-append_zeros (n * w) end xs inside) ∙ table_is

-- Writing over a part of a list and then padding the list is the same as writing over that part of the padded list.
pub padded-put_mid : (size start count : ℕ) (xs row : List ℕ) → start + count ≤ length xs → length row ≡ count
    → padded size (put_mid start count xs row) ≡ put_mid start count (padded size xs) row
padded-put_mid size start count xs row inside length_row =
    let zeros : List ℕ = replicate (size - length xs) zero in
    let same_length : length (put_mid start count xs row) ≡ length xs =
    simp (length-append, length-take, length-drop) (omega (arith, inside, length_row)) in
    rw (
      same_length,
      append_assoc (take start xs) (row ++ drop count (drop start xs)) zeros,
      append_assoc row (drop count (drop start xs)) zeros,
      take-append-le start xs zeros (omega (arith, inside)),
      drop-append-le start xs zeros (omega (arith, inside)),
      drop-append-le count (drop start xs) zeros (omega (arith, inside, length-drop start xs)),
    )
    refl

-- A row that ends within the list is read from the list. A row that starts after the end of the list is zeros.
pub take_drop-padded_row : (n w : ℕ) (xs : List ℕ) (table : List (List ℕ)) (i : ℕ) → rows_of n w (padded (n * w) xs) ≡ table
    → i < length table → i * w + w ≤ length xs → take w (drop (i * w) xs) ≡ get_or table i []
take_drop-padded_row n w xs table i table_is inside row_within =
    let zeros : List ℕ = replicate (n * w - length xs) zero in
    let read_row : take w (drop (i * w) (xs ++ zeros)) ≡ take w (drop (i * w) xs) =
    ap (take w) (drop-append-le (i * w) xs zeros (omega (arith, row_within)))
    ∙ take-append-le w (drop (i * w) xs) zeros (omega (arith, row_within, length-drop (i * w) xs)) in
    sym read_row ∙ take_drop-row n w (padded (n * w) xs) table i table_is inside

-- A row after the words that were written has only zeros.
pub replicate-padded_row : (n w : ℕ) (xs : List ℕ) (table : List (List ℕ)) (i : ℕ) → rows_of n w (padded (n * w) xs) ≡ table
    → i < length table → length xs ≤ i * w → replicate w 0 ≡ get_or table i []
replicate-padded_row n w xs table i table_is inside past_end =
    let zeros : List ℕ = replicate (n * w - length xs) zero in
    let row_ends : i * w + w ≤ n * w = row_ends_within n w (padded (n * w) xs) table i table_is inside in
    let row_start : i * w ≡ length xs + (i * w - length xs) = omega (arith, past_end) in
    let read_zeros : take w (drop (i * w) (xs ++ zeros)) ≡ replicate w zero =
    ap (λ (k : ℕ). take w (drop k (xs ++ zeros))) row_start
    ∙ ap (take w) (drop-append-add xs zeros (i * w - length xs) ∙ drop-replicate (i * w - length xs) (n * w - length xs) zero)
    ∙ take-replicate w (n * w - length xs - (i * w - length xs)) zero (omega (arith, past_end, row_ends)) in
    sym read_zeros ∙ take_drop-row n w (padded (n * w) xs) table i table_is inside

-- A list of whole rows that ends before the end of row i ends at the start of row i or before it.
pub multiple-le_row_start : (n w size i : ℕ) → size ≡ n * w → size < i * w + w → size ≤ i * w
multiple-le_row_start zero w size i size_is ends_before = rw (size_is, zero-mul) (omega arith)
multiple-le_row_start (suc n) w size zero size_is ends_before = absurd (omega (arith, size_is, ends_before, suc-mul n w))
multiple-le_row_start (suc n) w size (suc i) size_is ends_before =
    let rest_short : size - w < i * w + w = omega (arith, ends_before, size_is, suc-mul i w, suc-mul n w) in
    let rest_before : size - w ≤ i * w = multiple-le_row_start n w (size - w) i (omega (arith, size_is, suc-mul n w)) rest_short in
    omega (arith, rest_before, suc-mul i w)

-- A list of whole rows, extended by zeros to the end of row i if it is shorter, has whole rows again.
pub multiple-extended_to_row : (n w size i : ℕ) → size ≡ n * w → (m : ℕ) × (size + (i * w + w - size) ≡ m * w)
multiple-extended_to_row zero w size i size_is = (suc i, rw (size_is, zero-mul) (omega (arith, suc-mul i w)))
multiple-extended_to_row (suc n) w size zero size_is = (suc n, omega (arith, size_is, suc-mul n w))
multiple-extended_to_row (suc n) w size (suc i) size_is =
    let rest_extended : (m : ℕ) × (size - w + (i * w + w - (size - w)) ≡ m * w) =
    multiple-extended_to_row n w (size - w) i (omega (arith, size_is, suc-mul n w)) in
    (suc (rest_extended.0), omega (arith, rest_extended.1, size_is, suc-mul i w, suc-mul n w, suc-mul (rest_extended.0) w))

-- After `set_row` has extended a table's list to the end of a row, `IsLaidOut` still holds.
pub IsLaidOut-extended : (n w size room i size' room' : ℕ) → IsLaidOut n w size room → i * w + w ≤ n * w
    → size' ≡ size + (i * w + w - size) → room ≤ room' → IsLaidOut n w size' room'
IsLaidOut-extended n w size room i size' room' laid row_ends size_is room_le =
    let whole_rows : (m : ℕ) × (size + (i * w + w - size) ≡ m * w) = multiple-extended_to_row laid.whole.0 w size i laid.whole.1 in record {
      whole = (whole_rows.0, size_is ∙ whole_rows.1);
      inside = omega (arith, laid.inside, row_ends, size_is);
      fits = omega (arith, laid.fits, room_le);
      short = λ (less : size' < n * w). laid.short (omega (arith, less, size_is));
    }

-- The clause of `set_row`: after the row is written to the vector's list, the rows of the padded list are the table
-- with row i replaced.
pub rows_of-padded_put_mid : (n w : ℕ) (xs : List ℕ) (table : List (List ℕ)) (i size items : ℕ) (row : List ℕ)
    → rows_of n w (padded (n * w) xs) ≡ table → i < length table → i * w + w ≤ length xs → length xs ≤ n * w → items ≡ length xs
    → length row ≡ w → size ≡ w
    → rows_of n w (padded (n * w) (take items (put_mid (i * w) size xs row ++ drop (length (put_mid (i * w) size xs row)) xs)))
    ≡ set table i row
rows_of-padded_put_mid n w xs table i size items row table_is inside row_within within items_is length_row size_is =
    let same_length : length (put_mid (i * w) size xs row) ≡ items =
    simp (length-append, length-take, length-drop) (omega arith) in
    rw (
      take_at (put_mid (i * w) size xs row) (drop (length (put_mid (i * w) size xs row)) xs) items same_length,
      padded-put_mid (n * w) (i * w) size xs row (omega arith) (omega arith),
      size_is,
      drop-drop w (i * w) (padded (n * w) xs),
      rows_of-written n w i (padded (n * w) xs) row (row_number-lt n w (padded (n * w) xs) table i table_is inside) length_row
          (omega (arith, length-padded (n * w) xs within)),
    )
    (ap (λ (rows : List (List ℕ)). set rows i row) table_is)
