-- Finds the bytes from which a text of the right length and characters was packed, for `is_packed` in src/pack.rt. The
-- proof goes by induction over the groups: any four characters of the alphabet are three packed bytes, and only the
-- last group, of one or two bytes, needs the bound on the text's last character. `Unpacks` holds the bytes in the order
-- of the groups; PackedTexts puts them at their indices.
use Rattle.std.proofs.Common.{◌≡◌, ℕ, ◌+◌, ◌-◌, ◌*◌, ◌^◌, ◌<◌, ◌≤◌, Bool, true, false, List, [], ◌∷◌, ◌++◌, length, take, drop, get_or, map, eqb, arith, sym, subst, ap, ◌∙◌}
use Rattle.std.specs.Prelude.{◌&&◌, All, Contains, flat_map, nat_le, slice_index, sum_by}
use Rattle.std.proofs.lemmas.Bool.{and_parts, eqb-true, leb-true}
use Rattle.std.proofs.lemmas.List.{append-nil, get_or-drop, length-append, length-drop, length-map, length-take, map-append, take-append-drop}
use Rattle.std.proofs.lemmas.List.Elements.{All-append, All-drop, All-take}
use Rattle.std.proofs.lemmas.List.Folds.{fold-map}
use Rattle.std.proofs.lemmas.List.Sums.{sum_by-cons}
use Rattle.prims_core.specs.Alphabet.{alphabet, character_of, numerals}
use Rattle.prims_core.proofs.AlphabetFacts.{character_of-injective, value-from_Contains}
use Rattle.crypt_core.specs.Packing.{packed_group, group_number}
use Rattle.crypt_core.proofs.DollarFields.{append-injective}
use Rattle.crypt_core.proofs.PackingLemmas.{packed_by}
use Rattle.crypt_core.proofs.GroupNumbers.{number-from_characters, number_below-iff-last_value_below, bytes_of, joined, length-bytes_of, All-bytes_of, joined-bytes_of}

-- EndsBelow bound text: the value of the last character is below this bound.
unfoldable pub EndsBelow : ℕ → List ℕ → Type 0
EndsBelow bound text = (v : ℕ) × (v < bound) × (get_or text (length text - 1) 0 ≡ character_of v)

-- order groups: the indices of all groups, one after another.
unfoldable pub order : List (List ℕ) → List ℕ
order groups = flat_map (λ (places : List ℕ). places) groups

-- Unpacks groups text: the text is unpacked to `bytes`. Every digest that has these bytes at the indices of the groups
-- is packed as the text.
pub record Unpacks (groups : List (List ℕ)) (text : List ℕ) : Type 0 where
  pub bytes : List ℕ
  pub are_bytes : All (λ b. b < 256) bytes
  pub count : length bytes ≡ length (order groups)
  pub packs : (digest : List ℕ) → map (slice_index digest) (order groups) ≡ bytes → packed_by groups digest ≡ text

-- Unpacks a text that has the length of one packed group, and whose last character has a value that is possible for
-- this group. `last_value` is the value of the last character: `.2` says that it is below 4^k exactly if the number is
-- below 256^k, and `.3` that the character has it.
Unpacks-one_group : (places text : List ℕ) → length text ≡ length places + 1 → All (Contains alphabet) text → EndsBelow (4 ^ length places) text
    → 4 ^ length places ≤ 64 → Unpacks (places ∷ []) text
unfolding EndsBelow order joined
Unpacks-one_group places text long all ends few =
    let k = length places in
    let number = number-from_characters text all in
    let n = number.0 in
    let numeral : numerals (k + 1) n ≡ text = ap (λ m. numerals m n) (sym long) ∙ number.2 in
    let last_value = number_below-iff-last_value_below k n (rw (← long) number.1) in
    let last_index : length text - 1 ≡ k = omega arith in
    let same_character : character_of last_value.0 ≡ character_of ends.0 =
    sym last_value.3 ∙ ap (λ (cs : List ℕ). get_or cs k 0) numeral ∙ ap (λ i. get_or text i 0) (sym last_index) ∙ ends.2 in
    let same_value : last_value.0 ≡ ends.0 = character_of-injective last_value.0 ends.0 last_value.1 (omega (arith, ends.1)) same_character in
    let number_below : n < 256 ^ k = last_value.2.1 (omega (arith, ends.1)) in
    record {
      bytes = bytes_of k n;
      are_bytes = All-bytes_of k n;
      count = length-bytes_of k n ∙ ap length (sym (append-nil places));
      packs = λ digest e.
          let bytes_at_places : map (slice_index digest) places ≡ bytes_of k n = ap (map (slice_index digest)) (sym (append-nil places)) ∙ e in
          let number_is : group_number digest places ≡ n =
          sym (fold-map (λ number byte. number * 256 + byte) (slice_index digest) 0 places) ∙ ap joined bytes_at_places ∙ joined-bytes_of k n number_below in
          append-nil (packed_group digest places) ∙ ap (numerals (k + 1)) number_is ∙ numeral;
    }

-- Unpacks a text by a first group and then others, if its front is unpacked by the first group and its rest by the
-- others.
Unpacks-cons : (places : List ℕ) (groups : List (List ℕ)) (front text : List ℕ) → Unpacks (places ∷ []) front → Unpacks groups text
    → Unpacks (places ∷ groups) (front ++ text)
unfolding order
Unpacks-cons places groups front text one more = record {
  bytes = one.bytes ++ more.bytes;
  are_bytes = All-append (λ b. b < 256) one.bytes more.bytes one.are_bytes more.are_bytes;
  count = omega (arith, one.count, more.count, length-append one.bytes more.bytes, length-append places (order groups), ap length (append-nil places));
  packs = λ digest e.
      let at = slice_index digest in
      let parts = append-injective (map at places) one.bytes (map at (order groups)) more.bytes
      (length-map places at ∙ ap length (sym (append-nil places)) ∙ sym one.count)
      (sym (map-append at places (order groups)) ∙ e) in
      let here : packed_by (places ∷ []) digest ≡ front = one.packs digest (ap (map at) (append-nil places) ∙ parts.0) in
      let rest = more.packs digest parts.1 in
      rw rest (ap (λ (cs : List ℕ). cs ++ text) (sym (append-nil (packed_group digest places)) ∙ here));
}

-- fills bound groups: every group has three indices, except for the last one, whose last character then has a value
-- below this bound.
unfoldable pub fills : ℕ → List (List ℕ) → Bool
fills bound [] = false
fills bound (places ∷ []) = eqb (4 ^ length places) bound && nat_le bound 64
fills bound (places ∷ next ∷ groups) = eqb (length places) 3 && fills bound (next ∷ groups)

-- text_length groups: the number of characters of a packed digest with these groups.
unfoldable pub text_length : List (List ℕ) → ℕ
text_length groups = sum_by (λ places. length places + 1) groups

-- Unpacks a text of several groups, one group after another.
pub Unpacks-from_fills : (bound : ℕ) (groups : List (List ℕ)) (text : List ℕ) → fills bound groups ≡ true → length text ≡ text_length groups
    → All (Contains alphabet) text → EndsBelow bound text → Unpacks groups text
unfolding fills EndsBelow text_length
Unpacks-from_fills bound [] text h long all ends = absurd (cc h)
Unpacks-from_fills bound (places ∷ []) text h long all ends =
    let tests = and_parts _ _ h in
    let bound_is : 4 ^ length places ≡ bound = eqb-true _ _ tests.0 in
    let few = leb-true bound 64 tests.1 in
    Unpacks-one_group places text (omega arith) all (rw bound_is ends) (omega arith)
Unpacks-from_fills bound (places ∷ next ∷ groups) text h long all ends =
    let tests = and_parts _ _ h in
    let three : length places ≡ 3 = eqb-true _ _ tests.0 in
    let front = take 4 text in
    let rest = drop 4 text in
    let sum = sum_by-cons (λ (ps : List ℕ). length ps + 1) places (next ∷ groups) in
    let next_sum = sum_by-cons (λ (ps : List ℕ). length ps + 1) next groups in
    let front_long : length front ≡ 4 = omega (arith, length-take 4 text) in
    let rest_long : length rest ≡ length text - 4 = length-drop 4 text in
    let value = value-from_Contains (get_or front (length front - 1) 0) (All-take (Contains alphabet) 4 text all (length front - 1) 0 (omega arith)) in
    let power : 4 ^ length places ≡ 64 = ap (λ k. 4 ^ k) three in
    let last_index : 4 + (length rest - 1) ≡ length text - 1 = omega arith in
    let ends_rest : EndsBelow bound rest =
    (ends.0, ends.1, get_or-drop 4 text (length rest - 1) 0 ∙ ap (λ i. get_or text i 0) last_index ∙ ends.2) in
    subst (Unpacks (places ∷ next ∷ groups)) (take-append-drop 4 text)
    (Unpacks-cons places (next ∷ groups) front rest
    (Unpacks-one_group places front (omega arith) (All-take (Contains alphabet) 4 text all) (rw power (value.0, value.1, sym value.2)) (omega arith))
    (Unpacks-from_fills bound (next ∷ groups) rest tests.1 (omega arith) (All-drop (Contains alphabet) 4 text all) ends_rest))
