-- Shows for `is_packed` in src/pack.rt that the packed digests of a method are exactly the texts of the method's
-- length, with characters of the alphabet, whose last character has a value below the method's limit. For such a text,
-- Unpacking gives bytes, and `digest_with` puts them at their indices to build a digest. Conversely, the last group of
-- a digest has one or two bytes, so the highest bits of its last character are 0.
use Rattle.std.proofs.Common.{◌≡◌, add-one, ℕ, suc, ◌+◌, ◌-◌, ◌*◌, ◌^◌, ◌<◌, ◌≤◌, Bool, true, List, [], ◌∷◌, ◌++◌, length, get_or, map, eqb, nat_lt, arith, refl, sym, subst, ap, ◌∙◌}
use Rattle.std.specs.Prelude.{◌&&◌, ◌==◌, All, Contains, fold, if◌then◌else◌, nat_le, slice_index}
use Rattle.std.specs.List.{list_all, range_with_len}
use Rattle.std.proofs.Math.Nat.{mul-le-mul_left, pow-suc}
use Rattle.std.proofs.lemmas.Bool.{and_parts, eqb-true, leb-true, ltb-true}
use Rattle.std.proofs.lemmas.List.{append-nil, ext_get_or, get_or-append_right, get_or-map, length-append, length-map}
use Rattle.std.proofs.lemmas.List.Elements.{All-map}
use Rattle.std.proofs.lemmas.List.FromFn.{get_or-map-range_with_len, length-map-range_with_len}
use Rattle.std.proofs.lemmas.Nat.{mul-pow}
use Rattle.prims_core.specs.Alphabet.{alphabet, character_of}
use Rattle.prims_core.proofs.AlphabetFacts.{character_of-injective, true_below-from_list_all}
use Rattle.prims_core.proofs.NumeralFacts.{length-numerals}
use Rattle.crypt_core.specs.declared.method.Method.{Method}
use Rattle.crypt_core.specs.MethodLimits.{digest_len, packed_len}
use Rattle.crypt_core.specs.Packing.{IsPacked, packed, packed_group, groups_of, group_number}
use Rattle.crypt_core.specs.Private.Groups.{last_value_limit}
use Rattle.crypt_core.proofs.EachMethod.{each_method}
use Rattle.crypt_core.proofs.PackingLemmas.{in_alphabet-packed, length-packed, packed_by}
use Rattle.crypt_core.proofs.GroupNumbers.{number_below-iff-last_value_below, slice_index-below_256}
use Rattle.crypt_core.proofs.Unpacking.{EndsBelow, order, Unpacks-from_fills, fills, text_length}

-- ---- digests

-- index_in places place: the position in `places` at which the index `place` first occurs.
index_in : List ℕ → ℕ → ℕ
index_in [] place = 0
index_in (p ∷ ps) place = if p == place then 0 else suc (index_in ps place)

-- is_place n places i: item i of `places` is below n and does not occur before item i.
is_place : ℕ → List ℕ → ℕ → Bool
is_place n places i = eqb (index_in places (get_or places i 0)) i && nat_lt (get_or places i 0) n

-- digest_with n places bytes: the digest of n bytes whose byte at an index is the item of `bytes` at the same position
-- as the index in `places`. `places` has all n indices.
digest_with : ℕ → List ℕ → List ℕ → List ℕ
digest_with n places bytes = map (λ i. slice_index bytes (index_in places i)) (range_with_len 0 n)

-- The bytes of `digest_with` at the given places are the given bytes.
map-digest_with : (n : ℕ) (places bytes : List ℕ) → length places ≡ n → list_all (is_place n places) (range_with_len 0 n) ≡ true
    → length bytes ≡ length places → map (slice_index (digest_with n places bytes)) places ≡ bytes
unfolding is_place digest_with
map-digest_with n places bytes long all same =
    ext_get_or 0 (map (slice_index (digest_with n places bytes)) places) bytes (length-map places _ ∙ sym same) (λ i inside.
    let below : i < n = omega (arith, length-map places (slice_index (digest_with n places bytes))) in
    let parts = and_parts _ _ (true_below-from_list_all (is_place n places) n all i below) in
    let place = get_or places i 0 in
    let index : index_in places place ≡ i = eqb-true _ _ parts.0 in
    get_or-map (slice_index (digest_with n places bytes)) places i 0 0 (omega arith)
    ∙ get_or-map-range_with_len (λ k. slice_index bytes (index_in places k)) 0 n place place 0 (ltb-true _ _ parts.1) (omega arith)
    ∙ ap (slice_index bytes) index)

-- `digest_with` gives n bytes.
digest_with-is_digest : (n : ℕ) (places bytes : List ℕ) → All (λ b. b < 256) bytes
    → (length (digest_with n places bytes) ≡ n) × All (λ b. b < 256) (digest_with n places bytes)
unfolding digest_with
digest_with-is_digest n places bytes all = (
  length-map-range_with_len (λ i. slice_index bytes (index_in places i)) 0 n,
  All-map (λ b. b < 256) (λ i. slice_index bytes (index_in places i)) (range_with_len 0 n) (λ k d inside. slice_index-below_256 bytes (index_in places (get_or (range_with_len 0 n) k d)) all),
)

-- A text of the method's packed length, with characters of the alphabet and a last value below the method's limit, is
-- the packed form of some digest.
pub IsPacked-from_checks : (m : Method) (text : List ℕ) → length text ≡ packed_len m → All (Contains alphabet) text
    → (v : ℕ) → v < last_value_limit m → get_or text (length text - 1) 0 ≡ character_of v → IsPacked m text
unfolding packed fills is_place index_in order text_length EndsBelow
IsPacked-from_checks m text long all v below last =
    let n = digest_len m in
    let places = order (groups_of m) in
    let lengths_add_up = eqb-true _ _ (each_method (λ o. eqb (text_length (groups_of o)) (packed_len o)) refl m) in
    let index_count = eqb-true _ _ (each_method (λ o. eqb (length (order (groups_of o))) (digest_len o)) refl m) in
    let unpacked = Unpacks-from_fills (last_value_limit m) (groups_of m) text (each_method (λ o. fills (last_value_limit o) (groups_of o)) refl m) (long ∙ sym lengths_add_up) all (v, below, last) in
    let each_index_once = each_method (λ o. list_all (is_place (digest_len o) (order (groups_of o))) (range_with_len 0 (digest_len o))) refl m in
    let digest = digest_with n places unpacked.bytes in (
      digest,
      digest_with-is_digest n places unpacked.bytes unpacked.are_bytes,
      sym (unpacked.packs digest (map-digest_with n places unpacked.bytes index_count each_index_once unpacked.count)),
    )

-- ---- packed digests

-- Appending k bytes to a number below a bound gives a number below the bound times 256^k.
fold_bytes-below : (digest places : List ℕ) (number bound : ℕ) → All (λ b. b < 256) digest → number < bound
    → fold (λ n place. n * 256 + slice_index digest place) number places < bound * 256 ^ length places
fold_bytes-below digest [] number bound all small = omega arith
fold_bytes-below digest (p ∷ ps) number bound all small =
    let power : 256 ^ suc (length ps) ≡ 256 ^ length ps * 256 = pow-suc 256 (length ps) in
    let rest = fold_bytes-below digest ps (number * 256 + slice_index digest p) (bound * 256) all (omega (arith, slice_index-below_256 digest p all)) in
    let product : bound * 256 * 256 ^ length ps ≡ bound * 256 ^ suc (length ps) = rw power (grind arith) in
    rw product at rest

-- If `fills` holds of the bound and the groups, the last character of a packed digest has a value below the bound. In
-- `last`, `.0` is that value, `.2` that it is below 4^k exactly if the number is below 256^k, and `.3` that the last
-- character has it. `rest.1` is `EndsBelow` of the other groups: the value of the last character (`.0`), that it is
-- below the bound (`.1`), and that the character has it (`.2`).
EndsBelow-packed_by : (bound : ℕ) (groups : List (List ℕ)) (digest : List ℕ) → fills bound groups ≡ true → All (λ b. b < 256) digest
    → (0 < length (packed_by groups digest)) × EndsBelow bound (packed_by groups digest)
unfolding fills EndsBelow
EndsBelow-packed_by bound [] digest h all = absurd (cc h)
EndsBelow-packed_by bound (places ∷ []) digest h all =
    let tests = and_parts _ _ h in
    let bound_is : 4 ^ length places ≡ bound = eqb-true _ _ tests.0 in
    let bound_small = leb-true bound 64 tests.1 in
    let k = length places in
    let n = group_number digest places in
    let number_below : n < 256 ^ k = omega (arith, fold_bytes-below digest places 0 1 all (omega arith)) in
    let power : 256 ^ k ≡ 64 ^ k * 4 ^ k = mul-pow 64 4 k in
    let more : 64 ^ (k + 1) ≡ 64 ^ k * 64 = rw add-one (pow-suc 64 k) in
    let up : 64 ^ k * 4 ^ k ≤ 64 ^ k * 64 = mul-le-mul_left (64 ^ k) (omega arith) in
    let last = number_below-iff-last_value_below k n (omega arith) in
    let text = packed_group digest places in
    let long : length text ≡ k + 1 = length-numerals (k + 1) n in
    let place : length text - 1 ≡ k = omega arith in
    rw (append-nil text) (omega arith, (last.0, omega (arith, last.2.0 number_below), rw place last.3))
EndsBelow-packed_by bound (places ∷ next ∷ groups) digest h all =
    let tests = and_parts _ _ h in
    let rest = EndsBelow-packed_by bound (next ∷ groups) digest tests.1 all in
    let front = packed_group digest places in
    let text = packed_by (next ∷ groups) digest in
    let long = length-append front text in
    let place : length (front ++ text) - 1 - length front ≡ length text - 1 = omega (arith, rest.0) in (
      omega (arith, rest.0),
      (
        rest.1.0,
        rest.1.1,
        get_or-append_right front text (length front) (length (front ++ text) - 1) 0 refl (omega (arith, rest.0)) ∙ ap (λ i. get_or text i 0) place ∙ rest.1.2,
      ),
    )

-- A packed digest passes the three checks of `is_packed`: its length, its characters, and its last character's value.
pub length-from_IsPacked : (m : Method) (text : List ℕ) → IsPacked m text → length text ≡ packed_len m
length-from_IsPacked m text packed = ap length packed.2 ∙ length-packed m packed.0

pub in_alphabet-from_IsPacked : (m : Method) (text : List ℕ) → IsPacked m text → All (Contains alphabet) text
in_alphabet-from_IsPacked m text packed = subst (All (Contains alphabet)) (sym packed.2) (in_alphabet-packed m packed.0)

pub last_value-from_IsPacked : (m : Method) (text : List ℕ) (v : ℕ) → IsPacked m text → v < 64 → get_or text (length text - 1) 0 ≡ character_of v
    → v < last_value_limit m
unfolding packed fills EndsBelow
last_value-from_IsPacked m text v is below last =
    let groups_fill = each_method (λ o. fills (last_value_limit o) (groups_of o) && nat_le (last_value_limit o) 64) refl m in
    let tests = and_parts _ _ groups_fill in
    let limit_small = leb-true _ _ tests.1 in
    let ends = (EndsBelow-packed_by (last_value_limit m) (groups_of m) is.0 tests.0 is.1.1).1 in
    let value_is : v ≡ ends.0 = character_of-injective v ends.0 below (omega (arith, ends.1)) (sym last ∙ ap (λ (cs : List ℕ). get_or cs (length cs - 1) 0) is.2 ∙ ends.2) in
    omega (arith, ends.1)
