-- Lemmas for the loops of `append_packed` and `number_of` in src/pack.rt, and on the length and the characters of a
-- packed digest for other proofs. The loop over a table of groups appends one group at a time, so `packed_by-drop`
-- splits off the next group and `append-packed_by_none_left` finishes. What holds of every method's table is computed
-- by `each_method`.
use Rattle.std.proofs.Common.{◌≡◌, ℕ, zero, suc, ◌+◌, ◌^◌, ◌<◌, ◌≤◌, List, [], ◌∷◌, ◌++◌, length, drop, get_or, nat_lt, eqb, arith, refl, sym, ap, ◌∙◌, Bor}
use Rattle.std.proofs.lemmas.List.Sums.{sum_by-cons}
use Rattle.std.proofs.lemmas.Bool.{and_parts, eqb-true, leb-true, ltb-true}
use Rattle.std.proofs.lemmas.List.{append-nil, drop_all, length-append}
use Rattle.std.proofs.lemmas.List.Elements.{All-nil, All-append}
use Rattle.std.specs.Prelude.{All, Contains, flat_map, nat_le, sum_by}
use Rattle.std.proofs.Math.Seq.{drop-cons}
use Rattle.std.specs.List.{list_all}
use Rattle.crypt_core.specs.declared.method.Method.{Method}
use Rattle.crypt_core.specs.declared.method.Method.TheVariants.{Sha512crypt}
use Rattle.prims_core.specs.Alphabet.{alphabet}
use Rattle.crypt_core.specs.MethodLimits.{digest_len, packed_len}
use Rattle.crypt_core.specs.Packing.{packed, packed_group, groups_of, group_number}
use Rattle.crypt_core.proofs.EachMethod.{each_method}
use Rattle.prims_core.proofs.NumeralFacts.{length-numerals}
use Rattle.crypt_core.proofs.ScryptPartFacts.{in_alphabet-numerals}
use Rattle.crypt_core.specs.Private.Groups.{groups_in, is_group, AreGroups, IsGroup}

-- packed_by groups digest: the packed form of the digest if its groups are these.
abbrev pub packed_by : List (List ℕ) → List ℕ → List ℕ
packed_by groups digest = flat_map (packed_group digest) groups

-- A group has one to three indices.
pub length-from_IsGroup : (n : ℕ) (places : List ℕ) → IsGroup n places → (0 < length places) × (length places < 4)
length-from_IsGroup n places h =
    let some = and_parts (nat_lt 0 (length places)) _ h in
    let few = and_parts (nat_lt (length places) 4) _ some.1 in
    (ltb-true 0 (length places) some.0, ltb-true (length places) 4 few.0)

-- Each entry of a table for which `AreGroups` holds is a group of one to three indices.
pub IsGroup-get_or : (n : ℕ) (table : List (Bor (List ℕ))) (i : ℕ) (d : Bor (List ℕ)) → i < length table
    → AreGroups n (groups_in table) → IsGroup n (get_or table i d).now
IsGroup-get_or n [] i d below h = absurd (omega arith)
IsGroup-get_or n (g ∷ gs) zero d below h = (and_parts (is_group n g.now) (list_all (is_group n) (groups_in gs)) h).0
IsGroup-get_or n (g ∷ gs) (suc i) d below h =
    IsGroup-get_or n gs i d (omega arith) (and_parts (is_group n g.now) (list_all (is_group n) (groups_in gs)) h).1

-- The packed form of the groups from i on begins with that of group i.
pub packed_by-drop : (digest : List ℕ) (table : List (Bor (List ℕ))) (i : ℕ) (d : Bor (List ℕ)) → i < length table
    → packed_by (groups_in (drop i table)) digest
    ≡ packed_group digest (get_or table i d).now ++ packed_by (groups_in (drop (i + 1) table)) digest
packed_by-drop digest table i d below =
    let next : i + 1 ≡ suc i = omega arith in
    rw (next, drop-cons table i d below) refl

-- Once no group of the table is left, the text so far is the whole packed form.
pub append-packed_by_none_left : (digest : List ℕ) (table : List (Bor (List ℕ))) (i : ℕ) (text whole : List ℕ) → length table ≤ i
    → text ++ packed_by (groups_in (drop i table)) digest ≡ whole → text ≡ whole
append-packed_by_none_left digest table i text whole done e =
    sym (append-nil text) ∙ ap (λ (rest : List (Bor (List ℕ))). text ++ packed_by (groups_in rest) digest) (sym (drop_all i table done)) ∙ e

-- A number of up to two bytes is below 65536, so one more byte doesn't overflow 32 bits.
pub two_bytes-below_65536 : (k number : ℕ) → k < 3 → number < 256 ^ k → number < 65536
two_bytes-below_65536 zero number h below = omega arith
two_bytes-below_65536 (suc zero) number h below = omega arith
two_bytes-below_65536 (suc (suc zero)) number h below = omega arith
two_bytes-below_65536 (suc (suc (suc k))) number h below = absurd (omega arith)

-- A packed form has one character for each byte, and one more for each group.
length-packed_by : (groups : List (List ℕ)) (digest : List ℕ) → length (packed_by groups digest) ≡ sum_by (λ places. length places + 1) groups
length-packed_by [] digest = refl
length-packed_by (places ∷ groups) digest =
    let front = packed_group digest places in
    let rest = packed_by groups digest in
    rw (length-append front rest, length-numerals (length places + 1) (group_number digest places), length-packed_by groups digest, sum_by-cons (λ places. length places + 1) places groups) refl

pub length-packed_by_method : (m : Method) (digest : List ℕ) → length (packed_by (groups_of m) digest) ≡ packed_len m
length-packed_by_method m digest =
    length-packed_by (groups_of m) digest
    ∙ eqb-true _ _ (each_method (λ n. eqb (sum_by (λ places. length places + 1) (groups_of n)) (packed_len n)) refl m)

-- Each method's groups are indices into its digest.
pub AreGroups-groups_of : (m : Method) → AreGroups (digest_len m) (groups_of m)
AreGroups-groups_of m = each_method (λ n. list_all (is_group (digest_len n)) (groups_of n)) refl m

pub packed_len-le : (m : Method) → packed_len m ≤ packed_len Sha512crypt
packed_len-le m = leb-true _ _ (each_method (λ n. nat_le (packed_len n) (packed_len Sha512crypt)) refl m)

in_alphabet-packed_by : (groups : List (List ℕ)) (digest : List ℕ) → All (Contains alphabet) (packed_by groups digest)
in_alphabet-packed_by [] digest = All-nil (Contains alphabet)
in_alphabet-packed_by (places ∷ groups) digest =
    All-append (Contains alphabet) (packed_group digest places) (packed_by groups digest)
    (in_alphabet-numerals (length places + 1) (group_number digest places)) (in_alphabet-packed_by groups digest)

-- A packed digest has only characters of the alphabet.
pub in_alphabet-packed : (method : Method) (digest : List ℕ) → All (Contains alphabet) (packed method digest)
unfolding packed
in_alphabet-packed method digest = in_alphabet-packed_by (groups_of method) digest

pub length-packed : (method : Method) (digest : List ℕ) → length (packed method digest) ≡ packed_len method
unfolding packed
length-packed method digest = length-packed_by_method method digest
