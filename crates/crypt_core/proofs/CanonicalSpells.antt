-- Shows that the canonical form of a setting spells that setting, and how long it can be, for `Setting::text`,
-- `Setting::salt`, `Setting::make` and `hash_by`. Some text spells the setting, so its rounds or parameters and its
-- salt are in range; each part of the canonical form (prefix, cost part, salt) then spells the same again. The one
-- delicate case is SHA-crypt without a `rounds=` field, where the salt must not begin with `rounds=`: the field in the
-- original text begins with the salt, and doesn't begin with `rounds=`. `canonical_spells_before` allows a tail after
-- the canonical form, as a hash has one.
use Rattle.crypt_core.specs.TextLimits.{canonical_limit, hash_limit}
use Rattle.std.proofs.Common.{◌≡◌, ◌≢◌, ℕ, ◌+◌, ◌≤◌, ◌<◌, ◌^◌, Bool, true, false, not, eqb, ◌&&◌, ◌⊎◌, inl, inr, List, [], ◌∷◌, ◌++◌, length, take, drop, get_or, All, length-append, append-nil, refl, sym, ap, subst, ◌∙◌, append_assoc, arith}
use Rattle.std.specs.Prelude.{Contains, decimal, codes, nat_le}
use Rattle.std.specs.List.{AllByRecursion, list_all}
use Rattle.std.specs.Str.Parse.{AllDigits}
use Rattle.std.proofs.Math.Seq.{take-append_seam, drop-append_seam}
use Rattle.std.proofs.lemmas.Bool.{and_parts, eqb-false, leb-true, not-true}
use Rattle.std.proofs.lemmas.List.Sums.{AllPass-from_list_all}
use Rattle.std.proofs.lemmas.List.{take-append-drop, length-take, take_all}
use Rattle.std.proofs.lemmas.List.Elements.{All-nil, All-cons, All-from_get_or, All-take, All-drop, All-append, All-from_recursion, All-contains, All-weaker}
use Rattle.std.proofs.lemmas.Fmt.{decimal_is_IsNumeral, first_decimal, length-decimal-le}
use Rattle.std.proofs.lemmas.Str.Parse.{digit_at}
use Rattle.prims_core.specs.Alphabet.{alphabet}
use Rattle.crypt_core.specs.declared.method.Method.{Method}
use Rattle.crypt_core.specs.declared.scheme.Scheme.{Scheme}
use Rattle.crypt_core.specs.declared.scheme.Scheme.TheVariants.{Md5crypt, Shacrypt, Scrypt}
use Rattle.crypt_core.specs.declared.scheme.Sha.{Sha}
use Rattle.crypt_core.specs.MethodLimits.{packed_len, prefix, salt_limit, scrypt_salt_limit}
use Rattle.crypt_core.specs.Schemes.{IsScheme, method_of, sha_method}
use Rattle.crypt_core.specs.Settings.{SettingValue, IsSettingByte, dollar, IsField, BeginsWith, rounds_word, rounds_field, IsRoundsNumber, scrypt_part, SpellsRounds, SpellsCost, IsScryptSalt, KeepsSalt, Spells, cost_part, canonical_text, setting_limit}
use Rattle.crypt_core.specs.Rounds.{IsRounds, clamped}
use Rattle.crypt_core.specs.Rounds.{max_rounds, min_rounds}
use Rattle.crypt_core.proofs.EachMethod.{each_method, length-prefix, salt_limit-sha_method}
use Rattle.crypt_core.proofs.DollarFields.{IsEndOfField, end_of_field-cases}
use Rattle.crypt_core.proofs.ScryptPartFacts.{in_alphabet-scrypt_part, length-scrypt_part}
use Rattle.crypt_core.proofs.PackingLemmas.{packed_len-le}

-- ---- what some text spells is in range

-- A number that clamping leaves as it is lies between `min_rounds` and `max_rounds`.
pub in_range-from_clamped : (n : ℕ) → clamped n ≡ n → (min_rounds ≤ n) × (n ≤ max_rounds)
in_range-from_clamped n e = (omega arith, omega arith)

-- Rounds that a cost part spells are in range.
IsRounds-from_SpellsRounds : (count : ℕ) (flag : Bool) (part after : List ℕ) → SpellsRounds (record { count = count; is_written = flag }) part after → IsRounds (record { count = count; is_written = flag })
IsRounds-from_SpellsRounds count true part after s = (omega (arith, s.3), λ e. absurd (cc e))
IsRounds-from_SpellsRounds count false part after s = (omega (arith, s.1), λ e. s.1)

-- A scheme whose cost part is spelled, and that keeps a salt, is in range.
pub IsScheme-from_SpellsCost : (scheme : Scheme) (part after field salt : List ℕ) → SpellsCost scheme part after → KeepsSalt scheme field salt → IsScheme scheme
IsScheme-from_SpellsCost Md5crypt part after field salt s k = tt
IsScheme-from_SpellsCost (Shacrypt sha r) part after field salt s k = IsRounds-from_SpellsRounds r.count r.is_written part after s
IsScheme-from_SpellsCost (Scrypt n) part after field salt s k = k.0

-- A salt that consists of the first n bytes of a field has at most n bytes.
length-le-from_take : (n : ℕ) (field salt : List ℕ) → salt ≡ take n field → length salt ≤ n
length-le-from_take n field salt e = omega (arith, ap length e, length-take n field)

-- The salt that a scheme keeps of a field is within the method's limit.
kept_salt-le-salt_limit : (scheme : Scheme) (field salt : List ℕ) → KeepsSalt scheme field salt → length salt ≤ salt_limit (method_of scheme)
kept_salt-le-salt_limit (Scrypt n) field salt k = omega (arith, ap length k.1, k.2.0)
kept_salt-le-salt_limit scheme field salt k = length-le-from_take (salt_limit (method_of scheme)) field salt k

-- IsSetting kept: some text spells this setting.
abbrev pub IsSetting : SettingValue → Type 0
IsSetting kept = (text : List ℕ) × Spells text kept

-- A setting that some text spells has a scheme in range, and a salt within its method's limit.
pub setting-in_range : (kept : SettingValue) → IsSetting kept → IsScheme kept.scheme × (length kept.salt ≤ salt_limit (method_of kept.scheme))
setting-in_range kept (text, s) =
    (IsScheme-from_SpellsCost kept.scheme s.scheme.0 (s.field ++ s.rest) s.field kept.salt s.scheme.2 s.salt, kept_salt-le-salt_limit kept.scheme s.field kept.salt s.salt)

-- ---- lengths

-- The most bytes of a `rounds=` field: `rounds=`, nine digits, and a `$`.
abbrev rounds_field_limit : ℕ
rounds_field_limit = length rounds_word + 9 + 1

-- A `rounds=` field for a number of at most `max_rounds` has at most `rounds_field_limit` bytes.
length-rounds_field-le : (count : ℕ) → count ≤ max_rounds → length (rounds_field (decimal count)) ≤ rounds_field_limit
length-rounds_field-le count high =
    omega (arith, length-append (decimal count) (codes "$"), length-append rounds_word (decimal count ++ codes "$"), length-decimal-le 9 count (omega arith) (omega arith) (omega arith))

-- So has a cost part of SHA-crypt, which is such a field or empty.
length-sha_cost_part-le : (sha : Sha) (count : ℕ) (flag : Bool) → count ≤ max_rounds → length (cost_part (Shacrypt sha (record { count = count; is_written = flag }))) ≤ rounds_field_limit
length-sha_cost_part-le sha count true high = length-rounds_field-le count high
length-sha_cost_part-le sha count false high = omega arith

-- If the scheme is in range and the salt no longer than the method keeps, the canonical form has at most
-- `canonical_limit` bytes, and with a `$` and the packed digest at most `hash_limit`.
pub canonical_length-le : (scheme : Scheme) (salt : List ℕ) → IsScheme scheme → length salt ≤ salt_limit (method_of scheme)
    → (3 + (length (cost_part scheme) + length salt) ≤ canonical_limit) × (3 + (length (cost_part scheme) + length salt) + packed_len (method_of scheme) < hash_limit)
canonical_length-le Md5crypt salt c l = (omega arith, omega arith)
canonical_length-le (Shacrypt sha r) salt c l =
    let part = length-sha_cost_part-le sha r.count r.is_written (in_range-from_clamped r.count c.0).1 in
    (omega (arith, l, salt_limit-sha_method sha, part), omega (arith, l, salt_limit-sha_method sha, part, packed_len-le (sha_method sha)))
canonical_length-le (Scrypt n) salt c l = (omega (arith, length-scrypt_part n), omega (arith, length-scrypt_part n))

-- So the canonical form of a setting that some text spells is within these limits.
pub setting_canonical_length-le : (kept : SettingValue) → IsSetting kept
    → (3 + (length (cost_part kept.scheme) + length kept.salt) ≤ canonical_limit) × (3 + (length (cost_part kept.scheme) + length kept.salt) + packed_len (method_of kept.scheme) < hash_limit)
setting_canonical_length-le kept is_setting = let bounded = setting-in_range kept is_setting in canonical_length-le kept.scheme kept.salt bounded.0 bounded.1

-- ---- digits

-- Digits that do not begin with a 0 are a number of rounds.
IsRoundsNumber-from_AllDigits : (ds : List ℕ) → 0 < length ds → AllDigits 10 ds → 48 < get_or ds 0 0 → IsRoundsNumber ds
IsRoundsNumber-from_AllDigits [] some all first = absurd (omega arith)
IsRoundsNumber-from_AllDigits (d ∷ ds) some all first =
    (omega arith, (digit_at (d ∷ ds) 0 all some).1, All-from_get_or (λ c. (48 ≤ c) × (c ≤ 57)) ds 0 (λ i lt. digit_at ds i all.1 lt))

-- The decimal digits of a positive number below 2^64 are a number of rounds.
pub IsRoundsNumber-decimal : (n : ℕ) → 0 < n → n < 2 ^ 64 → IsRoundsNumber (decimal n)
IsRoundsNumber-decimal n some below =
    let numeral = (decimal_is_IsNumeral n below).0 in
    IsRoundsNumber-from_AllDigits (decimal n) numeral.0 numeral.1 (first_decimal n some below)

-- None of the bytes that a setting can't have is a digit.
excluded_bytes_not_digits : All (λ b. (b < 48) ⊎ (57 < b)) (codes ":;*!\\")
excluded_bytes_not_digits = All-from_recursion (λ b. (b < 48) ⊎ (57 < b)) (codes ":;*!\\") (inr (omega arith), (inr (omega arith), (inl (omega arith), (inl (omega arith), (inr (omega arith), tt)))))

-- So a digit is a setting byte, and a number of rounds has only such bytes.
IsSettingByte-digit : (b : ℕ) → (48 ≤ b) × (b ≤ 57) → IsSettingByte b
IsSettingByte-digit b range = (
  omega (arith, range),
  omega (arith, range),
  λ inside. omega (arith, range, All-contains (λ c. (c < 48) ⊎ (57 < c)) (codes ":;*!\\") b excluded_bytes_not_digits inside),
)

pub setting_bytes-rounds_number : (ds : List ℕ) → IsRoundsNumber ds → All IsSettingByte ds
setting_bytes-rounds_number [] n = absurd n
setting_bytes-rounds_number (d ∷ ds) n = All-cons IsSettingByte d ds (IsSettingByte-digit d (omega (arith, n.0), n.1)) (All-weaker (λ c. (48 ≤ c) × (c ≤ 57)) IsSettingByte IsSettingByte-digit ds n.2)

-- ---- characters of the alphabet

-- If all characters of the alphabet pass a test, which a computation shows, any one of them passes it.
character_passes : (p : ℕ → Bool) → list_all p alphabet ≡ true → (c : ℕ) → Contains alphabet c → p c ≡ true
character_passes p all c h = All-contains (λ x. p x ≡ true) alphabet c (AllPass-from_list_all p alphabet all) h

differs : ℕ → ℕ → Bool
differs a b = not (eqb a b)

-- Whether a byte can be in a setting: it is printable, not a space, and none of `:;*!\`.
setting_byte_test : ℕ → Bool
setting_byte_test b = nat_le 33 b && (nat_le b 126 && (differs 58 b && (differs 59 b && (differs 42 b && (differs 33 b && differs 92 b)))))

-- If `differs` is true of two numbers, they differ.
differs-true : (a b : ℕ) → differs a b ≡ true → a ≡ b → ⊥
unfolding differs
differs-true a b h = eqb-false a b (not-true _ h)

-- A byte that passes the test is a setting byte. So are all bytes of a list, if a computation shows that each passes
-- it, and all characters of the alphabet.
IsSettingByte-from_test : (b : ℕ) → setting_byte_test b ≡ true → IsSettingByte b
unfolding setting_byte_test
IsSettingByte-from_test b h =
    let t1 = and_parts _ _ h in
    let t2 = and_parts _ _ t1.1 in
    let t3 = and_parts _ _ t2.1 in
    let t4 = and_parts _ _ t3.1 in
    let t5 = and_parts _ _ t4.1 in
    let t6 = and_parts _ _ t5.1 in (
      leb-true 33 b t1.0,
      leb-true b 126 t2.0,
      λ inside. All-contains (λ x. x ≡ b → ⊥) (codes ":;*!\\") b
          (All-from_recursion (λ x. x ≡ b → ⊥) (codes ":;*!\\")
          (differs-true 58 b t3.0, (differs-true 59 b t4.0, (differs-true 42 b t5.0, (differs-true 33 b t6.0, (differs-true 92 b t6.1, tt))))))
          inside refl,
    )

setting_bytes-from_test : (xs : List ℕ) → list_all setting_byte_test xs ≡ true → All IsSettingByte xs
setting_bytes-from_test xs all = All-weaker (λ x. setting_byte_test x ≡ true) IsSettingByte IsSettingByte-from_test xs (AllPass-from_list_all setting_byte_test xs all)

pub IsSettingByte-character : (c : ℕ) → Contains alphabet c → IsSettingByte c
unfolding setting_byte_test differs alphabet
IsSettingByte-character c h = IsSettingByte-from_test c (character_passes setting_byte_test refl c h)

-- Neither `$` nor `=` is in the alphabet.
pub character_not_dollar : (c : ℕ) → Contains alphabet c → c ≢ dollar
unfolding differs alphabet
character_not_dollar c h e = differs-true 36 c (character_passes (differs 36) refl c h) (sym e)

pub character_not_equals_sign : (c : ℕ) → Contains alphabet c → c ≢ 61
unfolding differs alphabet
character_not_equals_sign c h e = differs-true 61 c (character_passes (differs 61) refl c h) (sym e)

-- ---- the parts of the canonical form have only setting bytes

pub setting_bytes-prefix : (m : Method) → All IsSettingByte (prefix m)
unfolding setting_byte_test differs
setting_bytes-prefix m = setting_bytes-from_test (prefix m) (each_method (λ n. list_all setting_byte_test (prefix n)) refl m)

setting_bytes-rounds_field : (ds : List ℕ) → IsRoundsNumber ds → All IsSettingByte (rounds_field ds)
unfolding setting_byte_test differs
setting_bytes-rounds_field ds n = All-append IsSettingByte rounds_word (ds ++ codes "$") (setting_bytes-from_test rounds_word refl) (All-append IsSettingByte ds (codes "$") (setting_bytes-rounds_number ds n) (setting_bytes-from_test (codes "$") refl))

setting_bytes-sha_cost_part : (sha : Sha) (count : ℕ) (flag : Bool) → min_rounds ≤ count → count ≤ max_rounds → All IsSettingByte (cost_part (Shacrypt sha (record { count = count; is_written = flag })))
setting_bytes-sha_cost_part sha count true low high = setting_bytes-rounds_field (decimal count) (IsRoundsNumber-decimal count (omega arith) (omega arith))
setting_bytes-sha_cost_part sha count false low high = All-nil IsSettingByte

pub setting_bytes-cost_part : (scheme : Scheme) → IsScheme scheme → All IsSettingByte (cost_part scheme)
setting_bytes-cost_part Md5crypt c = All-nil IsSettingByte
setting_bytes-cost_part (Shacrypt sha r) c = let range = in_range-from_clamped r.count c.0 in setting_bytes-sha_cost_part sha r.count r.is_written range.0 range.1
setting_bytes-cost_part (Scrypt n) c = All-weaker (Contains alphabet) IsSettingByte IsSettingByte-character (scrypt_part n) (in_alphabet-scrypt_part n)

-- ---- the parts of a list of setting bytes

-- If two lists, joined, have only setting bytes, so has each of them.
setting_bytes-append_left : (xs ys : List ℕ) → All IsSettingByte (xs ++ ys) → All IsSettingByte xs
setting_bytes-append_left xs ys all = subst (All IsSettingByte) (take-append_seam xs ys) (All-take IsSettingByte (length xs) (xs ++ ys) all)

setting_bytes-append_right : (xs ys : List ℕ) → All IsSettingByte (xs ++ ys) → All IsSettingByte ys
setting_bytes-append_right xs ys all = subst (All IsSettingByte) (drop-append_seam xs ys) (All-drop IsSettingByte (length xs) (xs ++ ys) all)

-- ---- the salt

-- The salt that a scheme keeps is the first bytes of the field, at most as many as the method keeps.
kept_salt-take : (scheme : Scheme) (field salt : List ℕ) → KeepsSalt scheme field salt → salt ≡ take (salt_limit (method_of scheme)) field
kept_salt-take (Scrypt n) field salt k = k.1 ∙ sym (take_all scrypt_salt_limit field k.2.0)
kept_salt-take scheme field salt k = k

-- If the field is itself a salt that the scheme has kept, the scheme keeps all of it.
KeepsSalt-itself : (scheme : Scheme) (field salt : List ℕ) → KeepsSalt scheme field salt → KeepsSalt scheme salt salt
KeepsSalt-itself (Scrypt n) field salt k = (k.0, refl, subst IsScryptSalt (sym k.1) k.2)
KeepsSalt-itself scheme field salt k = sym (take_all (salt_limit (method_of scheme)) salt (kept_salt-le-salt_limit scheme field salt k))

-- The salt that is kept of a field has no `$`, so it is a field before a tail that is empty or begins with a `$`.
IsField-kept_salt : (scheme : Scheme) (field rest salt tail : List ℕ) → IsField field rest → KeepsSalt scheme field salt → IsEndOfField tail → IsField salt tail
IsField-kept_salt scheme field rest salt tail f k end = (
  subst (All (λ b. b ≢ dollar)) (sym (kept_salt-take scheme field salt k)) (All-take (λ b. b ≢ dollar) (salt_limit (method_of scheme)) field f.0),
  end_of_field-cases tail end,
)

-- ---- the cost part

-- If a salt consists of the first bytes of a field and begins with a word, the field begins with that word too.
BeginsWith-from_take : (n : ℕ) (field rest salt word : List ℕ) → salt ≡ take n field → BeginsWith (salt ++ []) word → BeginsWith (field ++ rest) word
BeginsWith-from_take n field rest salt word e (more, begins) = (
  more ++ (drop n field ++ rest),
  ap (λ (x : List ℕ). x ++ rest) (sym (take-append-drop n field) ∙ ap (λ (x : List ℕ). x ++ drop n field) (sym e ∙ sym (append-nil salt) ∙ begins))
      ∙ append_assoc (word ++ more) (drop n field) rest ∙ append_assoc word more (drop n field ++ rest),
)

-- Let a tail be empty or begin with `$`. If a salt followed by the tail begins with a word that has no `$`, the salt
-- alone begins with that word.
BeginsWith-without_tail : (salt tail word : List ℕ) → AllByRecursion (λ b. b ≢ dollar) word → IsEndOfField tail → BeginsWith (salt ++ tail) word → BeginsWith (salt ++ []) word
BeginsWith-without_tail salt tail [] none end b = (salt ++ [], refl)
BeginsWith-without_tail [] [] (w ∷ word) none end (more, e) = absurd (cc e)
BeginsWith-without_tail [] (x ∷ tail) (w ∷ word) none end (more, e) = let heads : x ≡ w = cc in absurd (none.0 (sym heads ∙ end))
BeginsWith-without_tail (y ∷ salt) tail (w ∷ word) none end (more, e) =
    let heads : y ≡ w = cc in
    let tails : salt ++ tail ≡ word ++ more = cc in
    let rest = BeginsWith-without_tail salt tail word none.1 end (more, tails) in
    (rest.0, cc (heads, rest.1))

-- `rounds=` has no `$`.
rounds_word_no_dollar : AllByRecursion (λ b. b ≢ dollar) rounds_word
rounds_word_no_dollar = (λ e. omega arith, (λ e. omega arith, (λ e. omega arith, (λ e. omega arith, (λ e. omega arith, (λ e. omega arith, (λ e. omega arith, tt)))))))

-- The canonical cost part of SHA-crypt spells its rounds, provided that no `rounds=` follows if the cost part is empty.
pub SpellsRounds-cost_part : (sha : Sha) (count : ℕ) (flag : Bool) (after : List ℕ) → IsRounds (record { count = count; is_written = flag }) → (flag ≡ false → ¬ BeginsWith after rounds_word) → SpellsRounds (record { count = count; is_written = flag }) (cost_part (Shacrypt sha (record { count = count; is_written = flag }))) after
SpellsRounds-cost_part sha count true after r free =
    let range = in_range-from_clamped count r.0 in
    let below : count < 2 ^ 64 = omega (arith, range) in
    (decimal count, IsRoundsNumber-decimal count (omega (arith, range)) below, refl, sym r.0 ∙ ap clamped (sym (decimal_is_IsNumeral count below).1))
SpellsRounds-cost_part sha count false after r free = (refl, r.1 refl, free refl)

-- If a text spells rounds, their canonical cost part, followed by the salt that is kept of the text's field and a tail,
-- spells them too.
SpellsRounds-canonical : (sha : Sha) (count : ℕ) (flag : Bool) (n : ℕ) (part field rest salt tail : List ℕ) → salt ≡ take n field → IsEndOfField tail → SpellsRounds (record { count = count; is_written = flag }) part (field ++ rest) → SpellsRounds (record { count = count; is_written = flag }) (cost_part (Shacrypt sha (record { count = count; is_written = flag }))) (salt ++ tail)
SpellsRounds-canonical sha count true n part field rest salt tail e end s =
    SpellsRounds-cost_part sha count true (salt ++ tail) (IsRounds-from_SpellsRounds count true part (field ++ rest) s) (λ flag. absurd (cc flag))
SpellsRounds-canonical sha count false n part field rest salt tail e end s =
    SpellsRounds-cost_part sha count false (salt ++ tail) (IsRounds-from_SpellsRounds count false part (field ++ rest) s) (λ flag begins.
    s.2 (BeginsWith-from_take n field rest salt rounds_word e (BeginsWith-without_tail salt tail rounds_word rounds_word_no_dollar end begins)))

-- The same for the cost of any scheme.
SpellsCost-canonical : (scheme : Scheme) (n : ℕ) (part field rest salt tail : List ℕ) → salt ≡ take n field → IsEndOfField tail → SpellsCost scheme part (field ++ rest) → SpellsCost scheme (cost_part scheme) (salt ++ tail)
SpellsCost-canonical Md5crypt n part field rest salt tail e end s = refl
SpellsCost-canonical (Shacrypt sha r) n part field rest salt tail e end s = SpellsRounds-canonical sha r.count r.is_written n part field rest salt tail e end s
SpellsCost-canonical (Scrypt c) n part field rest salt tail e end s = (refl, s.1, s.2, s.3)

-- If a setting's scheme is in range, its canonical cost part spells the scheme's rounds or parameters (`SpellsCost`),
-- and its salt is a field that is kept whole, then its canonical form, followed by a tail of setting bytes, spells the
-- setting.
pub Spells-from_parts : (kept : SettingValue) (tail : List ℕ) → IsScheme kept.scheme → length kept.salt ≤ salt_limit (method_of kept.scheme)
    → All IsSettingByte kept.salt → IsField kept.salt tail → SpellsCost kept.scheme (cost_part kept.scheme) (kept.salt ++ tail) → KeepsSalt kept.scheme kept.salt kept.salt
    → All IsSettingByte tail → canonical_limit + length tail ≤ setting_limit → Spells (canonical_text kept ++ tail) kept
Spells-from_parts kept tail c l bytes is_field cost keeps tail_bytes short =
    let m : Method = method_of kept.scheme in
    let part : List ℕ = cost_part kept.scheme in
    record {
      short = omega (arith, (canonical_length-le kept.scheme kept.salt c l).0, length-prefix m, length-append (canonical_text kept) tail, length-append (prefix m) (part ++ kept.salt), length-append part kept.salt, short);
      bytes = All-append IsSettingByte (canonical_text kept) tail
          (All-append IsSettingByte (prefix m) (part ++ kept.salt) (setting_bytes-prefix m) (All-append IsSettingByte part kept.salt (setting_bytes-cost_part kept.scheme c) bytes))
          tail_bytes;
      field = kept.salt;
      rest = tail;
      is_field = is_field;
      scheme = (part, append_assoc (prefix m) (part ++ kept.salt) tail ∙ ap (λ (x : List ℕ). prefix m ++ x) (append_assoc part kept.salt tail), cost);
      salt = keeps;
    }

-- If some text spells a setting, the setting's canonical form spells it too, also if a tail of setting bytes that
-- begins with a `$` follows it.
pub canonical_spells_before : (text : List ℕ) (kept : SettingValue) (tail : List ℕ) → Spells text kept → IsEndOfField tail → All IsSettingByte tail → canonical_limit + length tail ≤ setting_limit
    → Spells (canonical_text kept ++ tail) kept
canonical_spells_before text kept tail s end tail_bytes short =
    let m : Method = method_of kept.scheme in
    let cost = s.scheme.0 in
    let text_bytes : All IsSettingByte (prefix m ++ (cost ++ (s.field ++ s.rest))) = subst (All IsSettingByte) s.scheme.1 s.bytes in
    let after_prefix_bytes : All IsSettingByte (cost ++ (s.field ++ s.rest)) = setting_bytes-append_right (prefix m) (cost ++ (s.field ++ s.rest)) text_bytes in
    let field_bytes : All IsSettingByte s.field = setting_bytes-append_left s.field s.rest (setting_bytes-append_right cost (s.field ++ s.rest) after_prefix_bytes) in
    let salt_is_front = kept_salt-take kept.scheme s.field kept.salt s.salt in
    let salt_bytes : All IsSettingByte kept.salt = subst (All IsSettingByte) (sym salt_is_front) (All-take IsSettingByte (salt_limit m) s.field field_bytes) in
    let bounded = setting-in_range kept (text, s) in
    Spells-from_parts kept tail bounded.0 bounded.1 salt_bytes (IsField-kept_salt kept.scheme s.field s.rest kept.salt tail s.is_field s.salt end)
    (SpellsCost-canonical kept.scheme (salt_limit m) cost s.field s.rest kept.salt tail salt_is_front end s.scheme.2) (KeepsSalt-itself kept.scheme s.field kept.salt s.salt) tail_bytes short

-- If some text spells a setting, the setting's canonical form alone spells it too.
pub canonical_spells : (text : List ℕ) (kept : SettingValue) → Spells text kept → Spells (canonical_text kept) kept
canonical_spells text kept s =
    subst (λ (t : List ℕ). Spells t kept) (append-nil (canonical_text kept)) (canonical_spells_before text kept [] s tt (All-nil IsSettingByte) (omega arith))
