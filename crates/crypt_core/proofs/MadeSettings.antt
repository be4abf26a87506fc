-- Lemmas for `Setting::make` and `Setting::salted` in src/setting/make.rt: what they return is a setting, that is, some
-- text spells it. The text is the canonical form; a salt of alphabet characters cannot begin with `rounds=`, because
-- `=` is not in the alphabet, and accepted scrypt parameters fit their characters, because their product is at most
-- 2^23. The last part is about errors: each of the three rules has its error, and a setting is made exactly if no rule
-- is broken.
use Rattle.std.proofs.Common.{◌≡◌, ◌≢◌, ℕ, ◌+◌, ◌≤◌, ◌<◌, ◌^◌, ◌*◌, true, false, inl, inr, ◌⊎◌, List, [], ◌++◌, length, get_or, All, append-nil, refl, sym, ap, subst, ◌∙◌, arith}
use Rattle.std.specs.Prelude.{◌↔◌, Contains, Result, Ok, Err, OnOk, IfErr, IsOk, Option, Some}
use Rattle.std.proofs.Math.Nat.{le-mul_of_pos_right, lt_of_not-le, mul-le-mul_right, one-le-mul}
use Rattle.std.proofs.Math.Pow.{pow_mono}
use Rattle.kdf_core.specs.Params.{ScryptParams, row_count, IsAccepted}
use Rattle.std.proofs.lemmas.List.{take_all}
use Rattle.std.proofs.lemmas.List.Elements.{All-nil, All-weaker, All-get_or}
use Rattle.prims_core.specs.Alphabet.{alphabet}
use Rattle.crypt_core.specs.declared.method.Method.{Method}
use Rattle.crypt_core.specs.declared.method.Method.TheVariants as methods
use Rattle.crypt_core.specs.declared.scheme.Scheme.{Scheme}
use Rattle.crypt_core.specs.declared.scheme.Scheme.TheVariants.{Md5crypt, Shacrypt, Scrypt}
use Rattle.crypt_core.specs.declared.setting.fault.MakeFault.{MakeFault}
use Rattle.crypt_core.specs.declared.setting.fault.MakeFault.TheVariants.{SaltLength, SaltCharacter, Cost}
use Rattle.crypt_core.specs.MethodLimits.{salt_limit}
use Rattle.crypt_core.specs.MadeSettings.{made_scheme, TakesRounds, BreaksMake, IsMakeRefused, make_faults}
use Rattle.crypt_core.specs.Private.Parts.{HasNumerals, TakesSalt}
use Rattle.crypt_core.specs.Schemes.{IsScheme, method_of}
use Rattle.crypt_core.specs.Settings.{SettingValue, IsSettingByte, dollar, BeginsWith, rounds_word, SpellsCost, KeepsSalt, cost_part, canonical_text}
use Rattle.crypt_core.proofs.CanonicalSpells.{IsSettingByte-character, IsSetting, character_not_dollar, character_not_equals_sign, SpellsRounds-cost_part, Spells-from_parts}
use Rattle.crypt_core.proofs.DollarFields.{end_of_field-cases}
use Rattle.crypt_core.proofs.FirstBroken.{first_breaks, first_unique}

-- ---- the cost part

-- No salt of alphabet characters begins with `rounds=`.
salt-not-begins_with_rounds : (salt : List ℕ) → All (Contains alphabet) salt → BeginsWith (salt ++ []) rounds_word → ⊥
salt-not-begins_with_rounds salt all (more, e) =
    let begins : salt ≡ rounds_word ++ more = sym (append-nil salt) ∙ e in
    let long : 6 < length salt = omega (arith, ap length begins) in
    character_not_equals_sign (get_or salt 6 0) (All-get_or (Contains alphabet) salt 6 0 long all) (ap (λ (xs : List ℕ). get_or xs 6 0) begins)

-- The numbers of accepted parameters fit the characters of the cost part.
pub HasNumerals-from_IsAccepted : (params : ScryptParams) → IsAccepted params → HasNumerals params
HasNumerals-from_IsAccepted params accepted =
    let n = row_count params in
    let some_n : 1 ≤ n = let above : 0 ≤ params.log_n = omega arith in let mono : 2 ^ 0 ≤ 2 ^ params.log_n = pow_mono above in omega (arith, mono) in
    let some_nr : 0 < n * params.r = one-le-mul some_n accepted.0.2 in
    let within : n * params.r * params.p ≤ 2 ^ 23 = accepted.1 in
    let table : n * params.r ≤ n * params.r * params.p = le-mul_of_pos_right (n * params.r) accepted.0.3 in
    let rows : n ≤ n * params.r = le-mul_of_pos_right n accepted.0.2 in
    let blocks : 1 * params.r ≤ n * params.r = mul-le-mul_right params.r some_n in
    let parts : 1 * params.p ≤ n * params.r * params.p = mul-le-mul_right params.p some_nr in
    let low : params.log_n < 24 = lt_of_not-le (λ high. let power : 2 ^ 24 ≤ n = pow_mono high in omega arith) in
    (omega (arith, low), omega (arith, blocks, table, within), omega (arith, parts, within))

-- The canonical cost part of a scheme in range spells the cost, before a salt of characters of the alphabet.
SpellsCost-cost_part : (scheme : Scheme) (salt : List ℕ) → IsScheme scheme → All (Contains alphabet) salt → SpellsCost scheme (cost_part scheme) (salt ++ [])
SpellsCost-cost_part Md5crypt salt c all = refl
SpellsCost-cost_part (Shacrypt sha r) salt c all = SpellsRounds-cost_part sha r.count r.is_written (salt ++ []) c (λ flag. salt-not-begins_with_rounds salt all)
SpellsCost-cost_part (Scrypt n) salt c all = let says = HasNumerals-from_IsAccepted n c in (refl, says.0, says.1, says.2)

-- A scheme in range keeps all of such a salt, if it isn't longer than the method's limit.
KeepsSalt-whole : (scheme : Scheme) (salt : List ℕ) → IsScheme scheme → length salt ≤ salt_limit (method_of scheme) → All (Contains alphabet) salt → KeepsSalt scheme salt salt
KeepsSalt-whole (Scrypt n) salt c short all = (c, refl, (short, all))
KeepsSalt-whole scheme salt c short all = sym (take_all (salt_limit (method_of scheme)) salt short)

-- So this scheme and this salt are a setting that a text spells.
pub IsSetting-from_parts : (scheme : Scheme) (salt : List ℕ) → IsScheme scheme → length salt ≤ salt_limit (method_of scheme) → All (Contains alphabet) salt → IsSetting (record { scheme = scheme; salt = salt })
IsSetting-from_parts scheme salt c short all =
    let kept : SettingValue = record { scheme = scheme; salt = salt } in (
      canonical_text kept ++ [],
      Spells-from_parts kept [] c short (All-weaker (Contains alphabet) IsSettingByte IsSettingByte-character salt all)
          (All-weaker (Contains alphabet) (λ b. b ≢ dollar) character_not_dollar salt all, end_of_field-cases [] tt) (SpellsCost-cost_part scheme salt c all) (KeepsSalt-whole scheme salt c short all)
          (All-nil IsSettingByte) (omega arith),
    )

-- A scheme in range and a salt that its method accepts, copied without a change, make a setting, that is, some text
-- spells them.
pub IsSetting-given_salt : (scheme : Scheme) (kept salt : List ℕ) → IsScheme scheme → TakesSalt (method_of scheme) salt → kept ≡ salt → IsSetting (record { scheme = scheme; salt = kept })
IsSetting-given_salt scheme kept salt c takes kept_is_salt =
    subst (λ (xs : List ℕ). IsSetting (record { scheme = scheme; salt = xs })) (sym kept_is_salt) (IsSetting-from_parts scheme salt c takes.short takes.characters)

-- ---- schemes made from a method and rounds

pub IsAccepted-made_params : (rounds : ℕ) → rounds ≤ 11 → IsAccepted (record { log_n = rounds + 7; r = 32; p = 1 })
IsAccepted-made_params rounds high =
    let log_high : rounds + 7 ≤ 11 + 7 = omega arith in
    let power : 2 ^ (rounds + 7) ≤ 2 ^ (11 + 7) = pow_mono log_high in
    ((omega arith, omega arith, omega arith, omega arith), omega (arith, power))

pub method_of-made_scheme : (m : Method) (rounds : ℕ) → method_of (made_scheme m rounds) ≡ m
method_of-made_scheme methods.Md5crypt rounds = refl
method_of-made_scheme m rounds = refl

-- ---- errors

-- An empty or too long salt gives `SaltLength`, whatever the rounds.
pub make_refused_length : (m : Method) (rounds : ℕ) (salt : List ℕ) → (length salt ≡ 0) ⊎ (salt_limit m < length salt) → IsMakeRefused m rounds (Some salt) SaltLength
unfolding IsMakeRefused
make_refused_length m rounds salt bad = inl (refl, bad)

-- A salt of a length that the method accepts doesn't break the rule on the length.
salt_length-breaks_no_rule : (m : Method) (salt : List ℕ) → 0 < length salt → length salt ≤ salt_limit m → (length salt ≡ 0) ⊎ (salt_limit m < length salt) → ⊥
salt_length-breaks_no_rule m salt some short (inl none) = omega arith
salt_length-breaks_no_rule m salt some short (inr long) = omega (arith, short, long)

-- A salt of a length that the method accepts, but with a character outside the alphabet, gives `SaltCharacter`.
pub make_refused_character : (m : Method) (rounds : ℕ) (salt : List ℕ) → 0 < length salt → length salt ≤ salt_limit m → (All (Contains alphabet) salt → ⊥) → IsMakeRefused m rounds (Some salt) SaltCharacter
unfolding IsMakeRefused
make_refused_character m rounds salt some short bad = inr (salt_length-breaks_no_rule m salt some short, inl (refl, bad))

-- If the method accepts the salt but not the rounds, they give `Cost`.
pub make_refused_cost : (m : Method) (rounds : ℕ) (salt : List ℕ) → TakesSalt m salt → (TakesRounds m rounds → ⊥) → IsMakeRefused m rounds (Some salt) Cost
unfolding IsMakeRefused
make_refused_cost m rounds salt h bad = inr (salt_length-breaks_no_rule m salt h.some h.short, inr (λ b. b h.characters, inl (refl, bad)))

-- A salt and rounds that the method accepts break no rule.
pub not-BreaksMake : (m : Method) (rounds : ℕ) (salt : List ℕ) → TakesSalt m salt → TakesRounds m rounds → (f : MakeFault) → ¬ BreaksMake m rounds (Some salt) f
not-BreaksMake m rounds salt h takes SaltLength = salt_length-breaks_no_rule m salt h.some h.short
not-BreaksMake m rounds salt h takes SaltCharacter = λ b. b h.characters
not-BreaksMake m rounds salt h takes Cost = λ b. b takes

-- If an error is that of the first rule that a method, rounds and a salt break, they break some rule.
pub IsMakeRefused-breaks_some : (m : Method) (rounds : ℕ) (given : Option (List ℕ)) (fault : MakeFault) → IsMakeRefused m rounds given fault → ((f : MakeFault) → ¬ BreaksMake m rounds given f) → ⊥
unfolding IsMakeRefused
IsMakeRefused-breaks_some m rounds given fault refused none = none fault (first_breaks make_faults (BreaksMake m rounds given) fault refused)

-- The error of the first rule that a method, rounds and a salt break is unique.
pub make_refusal_unique : (m : Method) (rounds : ℕ) (given : Option (List ℕ)) (f g : MakeFault) → IsMakeRefused m rounds given f → IsMakeRefused m rounds given g → f ≡ g
unfolding IsMakeRefused
make_refusal_unique m rounds given f g rf rg = first_unique make_faults (BreaksMake m rounds given) f g rf rg

-- Let a result be Ok only if no rule is broken, and otherwise have the error of the first broken rule. If `fault` is
-- the error of the first broken rule, the result is `Err fault`.
pub Err-from_IsMakeRefused : {T : Type 0} (m : Method) (rounds : ℕ) (given : Option (List ℕ)) (r : Result T MakeFault) → OnOk r ((f : MakeFault) → ¬ BreaksMake m rounds given f) → IfErr r (IsMakeRefused m rounds given) → (fault : MakeFault) → IsMakeRefused m rounds given fault → r ≡ Err fault
Err-from_IsMakeRefused m rounds given (Ok x) ok err fault refused = absurd (IsMakeRefused-breaks_some m rounds given fault refused ok)
Err-from_IsMakeRefused m rounds given (Err f) ok err fault refused = ap (λ (g : MakeFault). Err g) (make_refusal_unique m rounds given f fault err refused)

-- Let a result be Ok only if no rule is broken, and otherwise have the error of the first broken rule. Then it is Ok
-- exactly if no rule is broken.
pub IsOk-iff_no_broken_rule : {T : Type 0} (m : Method) (rounds : ℕ) (given : Option (List ℕ)) (r : Result T MakeFault) → OnOk r ((f : MakeFault) → ¬ BreaksMake m rounds given f) → IfErr r (IsMakeRefused m rounds given) → IsOk r ↔ ((f : MakeFault) → ¬ BreaksMake m rounds given f)
IsOk-iff_no_broken_rule m rounds given (Ok x) ok err = (λ e. ok, λ none. refl)
IsOk-iff_no_broken_rule m rounds given (Err f) ok err = (λ e. absurd (cc e), λ none. absurd (IsMakeRefused-breaks_some m rounds given f err none))

-- Where `Setting::make` has refused the salt, the checker computes `IsOk result` in the clause `accepted` to
-- `false ≡ true`. Both sides of that equivalence are false.
pub false-iff_no_broken_rule : (m : Method) (rounds : ℕ) (given : Option (List ℕ)) (fault : MakeFault) → IsMakeRefused m rounds given fault
    → (false ≡ true → (f : MakeFault) → ¬ BreaksMake m rounds given f) × (((f : MakeFault) → ¬ BreaksMake m rounds given f) → false ≡ true)
false-iff_no_broken_rule m rounds given fault refused = (λ e. absurd (cc e), λ none. absurd (IsMakeRefused-breaks_some m rounds given fault refused none))
