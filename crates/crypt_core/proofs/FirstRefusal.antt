-- Shows which error a text gets from `Setting::read`, for its clauses and those of `check_bytes`, `scheme_at`,
-- `shacrypt_at` and `params_at` in src/setting/read.rt. A refusal is the error of the first stage that fails, so each
-- lemma `refused_..` combines one failure with the proof that no earlier stage fails. The lemmas `refused-from_..` do
-- that stage by stage, for what the text has spelled so far: a method's prefix excludes the errors of the other
-- methods, and a cost part that is spelled excludes the errors of cost parts.
use Rattle.std.proofs.Common.{◌≡◌, ℕ, ◌≤◌, ◌<◌, Bool, true, false, inl, inr, List, ◌++◌, length, drop, All, refl, sym, ap, subst, ◌∙◌, arith}
use Rattle.std.proofs.Math.Seq.{drop-append_seam}
use Rattle.std.proofs.lemmas.List.{append_cancel_left}
use Rattle.kdf_core.specs.Params.{ScryptParams, IsAccepted, IsInRange, IsWithinCeiling}
use Rattle.crypt_core.specs.declared.method.Method.{Method}
use Rattle.crypt_core.specs.declared.method.Method.TheVariants as methods
use Rattle.crypt_core.specs.Rounds.{Rounds}
use Rattle.crypt_core.specs.declared.scheme.Scheme.{Scheme}
use Rattle.crypt_core.specs.declared.scheme.Scheme.TheVariants.{Md5crypt, Shacrypt, Scrypt}
use Rattle.crypt_core.specs.declared.scheme.Sha.{Sha}
use Rattle.crypt_core.specs.declared.scheme.Sha.TheVariants.{Sha256}
use Rattle.crypt_core.specs.declared.setting.fault.SettingFault.TheVariants.{TooLong, BadCharacter, UnknownScheme, BadRounds, BadCost, ScryptRange, AboveCeiling, BadSalt}
use Rattle.crypt_core.specs.MethodLimits.{prefix}
use Rattle.crypt_core.specs.Private.Parts.{HasNumerals, IsSettingText, KeepsField, LacksCharacters, LacksRounds, SpellsSalt}
use Rattle.crypt_core.specs.Refusals.{FailsStage, IsRefused, LacksCost, setting_faults}
use Rattle.crypt_core.specs.Rules.{IsFirstBroken}
use Rattle.crypt_core.specs.declared.setting.fault.SettingFault.{SettingFault}
use Rattle.crypt_core.specs.Schemes.{IsScheme, method_of, sha_method}
use Rattle.crypt_core.specs.Settings.{IsSettingByte, IsField, BeginsWith, rounds_word, scrypt_part, IsScryptSalt, KeepsSalt, SpellsCost, Spells, SpellsRounds, SpellsScheme, setting_limit}
use Rattle.crypt_core.specs.TextLimits.{scrypt_part_len}
use Rattle.crypt_core.proofs.ScryptPartFacts.{length-scrypt_part, in_alphabet-scrypt_part}
use Rattle.crypt_core.proofs.OneSetting.{prefix_unique, scheme_unique, sha_method-not_others}
use Rattle.crypt_core.proofs.Refusals.{SpellsScheme-not-LacksCost}
use Rattle.crypt_core.proofs.SpelledRounds.{rounds_field-append}

-- ---- fronts that spell a scheme

-- A text that is a method's prefix, a cost part of a scheme of this method (`SpellsCost`), and a rest, spells the
-- scheme.
pub SpellsScheme-from_cost_part : (text : List ℕ) (scheme : Scheme) (after part rest : List ℕ) → text ≡ prefix (method_of scheme) ++ after → after ≡ part ++ rest → SpellsCost scheme part rest → SpellsScheme text scheme rest
SpellsScheme-from_cost_part text scheme after part rest begins parts cost =
    (part, begins ∙ ap (λ (x : List ℕ). prefix (method_of scheme) ++ x) parts, cost)

-- A text that is scrypt's prefix, the cost part of numbers that fit it, and a rest, spells the scheme of scrypt with
-- these numbers.
pub SpellsScheme-scrypt : (text : List ℕ) (n : ScryptParams) (after rest : List ℕ) → text ≡ prefix methods.Scrypt ++ after → after ≡ scrypt_part n ++ rest → HasNumerals n → SpellsScheme text (Scrypt n) rest
SpellsScheme-scrypt text n after rest begins parts numbers =
    SpellsScheme-from_cost_part text (Scrypt n) after (scrypt_part n) rest begins parts (refl, numbers.0, numbers.1, numbers.2)

-- Dropping the 11 characters of scrypt's cost part leaves what follows it.
pub drop-scrypt_part : (after rest : List ℕ) (n : ScryptParams) → after ≡ scrypt_part n ++ rest → drop scrypt_part_len after ≡ rest
drop-scrypt_part after rest n parts =
    ap (λ (k : ℕ). drop k after) (sym (length-scrypt_part n)) ∙ ap (λ (t : List ℕ). drop (length (scrypt_part n)) t) parts ∙ drop-append_seam (scrypt_part n) rest

-- If a scheme is in range, the salt that its method keeps of a field is the one that the scheme keeps.
KeepsSalt-from_KeepsField : (scheme : Scheme) (field salt : List ℕ) → IsScheme scheme → KeepsField (method_of scheme) field salt → KeepsSalt scheme field salt
KeepsSalt-from_KeepsField (Scrypt n) field salt c k = (c, k.0, k.1)
KeepsSalt-from_KeepsField (Shacrypt Sha256 r) field salt c k = k
KeepsSalt-from_KeepsField scheme field salt c k = k

-- If a text has the length and the bytes of a setting, spells a scheme in range, and then has a salt that the scheme's
-- method keeps, it spells the setting with this scheme and this salt. In `k`, `.0` is the field of the salt, `.1.0`
-- what follows it in `after` (`.1.1`), `.1.2` that the field ends there, and `.2` that the method keeps this salt of
-- it.
pub Spells-from_SpellsScheme : (text : List ℕ) (scheme : Scheme) (after salt : List ℕ) → IsSettingText text → SpellsScheme text scheme after → IsScheme scheme → SpellsSalt (method_of scheme) after salt → Spells text (record { scheme = scheme; salt = salt })
Spells-from_SpellsScheme text scheme after salt t s c k = record {
  short = t.short;
  bytes = t.bytes;
  field = k.0;
  rest = k.1.0;
  is_field = k.1.2;
  scheme = subst (SpellsScheme text scheme) k.1.1 s;
  salt = KeepsSalt-from_KeepsField scheme k.0 salt c k.2;
}

-- ---- fronts without a cost part

-- If a text spells rounds of SHA-crypt, it has a well-formed `rounds=` field or doesn't begin with `rounds=`.
SpellsRounds-not-LacksRounds : (r : Rounds) (part after : List ℕ) → SpellsRounds r part after → LacksRounds (part ++ after) → ⊥
SpellsRounds-not-LacksRounds r part after s lacks = by r.is_written s
  where
    by : (f : Bool) → SpellsRounds (record { count = r.count; is_written = f }) part after → ⊥
    by true w =
        lacks.2 w.0 after w.1 (append_cancel_left rounds_word _ _ (sym lacks.1 ∙ ap (λ (x : List ℕ). x ++ after) w.2 ∙ rounds_field-append w.0 after))
    by false w = w.2 (lacks.0, sym (ap (λ (x : List ℕ). x ++ after) w.0) ∙ lacks.1)

-- A text that has `rounds=` after SHA-crypt's prefix, but no well-formed `rounds=` field, lacks a cost part of
-- SHA-crypt.
LacksCost-from_LacksRounds : (text : List ℕ) (sha : Sha) (after : List ℕ) → text ≡ prefix (sha_method sha) ++ after → LacksRounds after → LacksCost (sha_method sha) text
LacksCost-from_LacksRounds text sha after e lacks = ((after, e), none)
  where
    none : (scheme : Scheme) (z : List ℕ) → method_of scheme ≡ sha_method sha → SpellsScheme text scheme z → ⊥
    none (Shacrypt other r) z m s =
        SpellsRounds-not-LacksRounds r s.0 z s.2 (subst LacksRounds (sym (prefix_unique (sha_method other) (sha_method sha) (s.0 ++ z) after (sym s.1 ∙ e)).1) lacks)
    none Md5crypt z m s = (sha_method-not_others sha).0 (sym m)
    none (Scrypt n) z m s = (sha_method-not_others sha).1 (sym m)

-- A text that has too few characters of the alphabet after scrypt's prefix lacks a cost part of scrypt.
LacksCost-from_LacksCharacters : (text after : List ℕ) → text ≡ prefix methods.Scrypt ++ after → LacksCharacters after → LacksCost methods.Scrypt text
LacksCost-from_LacksCharacters text after e lacks = ((after, e), none)
  where
    none : (scheme : Scheme) (z : List ℕ) → method_of scheme ≡ methods.Scrypt → SpellsScheme text scheme z → ⊥
    none (Scrypt n) z m s =
        let parts : s.0 ++ z ≡ after = (prefix_unique methods.Scrypt methods.Scrypt (s.0 ++ z) after (sym s.1 ∙ e)).1 in
        lacks (scrypt_part n) z (length-scrypt_part n) (in_alphabet-scrypt_part n) (sym parts ∙ ap (λ (x : List ℕ). x ++ z) s.2.0)
    none Md5crypt z m s = absurd cc
    none (Shacrypt sha r) z m s = (sha_method-not_others sha).1 m

-- A text with the prefix of one method can't lack the cost part of another, since `lacks.0` says that it begins with
-- the other's prefix.
other_prefix-not-LacksCost : (text : List ℕ) (a b : Method) (after : List ℕ) → (a ≡ b → ⊥) → text ≡ prefix a ++ after → LacksCost b text → ⊥
other_prefix-not-LacksCost text a b after differ e lacks = differ (prefix_unique a b after lacks.0.0 (sym e ∙ lacks.0.1)).0

-- ---- the errors

pub refused_too_long : (text : List ℕ) → setting_limit < length text → IsRefused text TooLong
unfolding IsRefused
refused_too_long text long = inl (refl, long)

pub refused_bad_character : (text : List ℕ) → length text ≤ setting_limit → (All IsSettingByte text → ⊥) → IsRefused text BadCharacter
unfolding IsRefused
refused_bad_character text short bad = inr (λ b. omega arith, inl (refl, bad))

-- A text that begins with none of the four prefixes begins with no method's prefix.
pub begins_with_no_prefix : (text : List ℕ) → ¬ BeginsWith text (prefix methods.Md5crypt) → ¬ BeginsWith text (prefix methods.Sha256crypt) → ¬ BeginsWith text (prefix methods.Sha512crypt) → ¬ BeginsWith text (prefix methods.Scrypt) → (m : Method) → ¬ BeginsWith text (prefix m)
begins_with_no_prefix text not_1 not_5 not_6 not_7 methods.Md5crypt = not_1
begins_with_no_prefix text not_1 not_5 not_6 not_7 methods.Sha256crypt = not_5
begins_with_no_prefix text not_1 not_5 not_6 not_7 methods.Sha512crypt = not_6
begins_with_no_prefix text not_1 not_5 not_6 not_7 methods.Scrypt = not_7

module _ (text : List ℕ) (is_text : IsSettingText text) where
  -- FirstFrom stage fault: this is the error of the first stage that fails, if the stages before number `stage` are
  -- left out.
  abbrev FirstFrom : ℕ → SettingFault → Type 0
  FirstFrom stage = IsFirstBroken (drop stage setting_faults) (FailsStage text)

  -- A text with the length and the bytes of a setting passes the stages `TooLong` and `BadCharacter`.
  refused-from_prefix_stage : (fault : SettingFault) → FirstFrom 2 fault → IsRefused text fault
  unfolding IsRefused
  refused-from_prefix_stage fault first = inr (λ long. omega (arith, is_text.short, long), inr (λ bad. bad is_text.bytes, first))

  pub refused_unknown_scheme : ((m : Method) → BeginsWith text (prefix m) → ⊥) → IsRefused text UnknownScheme
  refused_unknown_scheme none = refused-from_prefix_stage UnknownScheme (inl (refl, none))

  -- A text with a method's prefix passes the stage `UnknownScheme`.
  refused-from_cost_stage : (m : Method) (after : List ℕ) (fault : SettingFault) → text ≡ prefix m ++ after → FirstFrom 3 fault → IsRefused text fault
  refused-from_cost_stage m after fault e first = refused-from_prefix_stage fault (inr (λ none. none m (after, e), first))

  pub refused_bad_rounds : (sha : Sha) (after : List ℕ) → text ≡ prefix (sha_method sha) ++ after → LacksRounds after → IsRefused text BadRounds
  refused_bad_rounds sha after e lacks = refused-from_cost_stage (sha_method sha) after BadRounds e (inl (refl, (sha, LacksCost-from_LacksRounds text sha after e lacks)))

  -- A text with scrypt's prefix passes the stage `BadRounds`.
  refused-from_scrypt_cost_stage : (after : List ℕ) (fault : SettingFault) → text ≡ prefix methods.Scrypt ++ after → FirstFrom 4 fault → IsRefused text fault
  refused-from_scrypt_cost_stage after fault e first =
      refused-from_cost_stage methods.Scrypt after fault e (inr (λ b. other_prefix-not-LacksCost text methods.Scrypt (sha_method b.0) after (λ same. (sha_method-not_others b.0).1 (sym same)) e b.1, first))

  pub refused_bad_cost : (after : List ℕ) → text ≡ prefix methods.Scrypt ++ after → LacksCharacters after → IsRefused text BadCost
  refused_bad_cost after e lacks = refused-from_scrypt_cost_stage after BadCost e (inl (refl, LacksCost-from_LacksCharacters text after e lacks))

  -- A text that spells scrypt's numbers passes the stage `BadCost`.
  module _ (n : ScryptParams) (rest : List ℕ) (spelled : SpellsScheme text (Scrypt n) rest) where
    refused-from_range_stage : (fault : SettingFault) → FirstFrom 5 fault → IsRefused text fault
    refused-from_range_stage fault first = refused-from_scrypt_cost_stage (spelled.0 ++ rest) fault spelled.1 (inr (SpellsScheme-not-LacksCost text (Scrypt n) rest methods.Scrypt spelled, first))

    pub refused_scrypt_range : (IsInRange n → ⊥) → IsRefused text ScryptRange
    refused_scrypt_range outside = refused-from_range_stage ScryptRange (inl (refl, (n, rest, spelled, outside)))

    -- The text spells no other numbers of scrypt than n.
    scrypt_numbers_unique : (m : ScryptParams) (after : List ℕ) → SpellsScheme text (Scrypt m) after → n ≡ m
    scrypt_numbers_unique m after s = let same : Scrypt n ≡ Scrypt m = (scheme_unique text (Scrypt n) (Scrypt m) rest after spelled s).0 in cc

    -- A text that spells numbers in range also passes the stage `ScryptRange`, and with accepted ones `AboveCeiling`.
    refused-from_ceiling_stage : IsInRange n → (fault : SettingFault) → FirstFrom 6 fault → IsRefused text fault
    refused-from_ceiling_stage inside fault first = refused-from_range_stage fault (inr (λ b. b.3 (subst IsInRange (scrypt_numbers_unique b.0 b.1 b.2) inside), first))

    pub refused_above_ceiling : IsInRange n → (IsWithinCeiling n → ⊥) → IsRefused text AboveCeiling
    refused_above_ceiling inside above = refused-from_ceiling_stage inside AboveCeiling (inl (refl, (n, rest, spelled, above)))

    refused-from_salt_stage : IsAccepted n → (fault : SettingFault) → FirstFrom 7 fault → IsRefused text fault
    refused-from_salt_stage accepted fault first =
        refused-from_ceiling_stage accepted.0 fault (inr (λ b. b.3 (subst IsWithinCeiling (scrypt_numbers_unique b.0 b.1 b.2) accepted.1), first))

-- A text that spells a scheme of scrypt in range, but has no salt of scrypt, has a bad salt.
pub refused_bad_salt : (text : List ℕ) (scheme : Scheme) (field rest : List ℕ) → IsSettingText text → SpellsScheme text scheme (field ++ rest) → IsScheme scheme → method_of scheme ≡ methods.Scrypt → IsField field rest → (IsScryptSalt field → ⊥) → IsRefused text BadSalt
refused_bad_salt text (Scrypt n) field rest t s c m f bad = refused-from_salt_stage text t n (field ++ rest) s c BadSalt (inl (refl, (n, field, rest, s, f, bad)))
refused_bad_salt text Md5crypt field rest t s c m f bad = absurd cc
refused_bad_salt text (Shacrypt sha r) field rest t s c m f bad = absurd ((sha_method-not_others sha).1 m)
