-- Shows that a text has at most one reading, for the clauses `each_setting`, `each_refusal` and `one_reading` of
-- `Setting::read` and `StoredField::read`. It spells at most one setting (OneSetting) and has at most one first error
-- (FirstBroken). It never has both, since what it spells passes every stage: a failing stage would give a second
-- scheme, field or parameters, and the text has only one of each.
use Rattle.std.proofs.Common.{◌≡◌, ℕ, List, ◌++◌, sym, ap, subst, ◌∙◌, arith}
use Rattle.std.specs.Prelude.{Result, Ok, Err, IfOk, IfErr}
use Rattle.kdf_core.specs.Params.{ScryptParams, IsAccepted}
use Rattle.crypt_core.specs.declared.method.Method.{Method}
use Rattle.crypt_core.specs.declared.method.Method.TheVariants as methods
use Rattle.crypt_core.specs.declared.scheme.Scheme.{Scheme}
use Rattle.crypt_core.specs.declared.scheme.Scheme.TheVariants.{Md5crypt, Shacrypt, Scrypt}
use Rattle.crypt_core.specs.declared.setting.fault.SettingFault.{SettingFault}
use Rattle.crypt_core.specs.declared.setting.fault.SettingFault.TheVariants.{TooLong, BadCharacter, UnknownScheme, BadRounds, BadCost, ScryptRange, AboveCeiling, BadSalt}
use Rattle.crypt_core.specs.Readings.{IsReadOneWay, IsReading}
use Rattle.crypt_core.specs.Refusals.{FailsStage, IsRefused, LacksCost, setting_faults}
use Rattle.crypt_core.specs.Settings.{SettingValue, IsScryptSalt, KeepsSalt, SpellsScheme, Spells}
use Rattle.crypt_core.specs.Schemes.{method_of, sha_method}
use Rattle.crypt_core.proofs.DollarFields.{field_unique}
use Rattle.crypt_core.proofs.OneSetting.{prefix_unique, scheme_unique, setting_unique}
use Rattle.crypt_core.proofs.FirstBroken.{first_breaks, first_unique}

-- A text that spells a scheme lacks no method's cost part. In `lacks`, `.0.0` is what follows the method's prefix in
-- the text (`.0.1`), and `.1` is that no scheme of the method is spelled.
pub SpellsScheme-not-LacksCost : (text : List ℕ) (scheme : Scheme) (after : List ℕ) (m : Method) → SpellsScheme text scheme after → LacksCost m text → ⊥
SpellsScheme-not-LacksCost text scheme after m s lacks =
    let same = prefix_unique (method_of scheme) m (s.0 ++ after) lacks.0.0 (sym s.1 ∙ lacks.0.1) in
    lacks.1 scheme after same.0 s

-- If scrypt keeps a salt of a field, its parameters are accepted and the field is a salt of scrypt.
KeepsSalt-scrypt : (scheme : Scheme) (n : ScryptParams) (field salt : List ℕ) → scheme ≡ Scrypt n → KeepsSalt scheme field salt → IsAccepted n × IsScryptSalt field
KeepsSalt-scrypt (Scrypt m) n field salt e k = let same : m ≡ n = cc in (subst IsAccepted same k.0, k.2)
KeepsSalt-scrypt Md5crypt n field salt e k = absurd cc
KeepsSalt-scrypt (Shacrypt sha r) n field salt e k = absurd cc

-- A text that spells a setting fails at no stage of reading. `KeepsSalt-scrypt` gives, for the parameters of scrypt,
-- that they are in range (`.0.0`) and within the ceiling (`.0.1`), and that the field is a salt of scrypt (`.1`).
pub Spells-fails_no_stage : (text : List ℕ) (kept : SettingValue) → Spells text kept → (fault : SettingFault) → FailsStage text fault → ⊥
Spells-fails_no_stage text kept s TooLong b = omega (arith, s.short)
Spells-fails_no_stage text kept s BadCharacter b = b s.bytes
Spells-fails_no_stage text kept s UnknownScheme b = b (method_of kept.scheme) (s.scheme.0 ++ (s.field ++ s.rest), s.scheme.1)
Spells-fails_no_stage text kept s BadRounds (sha, b) = SpellsScheme-not-LacksCost text kept.scheme (s.field ++ s.rest) (sha_method sha) s.scheme b
Spells-fails_no_stage text kept s BadCost b = SpellsScheme-not-LacksCost text kept.scheme (s.field ++ s.rest) methods.Scrypt s.scheme b
Spells-fails_no_stage text kept s ScryptRange b =
    let same = scheme_unique text kept.scheme (Scrypt b.0) (s.field ++ s.rest) b.1 s.scheme b.2 in
    b.3 (KeepsSalt-scrypt kept.scheme b.0 s.field kept.salt same.0 s.salt).0.0
Spells-fails_no_stage text kept s AboveCeiling b =
    let same = scheme_unique text kept.scheme (Scrypt b.0) (s.field ++ s.rest) b.1 s.scheme b.2 in
    b.3 (KeepsSalt-scrypt kept.scheme b.0 s.field kept.salt same.0 s.salt).0.1
Spells-fails_no_stage text kept s BadSalt b =
    let same = scheme_unique text kept.scheme (Scrypt b.0) (s.field ++ s.rest) (b.1 ++ b.2) s.scheme b.3 in
    let fields = field_unique s.field b.1 s.rest b.2 s.is_field b.4 same.1 in
    b.5 (subst IsScryptSalt fields.0 (KeepsSalt-scrypt kept.scheme b.0 s.field kept.salt same.0 s.salt).1)

-- A text that spells a setting has no error.
pub Spells-not-IsRefused : (text : List ℕ) (kept : SettingValue) → Spells text kept → (fault : SettingFault) → IsRefused text fault → ⊥
unfolding IsRefused
Spells-not-IsRefused text kept s fault refused = Spells-fails_no_stage text kept s fault (first_breaks setting_faults (FailsStage text) fault refused)

-- A text has at most one reading: it spells one setting, or has one error, or neither.
pub one_reading : (text : List ℕ) → IsReadOneWay text
unfolding IsReadOneWay IsRefused
one_reading text (Ok kept) (Ok other) spelled s = ap (λ (k : SettingValue). Ok k) (setting_unique text kept other spelled s)
one_reading text (Ok kept) (Err fault) spelled refused = absurd (Spells-not-IsRefused text kept spelled fault refused)
one_reading text (Err fault) (Ok kept) refused spelled = absurd (Spells-not-IsRefused text kept spelled fault refused)
one_reading text (Err fault) (Err other) refused r = ap (λ (f : SettingFault). Err f) (first_unique setting_faults (FailsStage text) fault other refused r)

-- A result that satisfies the clauses `spelled` and `refused` of `Setting::read` is a reading of the text.
IsReading-from_clauses : (text : List ℕ) (r : Result SettingValue SettingFault) → IfOk r (Spells text) → IfErr r (IsRefused text) → IsReading text r
IsReading-from_clauses text (Ok kept) spelled refused = spelled
IsReading-from_clauses text (Err fault) spelled refused = refused

-- If a text spells a setting, a result that satisfies the clauses `spelled` and `refused` of `Setting::read` is Ok with
-- this setting.
pub Ok-from_Spells : (text : List ℕ) (r : Result SettingValue SettingFault) → IfOk r (Spells text) → IfErr r (IsRefused text) → (kept : SettingValue) → Spells text kept → r ≡ Ok kept
unfolding IsReadOneWay
Ok-from_Spells text r spelled refused kept s = one_reading text r (Ok kept) (IsReading-from_clauses text r spelled refused) s

-- Likewise, if a text is refused, the result is its error.
pub Err-from_IsRefused : (text : List ℕ) (r : Result SettingValue SettingFault) → IfOk r (Spells text) → IfErr r (IsRefused text) → (fault : SettingFault) → IsRefused text fault → r ≡ Err fault
unfolding IsReadOneWay
Err-from_IsRefused text r spelled refused fault s = one_reading text r (Err fault) (IsReading-from_clauses text r spelled refused) s
