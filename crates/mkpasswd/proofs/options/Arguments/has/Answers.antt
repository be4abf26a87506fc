-- `has` returns whether the rows say that the flag is set. `get_one` reads `true` from the text `true` alone, and a
-- flag that is not given counts as false.
use Rattle.std.proofs.Common.{◌≡◌, ◌∙◌, Bool, Option, Some, None, true, false, unwrap_or, ap, refl, subst, sym, inl, inr, codes}
use Rattle.std.specs.Option.{option_map_or}
use Rattle.std.specs.Str.{bytes_eq}
use Rattle.std.specs.Str.Parse.{ParsesBool}
use Rattle.std.proofs.lemmas.Bool.{cases_Bool}
use Rattle.std.proofs.lemmas.Slice.Eq.{bytes_eq-Decides}
use Rattle.clap.specs.Words.{ReadsOne, Text, found_of}
use Rattle.clap.proofs.WalkLemmas.{one_text-rows}
use Rattle.mkpasswd.specs.Options.{is_set}
use Rattle.mkpasswd.proofs.options.Arguments.has.Goals as goal

-- Whether a value is the text that `clap` stores for a flag that is given.
abbrev is_true : Text → Bool
is_true = bytes_eq (codes "true")

-- `get_one` reads `true` from the text `true` alone. Every other text counts as false.
flag_of_text : (E : Type 0) (text : Text) (read : Option Bool) → ReadsOne {E = E} ParsesBool text read → unwrap_or read false ≡ is_true text
flag_of_text E text (Some true) is = subst (λ (t : Text). true ≡ is_true t) (sym is) refl
flag_of_text E text (Some false) is = subst (λ (t : Text). false ≡ is_true t) (sym is) refl
flag_of_text E text None (e, other) = elim (cases_Bool (is_true text)) [
  | inl same ↦ absurd (other.0 (sym ((bytes_eq-Decides (codes "true") text).0 same)))
  | inr differs ↦ sym differs
]

-- A flag for which `clap` has no value counts as not set.
flag_of_value : (E : Type 0) (value : Option Text) (read : Option Bool) → (value ≡ None → read ≡ None) → ((text : Text) → value ≡ Some text → ReadsOne {E = E} ParsesBool text read)
    → unwrap_or read false ≡ option_map_or is_true value false
flag_of_value E None read none some = ap (λ (r : Option Bool). unwrap_or r false) (none refl)
flag_of_value E (Some text) read none some = flag_of_text E text read (some text refl)

pub returns : goal.returns
returns c =
    c.unwrap_or.ensures ∙ flag_of_value _ _ c.get_one.result c.get_one.ensures.none c.get_one.ensures.value
    ∙ ap (λ (value : Option Text). option_map_or is_true value false) (one_text-rows (found_of c.self.inside.matches) c.args.id.now)
    ∙ ap (is_set c.args.id.now) c.self.view_is
