-- Each value that `clap` finds for an option is one that the option's parser accepts. `parse` needs this for the
-- invariant of `Arguments`, from which `number32` and `number64` know that their numbers are below their limits.
--
-- `clap` promises this for a command whose arguments have no rules about one another. The main step: no two arguments
-- have the same id, and `clap` adds none with such an id when it builds the command. So a value under an id has passed
-- the parser of the one argument with that id.
use Rattle.std.proofs.Common.{◌≡◌, ◌∙◌, ◌<◌, ◌⊎◌, ◌&&◌, ℕ, Bool, not, true, false, true≢false, Option, Some, None, zero, suc, sym, ap, refl, subst, arith, List, [], ◌∷◌, map, length, codes, inl, inr}
use Rattle.std.specs.Borrow.{Bor}
use Rattle.std.specs.List.{All, list_all, slice_index_or}
use Rattle.std.specs.Option.{option_map}
use Rattle.std.specs.Prelude.{slice_get, if◌then◌else◌}
use Rattle.std.proofs.lemmas.Bool.{and_parts, not-true}
use Rattle.std.specs.Str.{bytes_eq}
use Rattle.std.proofs.lemmas.List.{get_or-map, length-map}
use Rattle.std.proofs.lemmas.List.Elements.{All-get_or}
use Rattle.std.proofs.lemmas.Slice.Eq.{bytes_eq-Decides}
use Rattle.clap.specs.Built.{IsParsedFrom, IsPlain}
use Rattle.clap.specs.Facts.{Entry, EntryPasses, PassesArg, args_of, groups_of, parser_of, parser_of_value}
use Rattle.clap.specs.Matches.{found_of, matched_of, one_text}
use Rattle.clap.specs.Simple.{HasReadyLeaves, has_simple_rules, is_ready, shape_of}
use Rattle.clap.specs.Values.{Accepts, read_as, reading_of}
use Rattle.clap.specs.Walk.{Rule, Text, is_free_arg, rule_of}
use Rattle.clap.specs.declared.builder.arg.Arg.{Arg}
use Rattle.clap.specs.declared.builder.command.Command.{Command}
use Rattle.clap.specs.declared.builder.value_parser.Reading.{Reading}
use Rattle.clap.specs.declared.builder.value_parser.ValueParser.{ValueParser}
use Rattle.clap.specs.declared.parser.matches.ArgMatches.{ArgMatches}
use Rattle.clap.specs.declared.parser.matches.MatchedArg.{MatchedArg}
use Rattle.clap.proofs.CallerLemmas.{entry_by_id, same_rules_by_id}
use Rattle.clap.proofs.SimpleLemmas.{is_false, is_nil, ready_simple, simple_groups}
use Rattle.mkpasswd.specs.Private.Options.{HasPassed, parser_by_id}

-- ---- A command whose arguments have no rules about one another

-- all_free rules: whether every rule is free (`is_free`).
abbrev pub all_free : List Rule → Bool
all_free = list_all (λ rule. rule.is_free)

-- If every rule is free, so is every argument: it neither excludes other arguments nor conflicts with them.
is_free_arg-all_free : (xs : List Arg) → all_free (map rule_of xs) ≡ true → All (λ a. is_free_arg a ≡ true) xs
is_free_arg-all_free [] e k d lt = absurd (omega arith)
is_free_arg-all_free (x ∷ xs) e zero d lt = (and_parts _ _ e).0
is_free_arg-all_free (x ∷ xs) e (suc k) d lt = is_free_arg-all_free xs (and_parts _ _ e).1 k d (omega arith)

-- A command all of whose rules are free has no exclusions, conflicts, overrides or groups. `IsPlain` states this of
-- each argument `k` below their number (`lt`); `d` stands for an argument beyond them, and is not used.
IsPlain-all_free : (c : Command) → is_ready (shape_of c) ≡ true → HasReadyLeaves c → all_free (shape_of c).rules ≡ true → IsPlain c
IsPlain-all_free c ready leaves free =
    let simple = ready_simple c ready leaves in
    let all_simple = (and_parts (shape_of c).is_plain _ (and_parts (has_simple_rules (shape_of c)) _ ready).0).1 in (
      λ k d lt.
          let arg = slice_index_or (args_of c) k d in
          let own = and_parts _ _ (is_free_arg-all_free (args_of c) free k d lt) in
          (is_false arg.exclusive own.0, is_nil arg.conflicts.items (and_parts _ _ own.1).0, (simple.args k d lt).overrides, simple_groups c all_simple k d lt),
      simple.groups,
    )

-- ---- A value of an argument

-- IsOnly c k id q: argument k of the command has this id, which is not empty, and the parser `q`. No other argument has
-- its id, and `clap` adds none with it when it builds the command.
record IsOnly (c : Command) (k : ℕ) (id : Text) (q : ValueParser) : Type 0 where
  within : k < length (args_of c)
  called : (d : Arg) → (slice_index_or (args_of c) k d).id.now ≡ id
  parser : (d : Arg) → (slice_index_or (args_of c) k d).value_parser ≡ Some q
  only : (j : ℕ) (e : Arg) → j < length (args_of c) → bytes_eq (slice_index_or (args_of c) j e).id.now id ≡ true → j ≡ k
  named : id ≡ [] → ⊥
  own : (id ≡ codes "help") ⊎ (id ≡ codes "version") → ⊥

-- If argument k is the only one with this id, each argument with this id in the built command has its parser.
parser_of-IsOnly : (c : Command) (m : ArgMatches) (p : IsParsedFrom c m) (k : ℕ) (id : Text) (q : ValueParser) → IsOnly c k id q
    → (j : ℕ) (x : Arg) → j < length (args_of p.built) → slice_index_or (args_of p.built) j x ≡ x → bytes_eq x.id.now id ≡ true
    → parser_of x ≡ q
parser_of-IsOnly c m p k id q is j x low at same =
    let called = is.called x in
    let rules = same_rules_by_id c m p k x is.within
    (λ i e within hit. is.only i e within (subst (λ (t : Text). bytes_eq (slice_index_or (args_of c) i e).id.now t ≡ true) called hit))
    (λ auto. is.own (elim auto [ inl h ↦ inl (sym called ∙ h) | inr h ↦ inr (sym called ∙ h) ]))
    j x low at (subst (λ (t : Text). bytes_eq x.id.now t ≡ true) (sym called) same) in
    ap parser_of_value (rules.parser q (is.parser x))

-- If `P` holds for all values, the text of the first value is read from a value for which `P` holds.
first_text-All : (P : Bor Text → Type 0) (how : Reading) (values : List (Bor Text)) (text : Text) → All P values
    → option_map (λ s. read_as how s.now) (slice_get values 0) ≡ Some text → (v : Bor Text) × (text ≡ read_as how v.now) × P v
first_text-All P how [] text all is = cc
first_text-All P how (v ∷ vs) text all is =
    let same : text ≡ read_as how v.now = cc in
    (v, same, All-get_or P (v ∷ vs) 0 v (omega arith) all)

-- If argument k is the only one with this id, the text of an entry with this id is read from a value that its parser
-- accepts. In `pass`, `.0` is on the values of the entry, `.3` says when an entry can be that of a group, and `.4` that
-- an argument with the entry's id reads values in this way. `any` is an argument with this id: its place and itself
-- (`.0`, `.1`), that it is there (`.2`, `.3`), its id (`.4.0`), and what holds of it (`.4.1`).
HasPassed_from_EntryPasses : (c : Command) (m : ArgMatches) (p : IsParsedFrom c m) (k : ℕ) (id : Text) (q : ValueParser) → IsOnly c k id q → groups_of p.built ≡ []
    → (e : Entry) → e.0.now ≡ id → EntryPasses p.built e
    → (text : Text) → option_map (λ s. read_as e.1.reading s.now) (slice_get e.1.vals.items 0) ≡ Some text → HasPassed q text
HasPassed_from_EntryPasses c m p k id q is no_groups e key pass text read =
    let own_parser : (j : ℕ) (x : Arg) → j < length (args_of p.built) → slice_index_or (args_of p.built) j x ≡ x → bytes_eq x.id.now e.0.now ≡ true → parser_of x ≡ q =
    λ j x low at same. parser_of-IsOnly c m p k id q is j x low at (subst (λ (t : Text). bytes_eq x.id.now t ≡ true) key same) in
    let no_group : e.1.is_group ≡ true → ⊥ = λ group. elim (pass.3 group) [
      | inl empty ↦ is.named (sym key ∙ empty)
      | inr some ↦
          let bad : 0 < 0 = rw no_groups at some in
          absurd (omega arith)
    ] in
    let all : All (λ v. PassesArg p.built e.0.now v.now) e.1.vals.items = elim pass.0 [ inl group ↦ absurd (no_group group) | inr values ↦ values ] in
    let how : e.1.reading ≡ reading_of q = elim pass.4 [
      | inl group ↦ absurd (no_group group)
      | inr any ↦ sym any.4.1 ∙ ap reading_of (own_parser any.0 any.1 any.2 any.3 any.4.0)
    ] in
    let first = first_text-All (λ v. PassesArg p.built e.0.now v.now) e.1.reading e.1.vals.items text all read in
    let any = first.2 in (
      first.0.now,
      any.1.ignore_case,
      first.1 ∙ ap (λ (r : Reading). read_as r first.0.now) how,
      subst (λ (w : ValueParser). Accepts any.1.ignore_case w first.0.now) (own_parser any.0 any.1 any.2 any.3 any.4.0) any.4.1,
    )

-- IsOnlyRule rules k r q: rule k is `r`, which has the parser `q`. No other rule has its id, which is not empty and
-- neither `help` nor `version`.
pub record IsOnlyRule (rules : List Rule) (k : ℕ) (r : Rule) (q : ValueParser) : Type 0 where
  pub within : k < length rules
  pub place : (z : Rule) → slice_index_or rules k z ≡ r
  pub parser : r.parser ≡ Some q
  pub only : (j : ℕ) (z : Rule) → j < length rules → bytes_eq (slice_index_or rules j z).id r.id ≡ true → j ≡ k
  pub named : r.id ≡ [] → ⊥
  pub own : (r.id ≡ codes "help") ⊎ (r.id ≡ codes "version") → ⊥

-- If rule k is the only one with its id, argument k is the only argument with that id.
IsOnly_from_IsOnlyRule : (c : Command) (k : ℕ) (r : Rule) (q : ValueParser) → IsOnlyRule (shape_of c).rules k r q → IsOnly c k r.id q
IsOnly_from_IsOnlyRule c k r q rule =
    let count : length (map rule_of (args_of c)) ≡ length (args_of c) = length-map (args_of c) rule_of in
    let lt : k < length (args_of c) = let within = rule.within in omega arith in
    let rule_at : (j : ℕ) (d : Arg) → j < length (args_of c) → slice_index_or (map rule_of (args_of c)) j (rule_of d) ≡ rule_of (slice_index_or (args_of c) j d) = λ j d low. get_or-map rule_of (args_of c) j d (rule_of d) low in
    let is : (d : Arg) → rule_of (slice_index_or (args_of c) k d) ≡ r = λ d. sym (rule_at k d lt) ∙ rule.place (rule_of d) in
    record {
      within = lt;
      called = λ d. ap (λ (x : Rule). x.id) (is d);
      parser = λ d. ap (λ (x : Rule). x.parser) (is d) ∙ rule.parser;
      only = λ j d low same. rule.only j (rule_of d) (let bound : j < length (args_of c) = low in omega arith) (rw (rule_at j d low) same);
      named = rule.named;
      own = rule.own;
    }

-- ---- The rule with an id, if no two rules have the same id

-- lacks_id id rules: whether no rule has this id.
abbrev lacks_id : Text → List Rule → Bool
lacks_id id = list_all (λ rule. not (bytes_eq rule.id id))

-- have_own_ids rules: whether no two rules have the same id, and no id is empty, `help` or `version`.
abbrev pub have_own_ids : List Rule → Bool
have_own_ids [] = true
have_own_ids (rule ∷ rules) =
    lacks_id rule.id rules && (not (bytes_eq rule.id []) && (not (bytes_eq rule.id (codes "help")) && (not (bytes_eq rule.id (codes "version")) && have_own_ids rules)))

-- Texts that `bytes_eq` tells apart differ.
bytes_eq-false-ne : {a b : Text} → not (bytes_eq a b) ≡ true → a ≡ b → ⊥
bytes_eq-false-ne {a} {b} differ same = true≢false (sym ((bytes_eq-Decides a b).1 same) ∙ not-true (bytes_eq a b) differ)

-- If `lacks_id` holds of an id and the rules, no single rule has this id.
lacks_id-each : (id : Text) (rules : List Rule) → lacks_id id rules ≡ true
    → (j : ℕ) (z : Rule) → j < length rules → bytes_eq (slice_index_or rules j z).id id ≡ true → ⊥
lacks_id-each id [] all j z lt same = absurd (omega arith)
lacks_id-each id (rule ∷ rules) all zero z lt same = true≢false (sym same ∙ not-true (bytes_eq rule.id id) (and_parts _ _ all).0)
lacks_id-each id (rule ∷ rules) all (suc j) z lt same = lacks_id-each id rules (and_parts _ _ all).1 j z (omega arith) same

-- HaveOne rules id q: exactly one of the rules has this id, and its parser is `q`.
abbrev HaveOne : List Rule → Text → ValueParser → Type 0
HaveOne rules id q = (k : ℕ) × (r : Rule) × (r.id ≡ id) × IsOnlyRule rules k r q

-- If no two rules have the same id, the parser that `parser_by_id` finds is that of the only rule with this id.
pub IsOnlyRule-parser_by_id : (rules : List Rule) → have_own_ids rules ≡ true → (id : Text) (q : ValueParser) → parser_by_id id rules ≡ Some q → HaveOne rules id q
IsOnlyRule-parser_by_id [] own id q is = absurd cc
IsOnlyRule-parser_by_id (rule ∷ rules) own id q is = go (bytes_eq rule.id id) refl (λ others. IsOnlyRule-parser_by_id rules others id q) is
  where
    alone : lacks_id rule.id rules ≡ true
    alone = (and_parts (lacks_id rule.id rules) _ own).0

    -- The rule's id isn't empty, `help` or `version`, and the other rules have their own ids.
    differs_from : (not (bytes_eq rule.id []) ≡ true) × ((not (bytes_eq rule.id (codes "help")) ≡ true) × ((not (bytes_eq rule.id (codes "version")) ≡ true) × (have_own_ids rules ≡ true)))
    differs_from =
        let named = and_parts (not (bytes_eq rule.id [])) _ (and_parts (lacks_id rule.id rules) _ own).1 in
        let no_help = and_parts (not (bytes_eq rule.id (codes "help"))) _ named.1 in
        (named.0, (no_help.0, and_parts (not (bytes_eq rule.id (codes "version"))) (have_own_ids rules) no_help.1))

    later : (k : ℕ) (r : Rule) → r.id ≡ id → bytes_eq rule.id id ≡ false → IsOnlyRule rules k r q → IsOnlyRule (rule ∷ rules) (suc k) r q
    later k r of_id differs found = record {
      within = (let within = found.within in omega (arith, within));
      place = found.place;
      parser = found.parser;
      only = λ j z lt same. go j z lt same;
      named = found.named;
      own = found.own;
    } where
      go : (j : ℕ) (z : Rule) → j < length (rule ∷ rules) → bytes_eq (slice_index_or (rule ∷ rules) j z).id r.id ≡ true → j ≡ suc k
      go zero z lt same = absurd (true≢false (sym same ∙ ap (bytes_eq rule.id) of_id ∙ differs))
      go (suc j) z lt same = ap suc (found.only j z (omega (arith, lt)) same)

    go : (same : Bool) → bytes_eq rule.id id ≡ same → (have_own_ids rules ≡ true → parser_by_id id rules ≡ Some q → HaveOne rules id q)
        → (if same then rule.parser else parser_by_id id rules) ≡ Some q → HaveOne (rule ∷ rules) id q
    go true same behind parser = (
      0,
      rule,
      (bytes_eq-Decides rule.id id).0 same,
      record {
        within = omega arith;
        place = λ z. refl;
        parser = parser;
        only = λ j z lt other. first j z lt other;
        named = bytes_eq-false-ne differs_from.0;
        own = λ auto. elim auto [ inl help ↦ bytes_eq-false-ne differs_from.1.0 help | inr version ↦ bytes_eq-false-ne differs_from.1.1.0 version ];
      },
    ) where
      first : (j : ℕ) (z : Rule) → j < length (rule ∷ rules) → bytes_eq (slice_index_or (rule ∷ rules) j z).id rule.id ≡ true → j ≡ 0
      first zero z lt other = refl
      first (suc j) z lt other = absurd (lacks_id-each rule.id rules alone j z (omega (arith, lt)) other)
    go false differs behind parser =
        let found = behind differs_from.1.1.1 parser in
        (suc found.0, found.1, found.2, later found.0 found.1 found.2 differs found.3)

-- If rule r is the only one with its id, the text that `clap` found for it was read from a value that its parser
-- accepts. `got` is the entry of this id (`got.0`), that it holds `x` (`got.1`), that it has the id (`got.2`), and that
-- its values passed (`got.3`).
pub HasPassed-one_text : (c : Command) (m : ArgMatches) (k : ℕ) (r : Rule) (q : ValueParser) → IsParsedFrom c m
    → is_ready (shape_of c) ≡ true → HasReadyLeaves c → all_free (shape_of c).rules ≡ true → IsOnlyRule (shape_of c).rules k r q
    → (text : Text) → one_text (found_of m) r.id ≡ Some text → HasPassed q text
HasPassed-one_text c m k r q p ready leaves free rule text read = go (matched_of (found_of m) r.id) refl read
  where
    go : (o : Option MatchedArg) → matched_of (found_of m) r.id ≡ o → one_text (found_of m) r.id ≡ Some text → HasPassed q text
    go None e is =
        let bad : None ≡ Some text = rw e at is in
        cc
    go (Some x) e is =
        let values = (p.parsed (p.from.globals ∙ (ready_simple c ready leaves).globals)).values in
        let no_groups = (p.from.plain (IsPlain-all_free c ready leaves free)).1 in
        let got = entry_by_id (EntryPasses p.built) (found_of m).entries.items r.id x values e in
        let first : option_map (λ s. read_as x.reading s.now) (slice_get x.vals.items 0) ≡ Some text = rw e at is in
        HasPassed_from_EntryPasses c m p k r.id q (IsOnly_from_IsOnlyRule c k r q rule) no_groups got.0 ((bytes_eq-Decides got.0.0.now r.id).0 got.2) got.3 text
        (subst (λ (y : MatchedArg). option_map (λ s. read_as y.reading s.now) (slice_get y.vals.items 0) ≡ Some text) (sym got.1) first)
