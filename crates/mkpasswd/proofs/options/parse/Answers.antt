-- The clauses `ok` and `err` of `parse`, and the invariant of its result, follow from `clap`'s clauses for this
-- command. CommandFacts has the properties of the command that `clap`'s clauses require.
use Rattle.std.proofs.Common.{◌≡◌, ◌≢◌, ◌∙◌, List, [], true, map, string_bytes, ap, subst, sym, inl, inr}
use Rattle.std.specs.List.{list_all}
use Rattle.std.proofs.lemmas.Result.{err_from_is_err_and}
use Rattle.clap.specs.Kinds.{HasKind, IsAmong}
use Rattle.clap.specs.Simple.{is_ready, is_ready_leaf}
use Rattle.clap.specs.Words.{App, HasMatchesOf, IsParsedFrom, Text, app_of, fault_of, found_of, is_simple_and_free, kind_of, matches_of, one_text, rows_of, takes}
use Rattle.clap.specs.declared.builder.command.Command.{Command}
use Rattle.clap.specs.declared.error.Error.{Error}
use Rattle.clap.specs.declared.error.kind.ErrorKind.TheVariants as kind
use Rattle.clap.specs.declared.parser.matches.ArgMatches.{ArgMatches}
use Rattle.mkpasswd.specs.Options.{Refuses, command}
use Rattle.mkpasswd.proofs.CommandFacts as facts
use Rattle.mkpasswd.specs.Private.Options.{HavePassed}
use Rattle.mkpasswd.proofs.AcceptedValues.{IsOnlyRule, all_free, IsOnlyRule-parser_by_id, HasPassed-one_text}
use Rattle.mkpasswd.proofs.options.parse.Goals as goal

-- ---- Refusals

-- If `clap` returns an error other than a failed allocation, then the arguments are invalid as this error says, or they
-- ask for help or the version.
Refuses-clap_error : (a : App) (arguments : List Text) (e : Error) → a ≡ command → (takes a arguments ≡ true → kind_of e ≡ kind.OutOfMemory)
    → (is_simple_and_free a ≡ true → HasKind (fault_of a arguments) e) → kind_of e ≢ kind.OutOfMemory → Refuses arguments e
Refuses-clap_error a arguments e is passes kinds other = record {
  called_for = elim (kinds (ap is_simple_and_free is ∙ facts.command-is_simple_and_free)) [ inl memory ↦ absurd (other memory) | inr among ↦ subst (λ (x : App). IsAmong (kind_of e) (fault_of x arguments)) is among ];
  not_taken = λ taken. other (passes (ap (λ (x : App). takes x arguments) is ∙ taken));
  not_memory = other;
}

pub returns-in_err-matches-clause-err : goal.returns-in_err-matches-clause-err
returns-in_err-matches-clause-err c =
    let error = c.in_err-matches.field-0.0 in
    let clauses = c.in_err-matches.ensures in
    let p = err_from_is_err_and c.from_residual-in_err-matches.result c.from_residual-in_err-matches.ensures.1 in
    rw (p.1, p.2) (Refuses-clap_error _ _ error c.in_ok-command.ensures clauses.passes clauses.kinds)

-- ---- Values

-- The rows that `clap` finds are those that the definition `matches_of` computes from the arguments.
rows_of-matches : (a : App) (arguments : List Text) (m : ArgMatches) → a ≡ command → HasMatchesOf a arguments m → rows_of (found_of m) ≡ matches_of command arguments
rows_of-matches a arguments m is matches = (subst (λ (x : App). HasMatchesOf x arguments m) is matches facts.command-is_simple).0

-- Each value that `clap` found is accepted by the parser of its option.
HavePassed-parsed : (c : Command) (m : ArgMatches) → app_of c ≡ command → IsParsedFrom c m → HavePassed m
HavePassed-parsed c m is parsed id parser parser_is text read =
    let rule = IsOnlyRule-parser_by_id command.top.rules facts.command-have_own_ids id parser (facts.command-parser_by_id id parser parser_is) in
    HasPassed-one_text c m rule.0 rule.1 parser parsed
    (ap (λ (a : App). is_ready a.top) is ∙ facts.command-is_ready)
    (subst (λ (a : App). list_all is_ready_leaf a.subs ≡ true) (sym is) facts.command-ready_leaves)
    (ap (λ (a : App). all_free a.top.rules) is ∙ facts.command-all_free)
    (subst (λ (a : App). IsOnlyRule a.top.rules rule.0 rule.1 parser) (sym is) rule.3)
    text
    (ap (one_text (found_of m)) rule.2 ∙ read)

pub invariant_of-result : goal.invariant_of-result
invariant_of-result c = HavePassed-parsed _ c.in_ok-matches.matches c.in_ok-command.ensures c.in_ok-matches.ensures.parsed

pub returns-clause-ok : goal.returns-clause-ok
returns-clause-ok c =
    let is = c.in_ok-command.ensures in
    let clauses = c.in_ok-matches.ensures in
    let arguments = map string_bytes c.args.arguments.now in (
      subst (λ (a : App). fault_of a arguments ≡ []) is (clauses.kinds (ap is_simple_and_free is ∙ facts.command-is_simple_and_free)),
      rows_of-matches _ arguments c.in_ok-matches.matches is clauses.matches,
    )
