-- Properties of the command that `clap`'s clauses require, for the proof of `parse`: the command is simple, its
-- arguments have no rules about one another, and their ids differ. Each is computed from the definition of the command.
-- The second part computes what `clap` makes of some arguments, so that a reader can check the definition.
use Rattle.std.proofs.Common.{◌≡◌, true, false, refl, List, [], ◌∷◌, codes, Some, None}
use Rattle.std.specs.List.{list_all}
use Rattle.clap.specs.Simple.{is_ready, is_ready_leaf}
use Rattle.clap.specs.Words.{Row, Text, fault_of, first_of, is_simple, is_simple_and_free, matches_of, takes}
use Rattle.clap.specs.declared.builder.value_parser.ValueParser.{ValueParser}
use Rattle.clap.proofs.OnLiterals.{clap_on_literals}
use Rattle.mkpasswd.specs.Options.{command, command_rules, rounds_of, given_salt, is_set, mode_count, number_in, type_of}
use Rattle.mkpasswd.specs.Private.Options.{parser_by_id}
use Rattle.mkpasswd.proofs.AcceptedValues.{all_free, have_own_ids}

-- ---- A simple command, without exclusions

pub command-is_simple : is_simple command ≡ true
unfolding command
command-is_simple = refl

pub command-is_simple_and_free : is_simple_and_free command ≡ true
unfolding command
command-is_simple_and_free = refl

pub command-is_ready : is_ready command.top ≡ true
unfolding command
command-is_ready = refl

pub command-ready_leaves : list_all is_ready_leaf command.subs ≡ true
unfolding command
command-ready_leaves = refl

pub command-all_free : all_free command.top.rules ≡ true
unfolding command
command-all_free = refl

pub command-parser_by_id : (id : Text) (parser : ValueParser) → parser_by_id id command_rules ≡ Some parser → parser_by_id id command.top.rules ≡ Some parser
unfolding command
command-parser_by_id id parser is = is

pub command-have_own_ids : have_own_ids command.top.rules ≡ true
unfolding command
command-have_own_ids = refl

-- ---- What `clap` makes of some arguments

-- Arguments with several options, a sign and leading zeros in the numbers.
abbrev arguments : List Text
arguments =
    codes "-m" ∷ codes "md5" ∷ codes "-R" ∷ codes "+07" ∷ codes "--work" ∷ codes "--budget" ∷ codes "+036" ∷ codes "--check" ∷ codes "--rehash" ∷ codes "x" ∷ codes "ab" ∷ []

arguments-taken : takes command arguments ≡ true
unfolding command clap_on_literals
arguments-taken = refl

arguments-no_fault : fault_of command arguments ≡ []
unfolding command clap_on_literals
arguments-no_fault = refl

-- HasArguments rows: the rows hold exactly what `arguments` gives.
abbrev HasArguments : List Row → Type 0
HasArguments rows =
    (type_of rows ≡ codes "md5") × (given_salt rows ≡ Some (codes "ab")) × (rounds_of rows ≡ 7) × (number_in (codes "budget") rows ≡ Some 36)
    × (is_set (codes "check") rows ≡ true) × (is_set (codes "rehash") rows ≡ true) × (is_set (codes "work") rows ≡ true)
    × (first_of (codes "password") rows ≡ Some (codes "x")) × (mode_count rows ≡ 2)

rows_of_arguments : HasArguments (matches_of command arguments)
unfolding command clap_on_literals
rows_of_arguments = (refl, refl, refl, refl, refl, refl, refl, refl, refl)

no_words-no_fault : fault_of command [] ≡ []
unfolding command clap_on_literals
no_words-no_fault = refl

-- HasNoWords rows: the rows hold the defaults, because no argument is given.
abbrev HasNoWords : List Row → Type 0
HasNoWords rows =
    (type_of rows ≡ codes "sha512crypt") × (given_salt rows ≡ None) × (rounds_of rows ≡ 0) × (number_in (codes "budget") rows ≡ None)
    × (is_set (codes "rehash") rows ≡ false) × (is_set (codes "work") rows ≡ false) × (mode_count rows ≡ 0)

rows_of_no_words : HasNoWords (matches_of command [])
unfolding command clap_on_literals
rows_of_no_words = (refl, refl, refl, refl, refl, refl, refl)
