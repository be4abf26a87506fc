-- Which rules the code passes to `clap`, which values `clap` accepts, and what the code's own checks of the arguments
-- return.
use Rattle.std.specs.Prelude.{◌≡◌, ℕ, pos, nat_lt, Bool, true, false, if◌then◌else◌, List, [], ◌∷◌, Option, Some, None, Result, Ok, Err}
use Rattle.std.specs.Option.{option_map_or}
use Rattle.std.specs.Str.{bytes_eq}
use Rattle.clap.specs.Values.{read_as, reading_of}
use Rattle.clap.specs.Words.{Accepts, Row, Rule, Text, found_of, one_text, rule_of}
use Rattle.clap.specs.declared.builder.arg.Arg.{Arg}
use Rattle.clap.specs.declared.builder.value_parser.ValueParser.{ValueParser}
use Rattle.clap.specs.declared.builder.value_parser.ValueParser.TheVariants.{Signed, Unsigned}
use Rattle.clap.specs.declared.parser.matches.ArgMatches.{ArgMatches}
use Rattle.mkpasswd.specs.Options.{BreaksUsage, command_rules}
use Rattle.mkpasswd.specs.declared.fault.UsageFault.{UsageFault}

-- HasRule arg rule: the argument `arg`, as the code builds it for `clap`, has this rule, and belongs to the command
-- alone, not to subcommands.
abbrev pub HasRule : Arg → Rule → Type 0
HasRule arg rule = (rule_of arg ≡ rule) × (arg.global ≡ false)

-- ---- Numbers

-- HasPassed parser text: the text is what `clap` reads from a value that the parser accepts.
abbrev pub HasPassed : ValueParser → Text → Type 0
HasPassed parser text = (value : Text) × (ignore_case : Bool) × (text ≡ read_as (reading_of parser) value) × Accepts ignore_case parser value

-- parser_by_id id rules: the parser of the first rule with this id, if it has one.
abbrev pub parser_by_id : Text → List Rule → Option ValueParser
parser_by_id id [] = None
parser_by_id id (rule ∷ rules) = if bytes_eq rule.id id then rule.parser else parser_by_id id rules

-- HavePassed matches: each value that `clap` found is one that the parser of its option accepts.
abbrev pub HavePassed : ArgMatches → Type 0
HavePassed matches = (id : Text) (parser : ValueParser) → parser_by_id id command_rules ≡ Some parser
    → (text : Text) → one_text (found_of matches) id ≡ Some text → HasPassed parser text

-- takes_below limit parser: whether the parser accepts only numbers below the limit.
abbrev pub takes_below : ℕ → ValueParser → Bool
takes_below limit (Signed (pos low) (pos high)) = nat_lt high limit
takes_below limit (Unsigned low high) = nat_lt high limit
takes_below limit parser = false

-- IsNumber limit id: the option with this id accepts only numbers below the limit.
abbrev pub IsNumber : ℕ → Text → Type 0
IsNumber limit id = option_map_or (takes_below limit) (parser_by_id id command_rules) false ≡ true

-- ---- Checks

-- ChecksRule rows fault result: a check of one rule has this result. After `Ok` the arguments do not break the rule of
-- `fault`. After an error they break it, and the error is `fault`.
abbrev pub ChecksRule : {A : Type 0} → List Row → UsageFault → Result A UsageFault → Type 0
ChecksRule rows fault (Ok value) = ¬ BreaksUsage rows fault
ChecksRule rows fault (Err refusal) = (refusal ≡ fault) × BreaksUsage rows fault
