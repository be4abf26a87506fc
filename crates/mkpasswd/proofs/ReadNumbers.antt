-- The number of an option, for the clauses of `number32` and `number64`. If the option's parser accepts only numbers
-- below 2^32 or 2^64, `get_one` reads each value that passed the parser as the number that its digits say. The proof
-- treats signed and unsigned parsers separately.
use Rattle.std.proofs.Common.{◌≡◌, ◌∙◌, ◌^◌, ℕ, Option, Some, None, Result, true, false, ap, refl, subst, sym, arith}
use Rattle.std.specs.Option.{option_map, option_map_or}
use Rattle.std.specs.Prelude.{pos}
use Rattle.std.specs.Str.Parse.{ExplainsUnsignedError, HasUnsignedDigitsIfOk, ParsesUnsigned, digits_value, without_leading_plus}
use Rattle.std.specs.declared.num.ParseIntError.{ParseIntError}
use Rattle.std.proofs.lemmas.Bool.{ltb-true}
use Rattle.clap.specs.Words.{IsUnsignedIn, ReadsOne, Text, found_of, one_text}
use Rattle.clap.specs.declared.builder.value_parser.ValueParser.{ValueParser}
use Rattle.clap.specs.declared.builder.value_parser.ValueParser.TheVariants.{Signed, Unsigned}
use Rattle.clap.specs.declared.parser.matches.ArgMatches.{ArgMatches}
use Rattle.clap.proofs.CallerReads.{signed_reads}
use Rattle.mkpasswd.specs.Options.{command_rules}
use Rattle.mkpasswd.specs.Private.Options.{HasPassed, HavePassed, IsNumber, parser_by_id, takes_below}

-- Parses bits text read: what `str::parse` promises of its result for this text and an unsigned number of this many
-- bits.
abbrev pub Parses : ℕ → Text → Result ℕ ParseIntError → Type 0
Parses bits text read = ParsesUnsigned bits 10 text read × ExplainsUnsignedError 10 text read × HasUnsignedDigitsIfOk text read

-- number_of text: the number that the digits of the text say. A plus may precede them.
abbrev pub number_of : Text → ℕ
number_of text = digits_value 10 (without_leading_plus text)

-- If a text passed a parser that accepts only numbers below 2^bits, it is read as the number that its digits say. By
-- `ParsesUnsigned`, the first part of what `str::parse` promises, a number that is read is that number, and a text with
-- such digits is read as a number, so the value can't be missing.
ReadsOne-number_of : (bits : ℕ) (parser : ValueParser) → takes_below (2 ^ bits) parser ≡ true → (text : Text) → HasPassed parser text
    → (read : Option ℕ) → ReadsOne (Parses bits) text read → read ≡ Some (number_of text)
ReadsOne-number_of bits (Signed (pos low) (pos high)) below text passed read reads =
    let own = subst (λ (t : Text). ReadsOne (Parses bits) t read) passed.2 reads in
    let got = signed_reads ParseIntError (Parses bits) bits low high passed.0 read own (λ u x gives. gives.0) (ltb-true high (2 ^ bits) below) passed.3 in
    let gives : ReadsOne (Parses bits) text (Some got.0) = subst (λ (r : Option ℕ). ReadsOne (Parses bits) text r) got.1 reads in
    got.1 ∙ ap Some gives.0.1
ReadsOne-number_of bits (Unsigned low high) below text passed (Some number) reads = ap Some reads.0.1
ReadsOne-number_of bits (Unsigned low high) below text passed None reads =
    let accepted = subst (λ (t : Text). IsUnsignedIn low high t) (sym passed.2) passed.3 in
    absurd (reads.1.0 (accepted.0, omega (arith, accepted.3, ltb-true high (2 ^ bits) below)))
ReadsOne-number_of bits parser below text passed read reads = absurd cc

-- If the parser accepts only numbers below 2^bits, a value is read as its number, and a missing value as `None`.
ReadsOne-option_map : (bits : ℕ) (parser : ValueParser) → takes_below (2 ^ bits) parser ≡ true → (value : Option Text) → ((text : Text) → value ≡ Some text → HasPassed parser text)
    → (read : Option ℕ) → (value ≡ None → read ≡ None) → ((text : Text) → value ≡ Some text → ReadsOne (Parses bits) text read) → read ≡ option_map number_of value
ReadsOne-option_map bits parser below None passed read none some = none refl
ReadsOne-option_map bits parser below (Some text) passed read none some = ReadsOne-number_of bits parser below text (passed text refl) read (some text refl)

-- `get_one` reads the number of an option from its value, if the option's parser accepts only numbers below 2^bits.
pub one_text-number_of : (bits : ℕ) (matches : ArgMatches) (id : Text) → IsNumber (2 ^ bits) id → HavePassed matches
    → (read : Option ℕ) → (one_text (found_of matches) id ≡ None → read ≡ None)
    → ((text : Text) → one_text (found_of matches) id ≡ Some text → ReadsOne (Parses bits) text read)
    → read ≡ option_map number_of (one_text (found_of matches) id)
one_text-number_of bits matches id below passed read none some = go (parser_by_id id command_rules) refl below
  where
    go : (parser : Option ValueParser) → parser_by_id id command_rules ≡ parser → option_map_or (takes_below (2 ^ bits)) parser false ≡ true
        → read ≡ option_map number_of (one_text (found_of matches) id)
    go None is below = absurd cc
    go (Some parser) is below = ReadsOne-option_map bits parser below (one_text (found_of matches) id) (passed id parser is) read none some
