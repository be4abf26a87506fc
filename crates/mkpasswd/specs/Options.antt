-- The arguments after the program's name: how `clap` parses them, what it finds in them, and what they mean.
use Rattle.std.specs.Prelude.{◌≡◌, ◌≢◌, ◌<◌, ◌⊎◌, ⊤, ℕ, pos, Bool, true, false, List, [], ◌∷◌, count_by, fold, map, Option, Some, None, IsSome, is_some, Result, Ok, Err, codes, unwrap_or, if◌then◌else◌}
use Rattle.std.specs.Option.{option_map, option_map_or}
use Rattle.std.specs.Str.{bytes_eq}
use Rattle.std.specs.Str.Parse.{digits_value, without_leading_plus}
use Rattle.clap.specs.Words.{App, IsAmong, Row, Rule, Text, fault_of, first_of, kind_of, matches_of, one_of}
use Rattle.clap.specs.Words.{new_app, new_rule, takes, with_rule}
use Rattle.clap.specs.Simple.{on_top}
use Rattle.clap.specs.declared.builder.ArgAction.TheVariants.{Set, SetTrue}
use Rattle.clap.specs.declared.builder.value_parser.ValueParser.TheVariants.{Signed, Unsigned}
use Rattle.clap.specs.declared.error.Error.{Error}
use Rattle.clap.specs.declared.error.kind.ErrorKind.TheVariants as kind
use Rattle.crypt_core.specs.MadeSettings.{BreaksMake, made_scheme, make_faults}
use Rattle.crypt_core.specs.Methods.{method_named}
use Rattle.crypt_core.specs.Policies.{chosen_rounds}
use Rattle.crypt_core.specs.Rules.{IsFirstBroken}
use Rattle.crypt_core.specs.declared.method.Method.{Method}
use Rattle.run_core.specs.Makers.{Recipe}
use Rattle.run_core.specs.declared.job.Job.{Job}
use Rattle.run_core.specs.declared.job.PasswordFrom.TheVariants.{Word, Input}
use Rattle.mkpasswd.specs.declared.fault.UsageFault.{UsageFault}
use Rattle.mkpasswd.specs.declared.fault.UsageFault.TheVariants.{Parse, Method as UnknownMethod, TwoSalts, TwoModes, Make, OutOfMemory}
use Rattle.mkpasswd.specs.declared.plan.Plan.{Plan}
use Rattle.mkpasswd.specs.declared.plan.Plan.TheVariants.{Methods, One, Batch, Check, Audit}

-- ---- The command, as `clap` parses it

-- value_rule id: the rule of an argument that takes one value.
abbrev pub value_rule : Text → Rule
value_rule id = record (new_rule id) { action = Some Set; value_names = 1 }

-- option_rule id letter: the rule of an option that takes one value. Its long name is its id, and its short name is the
-- character with the number `letter`, if there is one.
abbrev pub option_rule : Text → Option ℕ → Rule
option_rule id letter = record (value_rule id) { short = letter; long = Some id }

-- flag_rule id letter: the rule of a flag, which takes no value. Its long name is its id, and its short name is the
-- character with the number `letter`, if there is one.
abbrev pub flag_rule : Text → Option ℕ → Rule
flag_rule id letter = record (new_rule id) { action = Some SetTrue; short = letter; long = Some id }

-- command_rules: the rules of all arguments. The short options are `-m` (109), `-S` (83), `-R` (82) and `-s` (115). The
-- number of `-R` is at most 2^32 - 1, that of `--budget` at most 2^64 - 1, and that of `--first-line` 1 to 2^32 - 1.
-- The first argument that is no option is the password, and the second is the salt.
abbrev pub command_rules : List Rule
command_rules =
    option_rule (codes "method") (Some 109) ∷ option_rule (codes "salt") (Some 83)
    ∷ record (option_rule (codes "rounds") (Some 82)) { parser = Some (Signed (pos 0) (pos 4294967295)) }
    ∷ flag_rule (codes "stdin") (Some 115) ∷ flag_rule (codes "batch") None ∷ flag_rule (codes "check") None
    ∷ flag_rule (codes "audit") None ∷ flag_rule (codes "rehash") None ∷ flag_rule (codes "work") None
    ∷ record (option_rule (codes "budget") None) { parser = Some (Unsigned 0 18446744073709551615) }
    ∷ record (option_rule (codes "first-line") None) { parser = Some (Signed (pos 1) (pos 4294967295)) }
    ∷ value_rule (codes "password") ∷ value_rule (codes "salt-word") ∷ []

-- command: the command mkpasswd with these rules and a version, for `clap`. Its arguments begin after the program's
-- name.
unfoldable pub command : App
command = fold with_rule (on_top (λ s. record s { no_binary_name = true; has_version = true }) (new_app (codes "mkpasswd"))) command_rules

-- ---- What `clap` finds in the arguments: a row for each one that is given

-- is_set id rows: whether the flag with this id is given.
abbrev pub is_set : Text → List Row → Bool
is_set id rows = option_map_or (bytes_eq (codes "true")) (one_of id rows) false

-- number_in id rows: the number of the option with this id, if it is given. A plus may precede its digits.
abbrev pub number_in : Text → List Row → Option ℕ
number_in id rows = option_map (λ text. digits_value 10 (without_leading_plus text)) (one_of id rows)

-- type_of rows: the name of the method, which is the value of `-m`, or sha512crypt if `-m` is not given.
abbrev pub type_of : List Row → Text
type_of rows = unwrap_or (first_of (codes "method") rows) (codes "sha512crypt")

-- rounds_of rows: the number of `-R`, or 0 if `-R` is not given.
abbrev pub rounds_of : List Row → ℕ
rounds_of rows = unwrap_or (number_in (codes "rounds") rows) 0

-- job_rounds method rows: the rounds of the job. They are the number of `-R`, or 0 without it; for an audit, the
-- method's recommended rounds replace 0.
abbrev pub job_rounds : Method → List Row → ℕ
job_rounds method rows = if is_set (codes "audit") rows then chosen_rounds method (rounds_of rows) else rounds_of rows

-- first_line_of rows: the number of the first line. It is that of `--first-line`, or 1 if that is not given.
abbrev pub first_line_of : List Row → ℕ
first_line_of rows = unwrap_or (number_in (codes "first-line") rows) 1

-- given_salt rows: the salt, which is the value of `-S`, or else the second argument that is no option, if there is
-- one.
abbrev pub given_salt : List Row → Option Text
given_salt rows = if is_some (first_of (codes "salt") rows) then first_of (codes "salt") rows else first_of (codes "salt-word") rows

-- mode_count rows: how many of PASSWORD, `--stdin`, `--batch`, `--check` and `--audit` are given.
abbrev pub mode_count : List Row → ℕ
mode_count rows = count_by (λ given. given)
    (is_some (first_of (codes "password") rows) ∷ is_set (codes "stdin") rows ∷ is_set (codes "batch") rows ∷ is_set (codes "check") rows
    ∷ is_set (codes "audit") rows ∷ [])

-- ---- What the arguments mean

-- usage_faults: the errors in arguments that `clap` accepts, in the order in which their rules are checked.
abbrev pub usage_faults : List UsageFault
usage_faults = UnknownMethod ∷ TwoSalts ∷ TwoModes ∷ map Make make_faults

-- BreaksUsage rows fault: the arguments break the rule whose error is `fault`. `Parse` and `OutOfMemory` have no rule
-- here.
--   UnknownMethod  TYPE names no method
--   TwoSalts       the salt is given in both ways
--   TwoModes       more than one mode is given
--   Make           the method, the rounds and the salt make no setting
abbrev pub BreaksUsage : List Row → UsageFault → Type 0
BreaksUsage rows UnknownMethod = method_named (type_of rows) ≡ None
BreaksUsage rows TwoSalts = IsSome (first_of (codes "salt") rows) × IsSome (first_of (codes "salt-word") rows)
BreaksUsage rows TwoModes = 1 < mode_count rows
BreaksUsage rows (Make fault) =
    (method : Method) × (method_named (type_of rows) ≡ Some method) × BreaksMake method (job_rounds method rows) (given_salt rows) fault
BreaksUsage rows fault = ⊥

-- IsMaker rows maker: the maker of settings has the method, the rounds and the salt of the arguments.
abbrev pub IsMaker : List Row → Recipe → Type 0
IsMaker rows maker = (method : Method) × (method_named (type_of rows) ≡ Some method)
    × (maker ≡ record { scheme = made_scheme method (job_rounds method rows); salt = given_salt rows })

-- IsJob rows job: the arguments ask for this job. `--rehash` asks for rehashes and `--work` for the counts of the work.
-- The budget is the number of `--budget`; without it there is none.
pub record IsJob (rows : List Row) (job : Job) : Type 0 where
  pub maker : IsMaker rows job.maker
  pub rehash : job.rehash ≡ is_set (codes "rehash") rows
  pub work : job.work ≡ is_set (codes "work") rows
  pub budget : job.budget ≡ number_in (codes "budget") rows
  pub first_line : job.first_line ≡ first_line_of rows

-- IsPlan rows plan: the arguments ask for this plan. Its job and its mode are those of the arguments: it hashes
-- PASSWORD or the first line of the input, or it hashes, checks or audits lines. Without a mode the password is the
-- first line of the input.
abbrev pub IsPlan : List Row → Plan → Type 0
IsPlan rows (One job (Word word)) = IsJob rows job × (first_of (codes "password") rows ≡ Some word.items)
IsPlan rows (One job Input) = IsJob rows job × ((is_set (codes "stdin") rows ≡ true) ⊎ (mode_count rows ≡ 0))
IsPlan rows (Batch job) = IsJob rows job × (is_set (codes "batch") rows ≡ true)
IsPlan rows (Check job) = IsJob rows job × (is_set (codes "check") rows ≡ true)
IsPlan rows (Audit job) = IsJob rows job × (is_set (codes "audit") rows ≡ true)
IsPlan rows Methods = ⊥

-- Means rows planned: what the arguments mean, if `clap` accepts them. TYPE `help` asks for the list of the methods,
-- whatever else is given. Otherwise the arguments mean the error of the first rule that they break, or a plan if they
-- break none.
abbrev pub Means : List Row → Result Plan UsageFault → Type 0
Means rows (Ok Methods) = type_of rows ≡ codes "help"
Means rows (Ok plan) = (type_of rows ≢ codes "help") × ((fault : UsageFault) → ¬ BreaksUsage rows fault) × IsPlan rows plan
Means rows (Err fault) = (type_of rows ≢ codes "help") × IsFirstBroken usage_faults (BreaksUsage rows) fault

-- Refuses arguments error: `clap` returns this error for these arguments. They are invalid in this way, or ask for help
-- or the version. The error is not a failed allocation.
pub record Refuses (arguments : List Text) (error : Error) : Type 0 where
  pub called_for : IsAmong (kind_of error) (fault_of command arguments)
  pub not_taken : takes command arguments ≢ true
  pub not_memory : kind_of error ≢ kind.OutOfMemory

-- Plans arguments planned: `plan` may return this result for these arguments. `clap` refuses them, or it accepts them
-- and they mean this result. An allocation may fail for any arguments.
abbrev pub Plans : List Text → Result Plan UsageFault → Type 0
Plans arguments (Err (Parse error)) = Refuses arguments error
Plans arguments (Err OutOfMemory) = ⊤
Plans arguments answer = (fault_of command arguments ≡ []) × Means (matches_of command arguments) answer
