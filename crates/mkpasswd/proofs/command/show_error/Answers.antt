-- Proves the clause of `show_error` where `text_of` returned the message of `clap`'s error. The function wrote a
-- message about the arguments, or help or the version, or failed to write help or the version. `use_stderr` decides
-- which output it wrote to, and the status follows from the kind of the error.
use Rattle.std.proofs.Common.{◌≢◌, ◌∙◌, true≢false, Ok, Err, refl, sym}
use Rattle.clap.specs.Words.{kind_of}
use Rattle.clap.specs.declared.error.kind.ErrorKind.TheVariants as kind
use Rattle.mkpasswd.specs.Private.Commands.{front, help, mistake}
use Rattle.run_core.proofs.SentTexts.{as_tally, Shows-as_tally}
use Rattle.mkpasswd.proofs.ServedCommands.{parse_status-help, parse_status-mistake}
use Rattle.mkpasswd.proofs.command.show_error.Goals as goal

pub returns-then-use_stderr : goal.returns-then-use_stderr
returns-then-use_stderr g c =
    mistake c.as_bytes-message.result.now (as_tally c.show.result) (parse_status-mistake _ (c.use_stderr.ensures.0 c.if-use_stderr.true))
    (Shows-as_tally c.args.turns c.args.faults.now c.show.new.out c.as_bytes-message.result.now c.show.result c.show.ensures) refl refl

pub returns-in-Ok-shown : goal.returns-in-Ok-shown
returns-in-Ok-shown g c =
    let asked : ¬ ((kind_of c.args.error.now ≢ kind.DisplayHelp) × (kind_of c.args.error.now ≢ kind.DisplayVersion)) = λ both. true≢false (sym (c.use_stderr.ensures.1 both) ∙ c.if-use_stderr.false) in
    help c.as_bytes-message.result.now (parse_status-help _ asked)
    (Shows-as_tally {A = Unit {0}} c.args.turns c.args.out.now c.show-shown.new.out c.as_bytes-message.result.now (Ok tt) c.in-Ok-shown.ensures) refl refl

pub returns : goal.returns
returns g c =
    let asked : ¬ ((kind_of c.args.error.now ≢ kind.DisplayHelp) × (kind_of c.args.error.now ≢ kind.DisplayVersion)) = λ both. true≢false (sym (c.use_stderr.ensures.1 both) ∙ c.if-use_stderr.false) in
    front c.as_bytes-message.result.now c.in-Err.fault (parse_status-help _ asked)
    (Shows-as_tally {A = Unit {0}} c.args.turns c.args.out.now c.show-shown.new.out c.as_bytes-message.result.now (Err c.in-Err.fault) c.in-Err.ensures)
    c.report_fault-in-Err.ensures.reported c.report_fault-in-Err.ensures.status
