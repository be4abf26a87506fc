-- Proves the clause of `show_refusal`, which reports `clap`'s error as `show_error` promises, and every other refusal
-- as `report_fault` promises.
use Rattle.mkpasswd.proofs.ServedCommands.{RefusalShown-reported}
use Rattle.mkpasswd.proofs.command.show_refusal.Goals as goal

pub returns-in-Parse : goal.returns-in-Parse
returns-in-Parse g c = rw c.in-Parse.is c.show_error.ensures

pub returns-in_default : goal.returns-in_default
returns-in_default g c =
    RefusalShown-reported c.args.fault c.args.turns c.args.out.now c.args.faults.now c.report_fault.new.faults c.report_fault.result
    c.in_default.not-Parse c.report_fault.ensures.reported c.report_fault.ensures.status
