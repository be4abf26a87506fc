-- Proves the clause `reported` of `report_fault`: it writes the line that reports the error, in at most as many calls
-- as this line has bytes.
use Rattle.std.proofs.Common.{◌∙◌, ap, length, sym}
use Rattle.mkpasswd.proofs.ServedCommands.{IsReported_from_Shows}
use Rattle.mkpasswd.proofs.command.report_fault.Goals as goal

pub returns-clause-reported : goal.returns-clause-reported
returns-clause-reported g c =
    IsReported_from_Shows c.args.fault.now c.args.faults.now c.show.new.out c.as_slice.result.now c.len.result c.show.result
    (c.as_slice.ensures.value ∙ c.fault_line-line.ensures) (c.len.ensures.value ∙ ap length (sym c.as_slice.ensures.value)) c.show.ensures
