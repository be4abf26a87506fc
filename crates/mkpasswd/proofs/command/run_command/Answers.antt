-- Proves the clauses of `run_command`: `serves` follows from what the called functions promise (ServedCommands),
-- `whole` from `serves` (WholeCommands), and `prints` from `whole` (PrintedHash). Each clause has three cases: the run
-- ended with a tally, the plan could not be run or its run ended with an error, or the arguments were refused.
use Rattle.std.proofs.Common.{None, false, refl}
use Rattle.mkpasswd.proofs.PrintedHash.{PrintsHash_from_EndsWhole}
use Rattle.mkpasswd.proofs.ServedCommands.{Serves-run_fault, Serves-refusal, Serves-run}
use Rattle.mkpasswd.proofs.WholeCommands.{EndsWhole_from_Serves}
use Rattle.mkpasswd.proofs.command.run_command.Goals as goal

-- ---- The arguments made a plan

pub returns-in-Ok-run_plan-clause-serves : goal.returns-in-Ok-run_plan-clause-serves
returns-in-Ok-run_plan-clause-serves g c = (
  c.generator_for.result,
  Serves-run c.args.turns _ _ _ _ c.in-Ok.plan _ _ c.in-Ok-run_plan.tally _
      c.in-Ok.ensures c.generator_for.ensures c.in-Ok-run_plan.ensures.runs c.status.ensures,
)

pub returns-in-Ok-clause-serves : goal.returns-in-Ok-clause-serves
returns-in-Ok-clause-serves g c = (
  c.generator_for.result,
  Serves-run_fault c.args.turns _ _ _ _ c.in-Ok.plan _ _ c.report_fault.new.faults c.in-Err-run_plan.fault _
      c.in-Ok.ensures c.generator_for.ensures c.in-Err-run_plan.ensures.runs c.report_fault.ensures.reported c.report_fault.ensures.status,
)

-- ---- The arguments were refused

pub returns-clause-serves : goal.returns-clause-serves
returns-clause-serves g c = (
  None,
  rw c.requires.none_yet (Serves-refusal c.args.turns _ _ false _ c.in-Err.fault _ c.show_refusal.new.out c.show_refusal.new.faults _
      c.in-Err.ensures (refl, refl) c.show_refusal.ensures),
)

-- ---- What follows from `serves`

pub returns-in-Ok-run_plan-clause-whole : goal.returns-in-Ok-run_plan-clause-whole
returns-in-Ok-run_plan-clause-whole g c well =
    let serves = returns-in-Ok-run_plan-clause-serves g c in
    (serves.0, EndsWhole_from_Serves c.args.turns _ _ _ _ _ _ _ well serves.1)

pub returns-in-Ok-run_plan-clause-prints : goal.returns-in-Ok-run_plan-clause-prints
returns-in-Ok-run_plan-clause-prints g c name salt password method named salt_is password_is are well =
    PrintsHash_from_EndsWhole name salt password method named salt_is password_is _ _ _ _ _ are (returns-in-Ok-run_plan-clause-whole g c well).1

pub returns-in-Ok-clause-whole : goal.returns-in-Ok-clause-whole
returns-in-Ok-clause-whole g c well =
    let serves = returns-in-Ok-clause-serves g c in
    (serves.0, EndsWhole_from_Serves c.args.turns _ _ _ _ _ _ _ well serves.1)

pub returns-in-Ok-clause-prints : goal.returns-in-Ok-clause-prints
returns-in-Ok-clause-prints g c name salt password method named salt_is password_is are well =
    PrintsHash_from_EndsWhole name salt password method named salt_is password_is _ _ _ _ _ are (returns-in-Ok-clause-whole g c well).1

pub returns-clause-whole : goal.returns-clause-whole
returns-clause-whole g c well =
    let serves = returns-clause-serves g c in
    (serves.0, EndsWhole_from_Serves c.args.turns _ _ _ _ _ _ _ well serves.1)

pub returns-clause-prints : goal.returns-clause-prints
returns-clause-prints g c name salt password method named salt_is password_is are well =
    PrintsHash_from_EndsWhole name salt password method named salt_is password_is _ _ _ _ _ are (returns-clause-whole g c well).1
