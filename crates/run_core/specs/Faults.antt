-- The messages about refused lines, and the messages and exit statuses of the errors that end a run.
use Rattle.std.specs.Prelude.{ℕ, List, codes}
use Rattle.crypt_core.specs.Faults.{password_fault_text, setting_fault_text}
use Rattle.run_core.specs.declared.fault.RunFault.{RunFault}
use Rattle.run_core.specs.declared.fault.RunFault.TheVariants as run
use Rattle.run_core.specs.declared.line.LineFault.{LineFault}
use Rattle.run_core.specs.declared.line.LineFault.TheVariants.{LineTooLong, NoName, NameTooLong, NoPassword, Password, Setting, OverBudget}

-- line_fault_text fault is the message about the rule that a line breaks.
abbrev pub line_fault_text : LineFault → List ℕ
line_fault_text LineTooLong = codes "line too long"
line_fault_text NoName = codes "no name"
line_fault_text NameTooLong = codes "name too long"
line_fault_text NoPassword = codes "no password field"
line_fault_text (Password fault) = password_fault_text fault
line_fault_text (Setting fault) = setting_fault_text fault
line_fault_text OverBudget = codes "over budget"

-- run_row fault is the exit status and the message of an error.
abbrev pub run_row : RunFault → ℕ × List ℕ
run_row run.Read = (3, codes "read fault")
run_row run.Write = (3, codes "write fault")
run_row run.OutOfMemory = (3, codes "out of memory")
run_row run.Turns = (3, codes "too many turns")
run_row (run.Password fault) = (2, password_fault_text fault)
