-- The errors that end the program early: their messages, their exit statuses, and the line that reports each of them.
use Rattle.std.specs.Prelude.{ℕ, List, [], ◌++◌, codes, length, Result}
use Rattle.clap.specs.Words.{kind_of}
use Rattle.crypt_core.specs.Faults.{make_fault_text}
use Rattle.clap.specs.declared.error.kind.ErrorKind.{ErrorKind}
use Rattle.clap.specs.declared.error.kind.ErrorKind.TheVariants.{DisplayHelp, DisplayVersion}
pub use Rattle.run_core.specs.Faults.{run_row}
use Rattle.run_core.specs.Devices.{Device}
use Rattle.run_core.specs.Output.{Shows}
use Rattle.run_core.specs.Texts.{as_line}
use Rattle.run_core.specs.declared.fault.RunFault.{RunFault}
use Rattle.run_core.specs.declared.tally.Tally.{Tally}
use Rattle.mkpasswd.specs.declared.fault.Fault.{Fault}
use Rattle.mkpasswd.specs.declared.fault.Fault.TheVariants.{Start, Usage, Run}
use Rattle.mkpasswd.specs.declared.fault.UsageFault.TheVariants.{Parse, Method, TwoSalts, TwoModes, Make, OutOfMemory}

-- parse_status kind: the exit status of an error of `clap` with this kind. It is 0 if the arguments ask for help or the
-- version, and otherwise 2.
abbrev pub parse_status : ErrorKind → ℕ
parse_status DisplayHelp = 0
parse_status DisplayVersion = 0
parse_status _ = 2

-- fault_row fault: the exit status and the message of an error. The message of `Parse` is empty, because `clap` has its
-- own.
abbrev pub fault_row : Fault → ℕ × List ℕ
fault_row Start = (3, codes "start fault")
fault_row (Usage (Parse error)) = (parse_status (kind_of error), [])
fault_row (Usage Method) = (2, codes "unknown method")
fault_row (Usage TwoSalts) = (2, codes "two salts")
fault_row (Usage TwoModes) = (2, codes "two modes")
fault_row (Usage (Make fault)) = (2, make_fault_text fault)
fault_row (Usage OutOfMemory) = (3, codes "out of memory")
fault_row (Run fault) = run_row fault

-- fault_line fault: the line that reports an error. It is `mkpasswd: `, the message and a line feed.
abbrev pub fault_line : Fault → List ℕ
fault_line fault = as_line (codes "mkpasswd: " ++ (fault_row fault).1)

-- IsReported fault old new: the command wrote the line that reports the error, in at most as many calls as this line
-- has bytes, and flushed it. If that failed, a prefix of the line may have been written.
abbrev pub IsReported : {E : Type 0} → Fault → Device E → Device E → Type 0
IsReported fault old new =
    (result : Result Tally RunFault) × Shows (length (fault_line fault)) old new (fault_line fault) result
