-- The errors for numbers that are not parameters of scrypt.
use Rattle.std.specs.Prelude.{ℕ, List, codes}
use Rattle.kdf_core.specs.declared.params.ParamFault.{ParamFault}
use Rattle.kdf_core.specs.declared.params.ParamFault.TheVariants.{Range, AboveCeiling}

-- param_fault_text fault: the message of the error.
abbrev pub param_fault_text : ParamFault → List ℕ
param_fault_text Range = codes "scrypt range"
param_fault_text AboveCeiling = codes "above ceiling"
