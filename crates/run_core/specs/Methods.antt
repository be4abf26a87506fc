-- The list of the methods, as it is printed.
use Rattle.std.specs.Prelude.{ℕ, List, ◌++◌, codes, flat_map}
use Rattle.crypt_core.specs.Methods.{method_row, methods}
use Rattle.run_core.specs.Texts.{as_line}

-- methods_text is a heading and the name of each method, each on a line of its own.
abbrev pub methods_text : List ℕ
methods_text = as_line (codes "Available methods:") ++ flat_map (λ method. as_line (method_row method).name) methods
