-- Rules in an order, where the first broken one decides the error.
use Rattle.std.specs.Prelude.{◌≡◌, ◌⊎◌, List, [], ◌∷◌}

-- IsFirstBroken faults breaks fault: `fault` is the first error in the list `faults` whose rule is broken, where
-- `breaks` says whether an error's rule is broken.
abbrev pub IsFirstBroken : {F : Type 0} → List F → (F → Type 0) → F → Type 0
IsFirstBroken [] breaks fault = ⊥
IsFirstBroken (first ∷ others) breaks fault =
    ((fault ≡ first) × breaks first) ⊎ ((¬ breaks first) × IsFirstBroken others breaks fault)
