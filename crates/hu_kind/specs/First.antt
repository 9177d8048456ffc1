-- The first of options: faults that a text may have stand in a list, in the order in which the first of them counts.
use Rattle.std.specs.Prelude.{Option, None, Some, List, [], ◌∷◌}

-- the first that there is
abbrev pub first_some : {A : Type 0} → List (Option A) → Option A
first_some [] = None
first_some (None ∷ options) = first_some options
first_some (Some x ∷ options) = Some x
