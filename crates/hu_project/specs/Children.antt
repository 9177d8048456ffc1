-- The children that rows tell of.
use Rattle.std.specs.Prelude.{ℕ, nat_lt, ℤ, int_le, List, [], ◌∷◌, if◌then◌else◌}
use Rattle.hu_rows.specs.declared.tally.Tally.{Tally}
use Rattle.hu_rows.specs.Tally.{tally_at}
use Rattle.hu_search.specs.declared.child.Child.{Child}

-- a child by its tally
abbrev pub child_with : ℕ → Tally → Child
child_with rank tally =
    record { rank = rank; utility = tally.utility; support = tally.count; bound = tally.bound }

-- the child of a rank, where records hold it
abbrev pub child_if : List Tally → ℕ → List Child
child_if tallies rank =
    if nat_lt 0 (tally_at tallies rank).count then child_with rank
    (tally_at tallies rank) ∷ [] else []

-- a child with another bound
abbrev pub bounded : Child → ℤ → Child
bounded child bound =
    record { rank = child.rank; utility = child.utility; support = child.support; bound = bound }

-- a child with the bound of its tails, where that reaches a floor
abbrev pub open_if : List Tally → ℤ → Child → List Child
open_if tallies floor child =
    if int_le floor (tally_at tallies child.rank).bound then bounded child
    (tally_at tallies child.rank).bound ∷ [] else []
