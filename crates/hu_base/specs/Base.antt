-- What a base is seen as: the absolute sum that it carries from earlier, and its records in order.
use Rattle.std.specs.Prelude.{ℕ, ◌+◌, List}
use Rattle.std.specs.List.{flat_map, sum_by}

-- the absolute sum that counts as already accepted
abbrev pub carried_of : {R : Type 0} → ℕ × List R → ℕ
carried_of base = base.0

-- the records in order
abbrev pub records_of : {R : Type 0} → ℕ × List R → List R
records_of base = base.1

-- the carried sum with the absolute sums of all records
abbrev pub sum_of : {R : Type 0} → (R → ℕ) → ℕ × List R → ℕ
sum_of absolute base = carried_of base + sum_by absolute (records_of base)

-- the records of several bases as one list
abbrev pub records_in : {R : Type 0} → List (ℕ × List R) → List R
records_in bases = flat_map records_of bases
