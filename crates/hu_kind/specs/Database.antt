-- A database is a list of records. What a set of items earns in it and how many records hold it:
-- HUI-Miner (Liu and Qu, 2012); the transaction-weighted utility: Two-Phase (Liu, Liao and Choudhary, 2005).
use Rattle.std.specs.Prelude.{ℕ, ℤ, pos, ◌+ℤ◌, List, [], ◌∷◌, if◌then◌else◌}
use Rattle.std.specs.List.{count_by, flat_map}
use Rattle.std.specs.Ordering.{nat_cmp}
use Rattle.hu_kind.specs.Record.{items_in, holds, utility_in, gain}
use Rattle.hu_kind.specs.Order.{ranking}

-- the utility of a set in a database
abbrev pub utility : List (List (ℕ × ℤ)) → List ℕ → ℤ
utility [] items = pos 0
utility (r ∷ rs) items = utility_in items r +ℤ utility rs items

-- how many records hold a set
abbrev pub support : List (List (ℕ × ℤ)) → List ℕ → ℕ
support records items = count_by (holds items) records

-- the transaction-weighted utility of a set: what the records that hold it gain
abbrev pub twu : List (List (ℕ × ℤ)) → List ℕ → ℤ
twu [] items = pos 0
twu (r ∷ rs) items = (if holds items r then gain r else pos 0) +ℤ twu rs items

-- the items that occur, ascending
abbrev pub items_of : List (List (ℕ × ℤ)) → List ℕ
items_of records = ranking nat_cmp (flat_map items_in records)
