-- A table of slots and lists, by rank.
use Rattle.std.specs.Prelude.{◌≡◌, ℕ, [], replicate}
use Rattle.hu_certify.specs.declared.table.Table.{Table}
use Rattle.hu_certify.specs.Slots.{lists_of, no_slot}

-- a table of so many ranks at rest: its slots are empty, and its lists have no place
pub record IsAtRest (count : ℕ) (table : Table) : Type 0 where
  pub slots : table.slots.items ≡ replicate count no_slot
  pub lists : lists_of table.lists.items ≡ replicate count []
