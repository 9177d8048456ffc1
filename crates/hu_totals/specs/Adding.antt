-- What totals become with a record more.
use Rattle.std.specs.Prelude.{
  ◌≡◌,
  ℕ,
  ◌+◌,
  ◌^◌,
  ◌<◌,
  ℤ,
  pos,
  ◌+ℤ◌,
  unsigned_abs,
  List,
  [],
  map,
  fold,
  slice_get,
  nat_eq,
  refl,
}
use Rattle.std.specs.Option.{unwrap_or}
use Rattle.std.specs.Map.{lookup}
use Rattle.indexmap.specs.IndexMap.{insert_entry}
use Rattle.hu_kind.specs.declared.item.Item.{Item}
use Rattle.hu_kind.specs.Record.{gain, positive_part}
use Rattle.hu_kind.specs.Worked.{base_a}
use Rattle.hu_totals.specs.declared.totals.ItemTotal.{ItemTotal}
use Rattle.hu_totals.specs.Totals.{item_totals, numbered}

-- the total of an item that no record holds
abbrev pub no_total : ItemTotal
no_total = record { utility = pos 0; positive = pos 0; support = 0; twu = pos 0 }

-- the total of an item, nothing where it doesn't occur
abbrev pub total_in : List (ℕ × ItemTotal) → ℕ → ItemTotal
total_in totals item = unwrap_or (lookup (nat_eq item) totals) no_total

-- the total at a place, nothing past the end
abbrev pub total_at : List (Item × ItemTotal) → ℕ → ItemTotal
total_at entries place = unwrap_or (slice_get (map (λ e. e.1) entries) place) no_total

-- a total with a record more, in which the item has a value and which gains a sum
abbrev pub grown : ItemTotal → ℤ → ℤ → ItemTotal
grown total value gained = record {
  utility = total.utility +ℤ value;
  positive = total.positive +ℤ positive_part value;
  support = total.support + 1;
  twu = total.twu +ℤ gained;
}

-- totals with a cell more of a record that gains a sum
abbrev pub with_cell : ℤ → List (ℕ × ItemTotal) → ℕ × ℤ → List (ℕ × ItemTotal)
with_cell gained totals cell =
    insert_entry nat_eq totals cell.0 (grown (total_in totals cell.0) cell.1 gained)

-- totals with a record more
abbrev pub with_record : List (ℕ × ItemTotal) → List (ℕ × ℤ) → List (ℕ × ItemTotal)
with_record totals cells = fold (with_cell (gain cells)) totals cells

-- a total stays within its types where a record of an absolute sum comes to it
pub record HasRoom (total : ItemTotal) (more : ℕ) : Type 0 where
  pub utility : unsigned_abs total.utility + more < 2 ^ 127
  pub positive : unsigned_abs total.positive + more < 2 ^ 127
  pub support : total.support + 1 < 2 ^ 64
  pub twu : unsigned_abs total.twu + more < 2 ^ 127

-- entries as pairs
abbrev pub pairs_with : List (Item × ItemTotal) → List (ℕ × ItemTotal)
pairs_with entries = map numbered entries

-- the totals of base A, record by record
pub base_a_added : fold with_record [] base_a ≡ item_totals base_a
base_a_added = refl
