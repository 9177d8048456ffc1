-- The records that hold a prefix, over the ranks of the items in their order: what each has after the prefix, and what the
-- prefix earns there. The sums over these, and the children of a prefix.
use Rattle.std.specs.Prelude.{
  ◌≡◌,
  ℕ,
  ◌+◌,
  ◌^◌,
  ◌<◌,
  ◌==◌,
  nat_eq,
  ℤ,
  pos,
  ◌+ℤ◌,
  unsigned_abs,
  int_le,
  List,
  [],
  ◌∷◌,
  ◌++◌,
  map,
  drop,
  if◌then◌else◌,
}
use Rattle.std.specs.List.{AllByRecursion, IsDistinct, filter, flat_map, sum_by}
use Rattle.std.specs.Ordering.{nat_cmp}
use Rattle.hu_kind.specs.declared.item.Item.{Item}
use Rattle.hu_kind.specs.Order.{ranking, Ascend}
use Rattle.hu_kind.specs.Record.{has, holds, value_of, values_of, gain, positive_part, absolute_of, items_in}
use Rattle.hu_totals.specs.Ranked.{cells_from, item_at}
use Rattle.hu_totals.specs.View.{dense_pair}
use Rattle.hu_totals.specs.Weights.{numbers_of}
use Rattle.hu_certify.specs.declared.slots.Child.{Child}
use Rattle.hu_certify.specs.declared.place.Place.{Place}
use Rattle.hu_certify.specs.Text.{line_of, lines_below, spaced}

-- what a record has after a prefix, by rank, and what the prefix earns there
abbrev pub SpotOf : Type 0
SpotOf = List (ℕ × ℤ) × ℤ

abbrev pub spot_of : Place → SpotOf
spot_of place = (map dense_pair place.rest.now, place.own)

abbrev pub spots_of : List Place → List SpotOf
spots_of places = map spot_of places

-- what stands in a record after a rank
abbrev pub past : ℕ → List (ℕ × ℤ) → List (ℕ × ℤ)
past rank [] = []
past rank (cell ∷ cells) = if rank == cell.0 then cells else past rank cells

-- a record that has a rank, with it
abbrev pub grown : ℕ → SpotOf → List SpotOf
grown rank spot = if has rank spot.0 then
    (past rank spot.0, spot.1 +ℤ value_of rank spot.0) ∷ [] else []

-- those that have a rank, with it
abbrev pub narrowed : ℕ → List SpotOf → List SpotOf
narrowed rank [] = []
narrowed rank (spot ∷ spots) = grown rank spot ++ narrowed rank spots

-- what the prefix earns
abbrev pub earned : List SpotOf → ℤ
earned [] = pos 0
earned (spot ∷ spots) = spot.1 +ℤ earned spots

-- the most that it may earn with what stands after it, in a record and in all of them
abbrev pub share : SpotOf → ℤ
share spot = positive_part (spot.1 +ℤ gain spot.0)

abbrev pub most : List SpotOf → ℤ
most [] = pos 0
most (spot ∷ spots) = share spot +ℤ most spots

-- the ranks that stand in some of them, ascending
abbrev pub ranks_in : List SpotOf → List ℕ
ranks_in spots = flat_map (λ spot. items_in spot.0) spots

abbrev pub standing : List SpotOf → List ℕ
standing spots = ranking nat_cmp (ranks_in spots)

-- the children of the prefix: each of these ranks, with the most that the prefix may earn with it and with later ones
abbrev pub child_at : List SpotOf → ℕ → ℕ × ℤ
child_at spots rank = (rank, most (narrowed rank spots))

abbrev pub children_at : List SpotOf → List (ℕ × ℤ)
children_at spots = map (child_at spots) (standing spots)

abbrev pub rank_pair : Child → ℕ × ℤ
rank_pair child = (child.rank, child.bound)

-- with items for ranks
abbrev pub named : List ℕ → List (ℕ × ℤ) → List (ℕ × ℤ)
named order children = map (λ child. (item_at order child.0, child.1)) children

abbrev pub named_children : List Item → List Child → List (ℕ × ℤ)
named_children items children = named (numbers_of items) (map rank_pair children)

-- the absolute values of a spot, and these of all are at most 2 ^ 127 - 1 together
abbrev pub size_of : SpotOf → ℕ
size_of spot = unsigned_abs spot.1 + absolute_of spot.0

abbrev pub HasRoom : List SpotOf → Type 0
HasRoom spots = sum_by size_of spots < 2 ^ 127

-- each rank is one of so many
abbrev pub AreRanks : ℕ → List SpotOf → Type 0
AreRanks count spots = AllByRecursion
    (λ spot. AllByRecursion (λ cell. cell.0 < count) spot.0) spots

-- the ranks of each ascend
abbrev pub AreAscending : List SpotOf → Type 0
AreAscending spots = AllByRecursion (λ spot. Ascend (items_in spot.0)) spots

-- the spots of a prefix, where the items after it have the ranks from one on
abbrev pub spot_at : List ℕ → ℕ → List ℕ → List (ℕ × ℤ) → SpotOf
spot_at order from prefix cells = (cells_from from (drop from order) cells, values_of prefix cells)

abbrev pub spots_at : List (List (ℕ × ℤ)) → List ℕ → ℕ → List ℕ → List SpotOf
spots_at records order from prefix = map (spot_at order from prefix)
    (filter (holds prefix) records)

-- a prefix, written with a space before each item, and its spots
pub record IsNode (records : List (List (ℕ × ℤ))) (order : List ℕ) (from : ℕ)
    (prefix written : List ℕ) (spots : List SpotOf) : Type 0 where
  pub spaces : written ≡ spaced prefix
  pub holds : spots ≡ spots_at records order from prefix
  pub once : IsDistinct nat_eq order
  pub ascending : AllByRecursion (λ r. Ascend (items_in r)) records

-- the line of a prefix and those below it
abbrev pub lines_from : List (List (ℕ × ℤ)) → ℤ → List ℕ → List ℕ → List (List ℕ)
lines_from records least prefix later = line_of records least prefix later ∷ lines_below records
    least prefix later

-- the lines from the children on that are opened
abbrev pub opened_lines : List (List (ℕ × ℤ)) → ℤ → List ℕ → List ℕ → List (ℕ × ℤ) → List (List ℕ)
opened_lines records least order prefix children =
    flat_map (λ child. if int_le least child.1 then lines_from records least
    (prefix ++ item_at order child.0 ∷ []) (drop (child.0 + 1) order) else []) children
