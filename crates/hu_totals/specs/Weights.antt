-- How ranks are found: items are weighed by what they are ordered by, and cells take the ranks of their items.
use Rattle.std.specs.Prelude.{
  ◌≡◌,
  ℕ,
  nat_eq,
  Bool,
  ℤ,
  pos,
  int_le,
  position,
  List,
  [],
  ◌∷◌,
  map,
  option_map,
  option_to_list,
  refl,
}
use Rattle.std.specs.List.{filter, flat_map}
use Rattle.std.specs.declared.cmp.Ordering.{Ordering}
use Rattle.std.specs.Ordering.{nat_cmp, int_cmp, on, then_cmp}
use Rattle.hu_kind.specs.declared.item.Item.{Item}
use Rattle.hu_kind.specs.Order.{ranking}
use Rattle.hu_kind.specs.Worked.{base_a}
use Rattle.hu_totals.specs.declared.totals.ItemTotal.{ItemTotal}
use Rattle.hu_totals.specs.declared.weights.RankOrder.{RankOrder}
use Rattle.hu_totals.specs.declared.weights.RankOrder.TheVariants.{Gain}
use Rattle.hu_totals.specs.declared.weights.Weighed.{Weighed}
use Rattle.hu_totals.specs.Ranked.{smallness_of}
use Rattle.hu_totals.specs.Totals.{item_totals}

-- an item with what it is ordered by: how small its mean value is, and its transaction-weighted utility
pub record Weight : Type 0 where
  pub small : ℕ
  pub twu : ℤ
  pub item : ℕ

-- weights by smallness, then by transaction-weighted utility, then by item
abbrev pub weight_cmp : Weight → Weight → Ordering
weight_cmp =
    then_cmp (on (λ w. w.small) nat_cmp) (then_cmp (on (λ w. w.twu) int_cmp)
    (on (λ w. w.item) nat_cmp))

-- an item of totals with what an order asks of it
abbrev pub weigh : RankOrder → ℕ × ItemTotal → Weight
weigh order entry = record { small = smallness_of order entry.1; twu = entry.1.twu; item = entry.0 }

-- the items whose transaction-weighted utility reaches a floor, weighed
abbrev pub weights : RankOrder → ℤ → List (ℕ × ItemTotal) → List Weight
weights order floor totals = map (weigh order) (filter (λ e. int_le floor e.1.twu) totals)

-- these items in the order
abbrev pub by_weight : RankOrder → ℤ → List (ℕ × ItemTotal) → List ℕ
by_weight order floor totals = map (λ w. w.item) (ranking weight_cmp (weights order floor totals))

-- the weight of a weighed item
abbrev pub weight_of : Weighed → Weight
weight_of one = record { small = one.smallness; twu = one.twu; item = one.item.0 }

-- a cell with the rank of its item, where that has one
abbrev pub dense_of : List ℕ → ℕ × ℤ → List (ℕ × ℤ)
dense_of items cell = option_to_list (option_map (λ rank. (rank, cell.1)) (position (nat_eq cell.0) items))

-- cells with the ranks of their items, in the order of the cells
abbrev pub dense_cells : List ℕ → List (ℕ × ℤ) → List (ℕ × ℤ)
dense_cells items cells = flat_map (dense_of items) cells

-- the numbers of items
abbrev pub numbers_of : List Item → List ℕ
numbers_of items = map (λ item. item.0) items

-- whether two items have one number
abbrev pub same_item : Item → Item → Bool
same_item = on (λ item. item.0) nat_eq

-- the items of base A that reach 31
pub base_a_by_weight : by_weight Gain (pos 31) (item_totals base_a) ≡ 7 ∷ 4 ∷ 2 ∷ 1 ∷ 5 ∷ 3 ∷ []
base_a_by_weight = refl
