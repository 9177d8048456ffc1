-- The records of a database over ranks. An item whose transaction-weighted utility is below a floor is left out: no set that
-- holds it earns the floor. The other items are numbered from 0 in an order, by this utility ascending, then by item, or first
-- by the size of their mean value; records keep their cells, by rank ascending, and a record without any is left out. After
-- Two-Phase (Liu, Liao and Choudhary, 2005) and HUI-Miner (Liu and Qu, 2012).
use Rattle.std.specs.Prelude.{
  ℕ,
  ◌+◌,
  ◌^◌,
  ◌<◌,
  ◌≤◌,
  nat_lt,
  ℤ,
  pos,
  ◌≤ℤ◌,
  int_le,
  unsigned_abs,
  max,
  ◌/◌,
  ◌≢◌,
  List,
  [],
  ◌∷◌,
  ◌++◌,
  map,
  length,
  slice_index_or,
  if◌then◌else◌,
}
use Rattle.std.specs.List.{All, AllAdjacentBelow, filter, sum_by}
use Rattle.std.specs.declared.cmp.Ordering.{Ordering}
use Rattle.std.specs.Ordering.{nat_cmp, int_cmp, on, then_cmp}
use Rattle.std.specs.Int.{leading_zeros, w128}
use Rattle.hu_totals.specs.declared.totals.ItemTotal.{ItemTotal}
use Rattle.hu_totals.specs.declared.weights.RankOrder.{RankOrder}
use Rattle.hu_totals.specs.declared.weights.RankOrder.TheVariants.{Gain, Value}
use Rattle.hu_totals.specs.Totals.{total_of}
use Rattle.hu_kind.specs.Record.{has, value_of, absolute_of}
use Rattle.hu_kind.specs.Database.{twu, items_of}
use Rattle.hu_kind.specs.Order.{ranking}

-- records over ranks: the floor, the item of each rank, and the records, each a list of pairs (rank, value)
pub record Ranking : Type 0 where
  pub floor : ℤ
  pub items : List ℕ
  pub records : List (List (ℕ × ℤ))

-- items by their transaction-weighted utility, then by number
abbrev pub by_twu : List (List (ℕ × ℤ)) → ℕ → ℕ → Ordering
by_twu records = then_cmp (on (λ item. twu records (item ∷ [])) int_cmp) nat_cmp

-- what an item's values above 0 are in the mean, over the records that hold it
abbrev pub mean_of : ItemTotal → ℕ
mean_of total = unsigned_abs total.positive / max total.support 1

-- how small that is under an order: its leading zeros as a number of 128 bits, or 0 where the order doesn't ask
abbrev pub smallness_of : RankOrder → ItemTotal → ℕ
smallness_of Gain total = 0
smallness_of Value total = leading_zeros w128 (mean_of total)

-- items in an order of ranks: by how small their mean values are, then by their transaction-weighted utility, then by number
abbrev pub by_order : RankOrder → List (List (ℕ × ℤ)) → ℕ → ℕ → Ordering
by_order order records =
    then_cmp (on (λ item. smallness_of order (total_of records item)) nat_cmp) (by_twu records)

-- the items whose transaction-weighted utility reaches a floor, in an order of ranks
abbrev pub ordered_items : RankOrder → ℤ → List (List (ℕ × ℤ)) → List ℕ
ordered_items order floor records =
    ranking (by_order order records) (filter (λ item. int_le floor (twu records (item ∷ [])))
    (items_of records))

-- the items that have a rank, in the order of their ranks
abbrev pub ranked_items : ℤ → List (List (ℕ × ℤ)) → List ℕ
ranked_items floor records =
    ranking (by_twu records) (filter (λ item. int_le floor (twu records (item ∷ [])))
    (items_of records))

-- a record's cells over these items, which have the ranks from a number on
abbrev pub cells_from : ℕ → List ℕ → List (ℕ × ℤ) → List (ℕ × ℤ)
cells_from rank [] cells = []
cells_from rank (item ∷ items) cells =
    (if has item cells then (rank, value_of item cells) ∷ [] else [])
    ++ cells_from (rank + 1) items cells

-- the records over the ranks of these items
abbrev pub over_ranks : List ℕ → List (List (ℕ × ℤ)) → List (List (ℕ × ℤ))
over_ranks items records = filter (λ cells. nat_lt 0 (length cells)) (map (cells_from 0 items) records)

-- the records of a database over ranks
abbrev pub ranked : ℤ → List (List (ℕ × ℤ)) → Ranking
ranked floor records =
    record {
      floor = floor;
      items = ranked_items floor records;
      records =
          over_ranks (ranked_items floor records) records;
    }

-- the records of a database over ranks in an order
abbrev pub ranked_by : RankOrder → ℤ → List (List (ℕ × ℤ)) → Ranking
ranked_by order floor records = record {
  floor = floor;
  items = ordered_items order floor records;
  records = over_ranks (ordered_items order floor records) records;
}

-- the item of a rank
abbrev pub item_at : List ℕ → ℕ → ℕ
item_at items rank = slice_index_or items rank 0

-- ranked records with items for ranks
abbrev pub unranked : Ranking → List (List (ℕ × ℤ))
unranked r = map (λ cells. map (λ cell. (item_at r.items cell.0, cell.1)) cells) r.records

-- the rules of ranked records
pub record IsRanking (r : Ranking) : Type 0 where
  pub floor : pos 1 ≤ℤ r.floor
  pub distinct : (i j : ℕ) → i < j → j < length r.items → item_at r.items i ≢ item_at r.items j
  pub few : length r.items ≤ 2147483648
  pub some : All (λ cells. 0 < length cells) r.records
  pub ascending : All (λ cells. AllAdjacentBelow (λ a b. a.0 < b.0) cells (length cells)) r.records
  pub in_range : All (λ cells. All (λ cell. cell.0 < length r.items) cells) r.records
  pub sum_fits : sum_by absolute_of r.records < 2 ^ 127
