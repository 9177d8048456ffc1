-- The records over ranks keep the rules of ranked records.
use Rattle.std.proofs.Common.{◌≡◌, ℕ, zero, suc, ◌<◌, ◌≤◌, ◌+◌, ◌^◌, Bool, true, false, cond, eqb, nat_lt, ℤ, pos, ◌≤ℤ◌, int_le, List, [], ◌∷◌, ◌++◌, map}
use Rattle.std.proofs.Common.{filter, length, refl, sym, ap, ◌∙◌, inl, inr, arith, flat_map, sum_by, add-one}
use Rattle.std.specs.List.{All, AllByRecursion, AllAdjacentBelow, list_any}
use Rattle.std.proofs.lemmas.Bool.{eqb-true, eqb-false, or_cases, ltb-true}
use Rattle.std.proofs.lemmas.List.Sums.{sum_by-cons}
use Rattle.std.proofs.lemmas.Map.Keys.{apart_from_distinct}
use Rattle.std.proofs.lemmas.Map.Steps.{length-le_from_distinct_below}
use Rattle.std.specs.Ordering.{nat_cmp}
use Rattle.std.specs.declared.vec.Vec.{Vec}
use Rattle.std.specs.declared.alloc.Global.{Global}
use Rattle.hu_kind.specs.Order.{Ascend}
use Rattle.hu_kind.specs.Record.{has, value_of, items_in, absolute_of, IsRecord}
use Rattle.hu_kind.specs.Database.{twu, items_of}
use Rattle.hu_kind.proofs.lemmas.Members.{Member, Member-from_filter, Member-from_flat_map, Member-from_map, Contains-from_member}
use Rattle.hu_kind.proofs.lemmas.Occurring.{at_member}
use Rattle.hu_kind.specs.declared.item.Item.{Item}
use Rattle.hu_kind.proofs.lemmas.CellPlaces.{adjacent}
use Rattle.hu_totals.specs.declared.ranked.Dense.{Dense}
use Rattle.hu_totals.specs.View.{pairs_in, ranking_of}
use Rattle.hu_totals.specs.Weights.{numbers_of}
use Rattle.hu_totals.specs.declared.weights.RankOrder.{RankOrder}
use Rattle.hu_totals.specs.Ranked.{IsRanking, by_order, ranked_by, ordered_items, cells_from, over_ranks}
use Rattle.hu_totals.proofs.lemmas.RecordCells.{Ascend-record}
use Rattle.hu_totals.proofs.lemmas.SortedLists.{Once, IsDistinct-from_once, Member-from_ranking}
use Rattle.hu_totals.proofs.lemmas.DenseLemmas.{ranks_from, cells_from-within}
use Rattle.hu_totals.proofs.lemmas.WeightLemmas.{Once-ordered_items}

-- what holds of each element by recursion holds at each place
pub All-from_each : {A : Type 0} (P : A → Type 0) (xs : List A) → AllByRecursion P xs → All P xs
All-from_each P [] all k d within = absurd (omega arith)
All-from_each P (x ∷ xs) all zero d within = all.0
All-from_each P (x ∷ xs) all (suc k) d within = All-from_each P xs all.1 k d (omega arith)

-- the ranks of a record ascend
Ascend-cells_from : (rank : ℕ) (items : List ℕ) (cells : List (ℕ × ℤ)) → Ascend (items_in (cells_from rank items cells))
Ascend-cells_from rank [] cells = tt
Ascend-cells_from rank (x ∷ xs) cells =
    by (has x cells) (later (cells_from (rank + 1) xs cells) (ranks_from (rank + 1) xs cells))
    (Ascend-cells_from (rank + 1) xs cells)
  where
    later : (dense : List (ℕ × ℤ)) → AllByRecursion (λ cell. (rank + 1 ≤ cell.0) × (cell.0 < rank + 1 + length xs))
        dense → AllByRecursion (λ other. rank < other) (items_in dense)
    later [] all = tt
    later (c ∷ cs) all = let low = all.0.0 in (omega arith, later cs all.1)

    by : (b : Bool) → AllByRecursion (λ other. rank < other) (items_in (cells_from (rank + 1) xs cells)) → Ascend (items_in (cells_from (rank + 1) xs cells))
        → Ascend (items_in (cond b ((rank, value_of x cells) ∷ []) [] ++ cells_from (rank + 1) xs cells))
    by true above up = (above, up)
    by false above up = up

AllAdjacentBelow-ascend : (cells : List (ℕ × ℤ)) → Ascend (items_in cells) → AllAdjacentBelow (λ a b. a.0 < b.0) cells (length cells)
AllAdjacentBelow-ascend cells up k d within = rw add-one (adjacent cells k d up (omega arith))

-- what holds of each record's cells holds over the ranks
over_ranks-each : (P : List (ℕ × ℤ) → Type 0) (items : List ℕ) (records : List (List (ℕ × ℤ)))
    → ((cells : List (ℕ × ℤ)) → 0 < length (cells_from 0 items cells) → P (cells_from 0 items cells))
    → AllByRecursion P (over_ranks items records)
over_ranks-each P items [] each = tt
over_ranks-each P items (r ∷ rs) each = by (nat_lt 0 (length (cells_from 0 items r))) refl (over_ranks-each P items rs each)
  where
    by : (b : Bool) → nat_lt 0 (length (cells_from 0 items r)) ≡ b → AllByRecursion P (over_ranks items rs)
        → AllByRecursion P (cond b (cells_from 0 items r ∷ over_ranks items rs) (over_ranks items rs))
    by true h all = (each r (ltb-true 0 (length (cells_from 0 items r)) h), all)
    by false h all = all

-- the values over the ranks are within those of the records
over_ranks-within : (items : List ℕ) (records : List (List (ℕ × ℤ))) → Once items → AllByRecursion IsRecord records
    → sum_by absolute_of (over_ranks items records) ≤ sum_by absolute_of records
over_ranks-within items [] o all = omega arith
over_ranks-within items (r ∷ rs) o all =
    by (nat_lt 0 (length (cells_from 0 items r))) (over_ranks-within items rs o all.1)
    (cells_from-within items r o (Ascend-record r all.0))
  where
    by : (b : Bool) → sum_by absolute_of (over_ranks items rs) ≤ sum_by absolute_of rs → absolute_of (cells_from 0 items r) ≤ absolute_of r
        → sum_by absolute_of (cond b (cells_from 0 items r ∷ over_ranks items rs) (over_ranks items rs)) ≤ sum_by absolute_of (r ∷ rs)
    by true ih one = omega (arith, sum_by-cons absolute_of (cells_from 0 items r) (over_ranks items rs), sum_by-cons absolute_of r rs)
    by false ih one = omega (arith, sum_by-cons absolute_of r rs)

-- an item that has a rank is in its range
in_range : (order : RankOrder) (floor : ℤ) (records : List (List (ℕ × ℤ))) (item : ℕ) → AllByRecursion IsRecord records
    → Member item (ordered_items order floor records) → item ≤ 2147483647
in_range order floor records item all m =
    let kept = Member-from_ranking (by_order order records) item (filter (λ i. int_le floor (twu records (i ∷ []))) (items_of records)) m in
    let occurs =
    Member-from_ranking nat_cmp item (flat_map items_in records)
    (Member-from_filter (λ i. int_le floor (twu records (i ∷ []))) item (items_of records) kept).0 in
    let found = Member-from_flat_map items_in item records occurs in
    let cell = Member-from_map (λ (c : ℕ × ℤ). c.0) item found.0 found.2 in
    let is = at_member IsRecord found.0 records all found.1 in
    let place = Contains-from_member cell.0 found.0 cell.1 in
    let bound = is.itemset.in_range place.0 cell.0 place.1 in
    omega (arith, ap (λ (c : ℕ × ℤ). c.0) place.2, cell.2)

member-list_any : (item : ℕ) (items : List ℕ) → list_any (eqb item) items ≡ true → Member item items
member-list_any item [] any = cc
member-list_any item (x ∷ xs) any = elim (or_cases (eqb item x) (list_any (eqb item) xs) any) [
  | inl e ↦ inl (sym (eqb-true item x e))
  | inr later ↦ inr (member-list_any item xs later)
]

-- the records of a database over ranks are ranked records
pub IsRanking-ranked : (order : RankOrder) (floor : ℤ) (records : List (List (ℕ × ℤ))) → pos 1 ≤ℤ floor
    → AllByRecursion IsRecord records → sum_by absolute_of records < 2 ^ 127 → IsRanking (ranked_by order floor records)
IsRanking-ranked order floor records least all fits =
    let items = ordered_items order floor records in
    let once = Once-ordered_items records order floor in
    let apart = IsDistinct-from_once items once in
    record {
      floor = least;
      distinct = λ i j before within. eqb-false _ _ (apart_from_distinct eqb items i j 0 apart before within);
      few = length-le_from_distinct_below items 2147483648 apart
          (λ q any. let low = in_range order floor records q all (member-list_any q items any) in omega arith);
      some = All-from_each (λ cells. 0 < length cells) (over_ranks items records)
          (over_ranks-each (λ cells. 0 < length cells) items records (λ cells some. some));
      ascending = All-from_each (λ cells. AllAdjacentBelow (λ a b. a.0 < b.0) cells (length cells)) (over_ranks items records)
          (over_ranks-each (λ cells. AllAdjacentBelow (λ a b. a.0 < b.0) cells (length cells)) items records
          (λ cells some. AllAdjacentBelow-ascend (cells_from 0 items cells) (Ascend-cells_from 0 items cells)));
      in_range = All-from_each (λ cells. All (λ cell. cell.0 < length items) cells) (over_ranks items records)
          (over_ranks-each (λ cells. All (λ cell. cell.0 < length items) cells) items records
          (λ cells some. All-from_each (λ (cell : ℕ × ℤ). cell.0 < length items) (cells_from 0 items cells)
          (below (cells_from 0 items cells) (length items) (ranks_from 0 items cells))));
      sum_fits = omega (arith, over_ranks-within items records once all);
    }
  where
    below : (dense : List (ℕ × ℤ)) (n : ℕ) → AllByRecursion (λ cell. (0 ≤ cell.0) × (cell.0 < 0 + n)) dense → AllByRecursion (λ cell. cell.0 < n) dense
    below [] n each = tt
    below (c ∷ cs) n each = let high = each.0.1 in (omega arith, below cs n each.1)

-- the fields of ranked records are those of the database over ranks
pub ranking-is : (order : RankOrder) (floor floor' : ℤ) (keys : List Item) (dense : List (Vec Dense Global))
    (records : List (List (ℕ × ℤ))) → floor' ≡ floor → numbers_of keys ≡ ordered_items order floor records
    → map pairs_in dense ≡ over_ranks (numbers_of keys) records → ranking_of floor' keys dense ≡ ranked_by order floor records
ranking-is order floor floor' keys dense records f items is =
    let over = is ∙ ap (λ ns. over_ranks ns records) items in
    λ j. record { floor = f j; items = items j; records = over j }
