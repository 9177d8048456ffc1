-- Totals stay within the sum of absolute values.
use Rattle.std.proofs.Common.{◌≡◌, ◌≢◌, ℕ, zero, suc, ◌<◌, ◌≤◌, ◌+◌, ◌^◌, Bool, true, false, cond, eqb, nat_eq, ℤ, pos, ◌+ℤ◌, unsigned_abs, List, [], ◌∷◌, fold}
use Rattle.std.proofs.Common.{length, get_or, take, Some, refl, sym, ap, ◌∙◌, inl, inr, arith, sum_by}
use Rattle.std.specs.Map.{lookup}
use Rattle.std.specs.Option.{unwrap_or}
use Rattle.std.proofs.lemmas.Int.{ints}
use Rattle.std.proofs.lemmas.Bool.{eq-eqb, ne_eqb, cases_eq}
use Rattle.std.proofs.lemmas.List.Sums.{sum_by-cons}
use Rattle.indexmap.specs.IndexMap.{insert_entry}
use Rattle.hu_kind.specs.declared.item.Cell.{Cell}
use Rattle.hu_kind.specs.Cell.{pair_of, pairs_of}
use Rattle.hu_kind.specs.Order.{Ascend}
use Rattle.hu_kind.specs.Record.{holds, value_of, utility_in, gain, items_in, absolute_of}
use Rattle.hu_kind.specs.Database.{utility, support, twu}
use Rattle.hu_kind.proofs.lemmas.Earned.{positive_part-within, gain-within}
use Rattle.hu_kind.proofs.lemmas.CellPlaces.{above-at}
use Rattle.hu_totals.specs.declared.totals.ItemTotal.{ItemTotal}
use Rattle.hu_totals.specs.Totals.{positive, total_of}
use Rattle.hu_totals.specs.Adding.{no_total, total_in, with_cell, HasRoom}

-- ---- a record's gain

-- a cell's value is within the sum
pub value-within : (cells : List Cell) (i : ℕ) (d : Cell) → i < length cells → unsigned_abs (get_or cells i d).value ≤ absolute_of (pairs_of cells)
value-within [] i d within = absurd (omega arith)
value-within (cell ∷ cells) zero d within = omega (arith, sum_by-cons (λ (c : ℕ × ℤ). unsigned_abs c.1) (pair_of cell) (pairs_of cells))
value-within (cell ∷ cells) (suc i) d within =
    omega (
      arith,
      sum_by-cons (λ (c : ℕ × ℤ). unsigned_abs c.1) (pair_of cell) (pairs_of cells),
      value-within cells i d (omega arith),
    )

-- ---- an item's total while the cells before its own are added

lookup-insert_other : (totals : List (ℕ × ItemTotal)) (k item : ℕ) (total : ItemTotal) → item ≢ k
    → lookup (nat_eq item) (insert_entry nat_eq totals k total) ≡ lookup (nat_eq item) totals
lookup-insert_other [] k item total ne = let no : eqb item k ≡ false = ne_eqb item k ne in rw no refl
lookup-insert_other (e ∷ es) k item total ne = elim (cases_eq k e.0) [
  | inl same ↦
      let yes : eqb k e.0 ≡ true = eq-eqb k e.0 same in
      let no : eqb item e.0 ≡ false = ne_eqb item e.0 (λ here. ne (here ∙ sym same)) in
      simp (yes, no)
  | inr apart ↦
      let no : eqb k e.0 ≡ false = ne_eqb k e.0 apart in
      rw no (ap (cond (eqb item e.0) (Some e.1)) (lookup-insert_other es k item total ne))
]

pub total_in-before : (gained : ℤ) (totals : List (ℕ × ItemTotal)) (cells : List Cell) (i : ℕ) (d : Cell)
    → Ascend (items_in (pairs_of cells)) → i < length cells
    → total_in (fold (with_cell gained) totals (pairs_of (take i cells))) (get_or cells i d).item.0 ≡ total_in totals (get_or cells i d).item.0
total_in-before gained totals [] i d up within = absurd (omega arith)
total_in-before gained totals (cell ∷ cells) zero d up within = refl
total_in-before gained totals (cell ∷ cells) (suc i) d up within =
    let above = above-at cell.item.0 cells i d up.0 (omega arith) in
    total_in-before gained (with_cell gained totals (pair_of cell)) cells i d up.1 (omega arith)
    ∙ ap (λ found. unwrap_or found no_total) (lookup-insert_other totals cell.item.0 (get_or cells i d).item.0 _ (λ same. absurd (omega arith)))

-- ---- the totals of records

value_of-within : (item : ℕ) (cells : List (ℕ × ℤ)) → unsigned_abs (value_of item cells) ≤ absolute_of cells
value_of-within item [] = omega arith
value_of-within item (cell ∷ cells) = by (eqb item cell.0) (value_of-within item cells)
  where
    by : (b : Bool) → unsigned_abs (value_of item cells) ≤ absolute_of cells → unsigned_abs (cond b cell.1 (value_of item cells)) ≤ absolute_of (cell ∷ cells)
    by true ih = omega (arith, sum_by-cons (λ (c : ℕ × ℤ). unsigned_abs c.1) cell cells)
    by false ih = omega (arith, sum_by-cons (λ (c : ℕ × ℤ). unsigned_abs c.1) cell cells)

utility_in-within : (item : ℕ) (cells : List (ℕ × ℤ)) → unsigned_abs (utility_in (item ∷ []) cells) ≤ absolute_of cells
utility_in-within item cells = by (holds (item ∷ []) cells)
  where
    by : (b : Bool) → unsigned_abs (cond b (value_of item cells +ℤ pos 0) (pos 0)) ≤ absolute_of cells
    by true = let one = value_of-within item cells in omega (arith, ints)
    by false = omega arith

gained-within : (b : Bool) (cells : List (ℕ × ℤ)) → unsigned_abs (cond b (gain cells) (pos 0)) ≤ absolute_of cells
gained-within true cells = gain-within cells
gained-within false cells = omega arith

pub utility-within : (records : List (List (ℕ × ℤ))) (item : ℕ) → unsigned_abs (utility records (item ∷ [])) ≤ sum_by absolute_of records
utility-within [] item = omega arith
utility-within (r ∷ rs) item = let ih = utility-within rs item in let one = utility_in-within item r in omega (arith, ints, sum_by-cons absolute_of r rs)

pub twu-within : (records : List (List (ℕ × ℤ))) (item : ℕ) → unsigned_abs (twu records (item ∷ [])) ≤ sum_by absolute_of records
twu-within [] item = omega arith
twu-within (r ∷ rs) item = let ih = twu-within rs item in let one = gained-within (holds (item ∷ []) r) r in omega (arith, ints, sum_by-cons absolute_of r rs)

pub positive-within : (records : List (List (ℕ × ℤ))) (item : ℕ) → unsigned_abs (positive records item) ≤ sum_by absolute_of records
positive-within [] item = omega arith
positive-within (r ∷ rs) item =
    let ih = positive-within rs item in
    let one = positive_part-within (value_of item r) in
    let two = value_of-within item r in
    omega (arith, ints, sum_by-cons absolute_of r rs)

pub support-within : (records : List (List (ℕ × ℤ))) (item : ℕ) → support records (item ∷ []) ≤ length records
support-within [] item = omega arith
support-within (r ∷ rs) item = let ih = support-within rs item in let one =
    at_most_one (holds (item ∷ []) r) in omega (arith, sum_by-cons (λ c. cond (holds (item ∷ []) c) 1 0) r rs)
  where
    at_most_one : (b : Bool) → cond b 1 0 ≤ 1
    at_most_one true = omega arith
    at_most_one false = omega arith

-- there is room for one record more
pub HasRoom-total_of : (records : List (List (ℕ × ℤ))) (item more : ℕ) → sum_by absolute_of records + more < 2 ^ 127
    → length records + 1 < 2 ^ 64 → HasRoom (total_of records item) more
HasRoom-total_of records item more fits few = record {
  utility = omega (arith, utility-within records item);
  positive = omega (arith, positive-within records item);
  support = omega (arith, support-within records item);
  twu = omega (arith, twu-within records item);
}

pub HasRoom-less : (total : ItemTotal) (more less : ℕ) → less ≤ more → HasRoom total more → HasRoom total less
HasRoom-less total more less below room = record {
  utility = omega (arith, room.utility);
  positive = omega (arith, room.positive);
  support = room.support;
  twu = omega (arith, room.twu);
}
