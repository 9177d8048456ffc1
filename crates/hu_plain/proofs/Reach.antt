-- The reach of places: no step goes beyond it.
use Rattle.std.proofs.Common.{◌≡◌, ℕ, ◌<◌, ◌≤◌, ◌+◌, ◌-◌, max, Bool, true, false, cond, ℤ, pos, ◌+ℤ◌, unsigned_abs}
use Rattle.std.proofs.Common.{Option, None, Some, unwrap_or, List, [], ◌∷◌, length, refl, ap, inl, inr, arith, sum_by}
use Rattle.std.specs.Int.{int_max}
use Rattle.std.proofs.lemmas.Int.{ints, clamps}
use Rattle.std.proofs.lemmas.List.Sums.{sum_by-cons, sum_by-append}
use Rattle.hu_kind.specs.Record.{absolute_of}
use Rattle.hu_kind.specs.Sequence.{better}
use Rattle.hu_plain.specs.Row.{Cells, RowOf, grown_row, grown_rows}
use Rattle.hu_plain.specs.declared.places.Step.{Step}
use Rattle.hu_plain.specs.declared.places.Step.TheVariants.{Into, After}
use Rattle.hu_plain.specs.Place.{PlaceOf, Places, after, all_stepped, begun, best_of, best_sum, fresh, into}
use Rattle.hu_plain.specs.Place.{itemsets_of, occurs_at, reach, reach_of, stepped, IsBegun}
use Rattle.hu_plain.proofs.Cut.{Cut, cut}
use Rattle.hu_plain.proofs.PlaceGrowth.{itemsets-into, itemsets-after}
use Rattle.hu_plain.proofs.Steps.{IsBegun-stepped}

-- what a sum and all that is ahead of it count for
abbrev pub ahead : (ℤ → ℕ) → Option ℤ → ℕ → ℕ
ahead h None n = 0
ahead h (Some x) n = h x + n

pub ahead-upto : (h : ℤ → ℕ) (best : Option ℤ) (n m : ℕ) → n ≤ m → ahead h best n ≤ ahead h best m
ahead-upto h None n m upto = omega arith
ahead-upto h (Some x) n m upto = omega arith

-- a step costs k at least, and a greater sum counts no more than one of the two
module _ (h : ℤ → ℕ) (g : Cells → ℕ) (k : ℕ)
    (costs : (item : ℕ) (sum : ℤ) (cells : Cells) (c : Cut item sum cells) → (h (sum +ℤ c.value) + g c.rest) + k ≤ h sum + g cells)
    (bounded : (x y : ℤ) → h (int_max x y) ≤ max (h x) (h y)) where
  -- what rows of one itemset count for, with what comes after it
  abbrev counted_rows : ℕ → List RowOf → ℕ
  counted_rows n rows = sum_by (λ row. (h row.0 + g row.1) + n) rows

  row-grown : (n item : ℕ) (row : RowOf) → counted_rows n (grown_row item row.0 row.1) ≤ ((h row.0 + g row.1) + n) - k
  row-grown n item row = elim (cut item row.0 row.1) [
    | inr none ↦ rw none.0 (omega arith)
    | inl c ↦ let less = costs item row.0 row.1 c in rw c.is (omega (arith, less))
  ]

  rows-grown : (n item : ℕ) (rows : List RowOf) → counted_rows n (grown_rows item rows) ≤ counted_rows n rows - k
  rows-grown n item [] = omega arith
  rows-grown n item (row ∷ rows) =
      let f : RowOf → ℕ = λ r. (h r.0 + g r.1) + n in
      let apart = sum_by-append f (grown_row item row.0 row.1) (grown_rows item rows) in
      let whole = sum_by-cons f row rows in
      let one = row-grown n item row in
      let ih = rows-grown n item rows in
      omega arith

  reach-into : (item : ℕ) (places : Places) → reach h g (into item places) ≤ reach h g places - k
  reach-into item [] = omega arith
  reach-into item (place ∷ places) =
      let n = sum_by g (itemsets_of places) in
      let same = ap (λ es. counted_rows (sum_by g es) (grown_rows item place.0)) (itemsets-into item places) in
      let here = rows-grown n item place.0 in
      let ih = reach-into item places in
      omega arith

  better-ahead : (a b : Option ℤ) (n : ℕ) → ahead h (better a b) n ≤ max (ahead h a n) (ahead h b n)
  better-ahead None b n = omega arith
  better-ahead (Some x) None n = omega arith
  better-ahead (Some x) (Some y) n = let one = bounded x y in omega arith

  sums-ahead : (n : ℕ) (rows : List RowOf) → ahead h (best_sum rows) n ≤ counted_rows n rows
  sums-ahead n [] = omega arith
  sums-ahead n (row ∷ rows) =
      let whole = sum_by-cons (λ (r : RowOf). (h r.0 + g r.1) + n) row rows in
      let one = better-ahead (Some row.0) (best_sum rows) n in
      let ih = sums-ahead n rows in
      omega arith

  rows-fresh : (n item : ℕ) (best : Option ℤ) (cells : Cells) → counted_rows n (grown_rows item (fresh best cells)) ≤ ahead h best (g cells + n) - k
  rows-fresh n item None cells = omega arith
  rows-fresh n item (Some x) cells = let one = rows-grown n item ((x, cells) ∷ []) in omega arith

  next-ahead : (best : Option ℤ) (place : PlaceOf) (places : Places)
      → max (ahead h (better best (best_sum place.0)) (sum_by g (itemsets_of places))) (reach h g places)
      ≤ max (ahead h best (sum_by g (itemsets_of (place ∷ places)))) (reach h g (place ∷ places))
  next-ahead best place places =
      let n = sum_by g (itemsets_of places) in
      let whole = sum_by-cons g place.1 (itemsets_of places) in
      let one = better-ahead best (best_sum place.0) n in
      let sums = sums-ahead n place.0 in
      let more = ahead-upto h best n (g place.1 + n) (omega arith) in
      let e = ap (λ m. ahead h best m) whole in
      omega arith

  reach-after : (item : ℕ) (best : Option ℤ) (places : Places)
      → reach h g (after item best places) ≤ max (ahead h best (sum_by g (itemsets_of places))) (reach h g places) - k
  reach-after item best [] = omega arith
  reach-after item best (place ∷ places) =
      let next = better best (best_sum place.0) in
      let n = sum_by g (itemsets_of places) in
      let same = ap (λ es. counted_rows (sum_by g es) (grown_rows item (fresh best place.1))) (itemsets-after item next places) in
      let whole = sum_by-cons g place.1 (itemsets_of places) in
      let here = rows-fresh n item best place.1 in
      let step = next-ahead best place places in
      let ih = reach-after item next places in
      let e = ap (λ m. ahead h best m) whole in
      omega arith

  best-reach : (places : Places) → ahead h (best_of places) 0 ≤ reach h g places
  best-reach [] = omega arith
  best-reach (place ∷ places) =
      let n = sum_by g (itemsets_of places) in
      let one = better-ahead (best_sum place.0) (best_of places) 0 in
      let sums = sums-ahead n place.0 in
      let less = ahead-upto h (best_sum place.0) 0 n (omega arith) in
      let ih = best-reach places in
      omega arith

  reach-begun : (places : Places) → reach h g (begun places) ≤ reach h g places
  reach-begun [] = omega arith
  reach-begun (([], cells) ∷ places) = let ih = reach-begun places in omega arith
  reach-begun ((row ∷ rows, cells) ∷ places) = omega arith

  reach-stepped : (step : Step) (places : Places) → reach h g (stepped step places) ≤ reach h g places - k
  reach-stepped (Into item) places = omega (arith, reach-begun (into item.0 places), reach-into item.0 places)
  reach-stepped (After item) places = omega (arith, reach-begun (after item.0 None places), reach-after item.0 None places)

-- by absolute values a step costs nothing at least
weights-costs : (item : ℕ) (sum : ℤ) (cells : Cells) (c : Cut item sum cells)
    → (unsigned_abs (sum +ℤ c.value) + absolute_of c.rest) + 0 ≤ unsigned_abs sum + absolute_of cells
weights-costs item sum cells c = let weight = c.weight in omega (arith, ints)

weights-bounded : (x y : ℤ) → unsigned_abs (int_max x y) ≤ max (unsigned_abs x) (unsigned_abs y)
weights-bounded x y = omega (arith, ints, clamps)

pub best-within : (places : Places) → unsigned_abs (unwrap_or (best_of places) (pos 0)) ≤ reach_of places
best-within places = within (best_of places) (best-reach unsigned_abs absolute_of 0 weights-costs weights-bounded places)
  where
    within : (b : Option ℤ) → ahead unsigned_abs b 0 ≤ reach_of places → unsigned_abs (unwrap_or b (pos 0)) ≤ reach_of places
    within None h = omega arith
    within (Some x) h = omega arith

-- what places reach, and a sum with all that is ahead of it
abbrev pub reach_with : Option ℤ → Places → ℕ
reach_with best places = max (ahead unsigned_abs best (sum_by absolute_of (itemsets_of places))) (reach_of places)

pub next-within : (best : Option ℤ) (place : PlaceOf) (places : Places)
    → reach_with (better best (best_sum place.0)) places ≤ reach_with best (place ∷ places)
next-within = next-ahead unsigned_abs absolute_of 0 weights-costs weights-bounded

-- how much is left to be searched: by cells, where a step costs one
abbrev pub left_of : Places → ℕ
left_of places = reach (λ _. 1) length places

left-stepped : (step : Step) (places : Places) → left_of (stepped step places) ≤ left_of places - 1
left-stepped = reach-stepped (λ _. 1) length 1 (λ item sum cells c. let fewer = c.fewer in omega arith) (λ x y. omega arith)

left-begun : (places : Places) → IsBegun places → 0 < left_of places
left-begun [] is = absurd is
left-begun (([], cells) ∷ places) is = absurd is
left-begun ((row ∷ rows, cells) ∷ places) is =
    omega (arith, sum_by-cons (λ (r : RowOf). (1 + length r.1) + sum_by length (itemsets_of places)) row rows)

-- over all records
all-stepped : (f g : Places → ℕ) (step : Step) → ((places : Places) → occurs_at (stepped step places) ≡ true → f (stepped step places) ≤ g places)
    → (rows : List Places) → sum_by f (all_stepped step rows) ≤ sum_by g rows
all-stepped f g step one [] = omega arith
all-stepped f g step one (places ∷ rows) = by (occurs_at (stepped step places)) refl (all-stepped f g step one rows)
  where
    by : (b : Bool) → occurs_at (stepped step places) ≡ b → sum_by f (all_stepped step rows) ≤ sum_by g rows
        → sum_by f (cond b (stepped step places ∷ all_stepped step rows) (all_stepped step rows)) ≤ sum_by g (places ∷ rows)
    by true some rest = omega (arith, sum_by-cons f (stepped step places) (all_stepped step rows), sum_by-cons g places rows, one places some)
    by false none rest = omega (arith, sum_by-cons g places rows)

pub reaches-stepped : (step : Step) (rows : List Places) → sum_by reach_of (all_stepped step rows) ≤ sum_by reach_of rows
reaches-stepped step rows = all-stepped reach_of reach_of step (λ places some.
    let less = reach-stepped unsigned_abs absolute_of 0 weights-costs weights-bounded step places in omega arith) rows

abbrev pub left_in : List Places → ℕ
left_in rows = sum_by left_of rows

-- less is left after a step that some record takes
pub left_in-stepped : (step : Step) (rows : List Places) → left_in (all_stepped step rows) + length (all_stepped step rows) ≤ left_in rows
left_in-stepped step rows = omega (arith, one_more (all_stepped step rows), all-stepped (λ places. left_of places + 1) left_of step each rows)
  where
    one_more : (rs : List Places) → left_in rs + length rs ≡ sum_by (λ (places : Places). left_of places + 1) rs
    one_more [] = refl
    one_more (r ∷ rs) = omega (arith, one_more rs, sum_by-cons left_of r rs, sum_by-cons (λ (places : Places). left_of places + 1) r rs)

    each : (places : Places) → occurs_at (stepped step places) ≡ true → left_of (stepped step places) + 1 ≤ left_of places
    each places some = omega (arith, left-stepped step places, left-begun (stepped step places) (IsBegun-stepped step places some))
