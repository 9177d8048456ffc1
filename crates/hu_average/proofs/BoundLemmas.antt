-- No set that holds a set earns more for each of its items than the set's bound.
use Rattle.std.proofs.Common.{◌≡◌, ℕ, zero, suc, ◌<◌, ◌+◌, ◌^◌, Bool, true, false, cond, eqb, ℤ, pos, ◌+ℤ◌, ◌≤ℤ◌, ◌*ℤ◌, unsigned_abs, List, [], ◌∷◌, ◌++◌}
use Rattle.std.proofs.Common.{map, take, length, get_or, sum_by, refl, sym, ap, ◌∙◌, subst, arith, inl, inr, Contains, add-one}
use Rattle.std.specs.Int.{int_max}
use Rattle.std.specs.List.{AllByRecursion}
use Rattle.std.proofs.lemmas.Bool.{and_parts, and_from}
use Rattle.std.proofs.lemmas.Int.{ints, clamps}
use Rattle.std.proofs.lemmas.List.Sums.{sum_by-cons}
use Rattle.std.proofs.Math.IntN.{*ℤ-zero}
use Rattle.hu_kind.proofs.lemmas.Each.{each-get}
use Rattle.hu_kind.specs.Record.{has, holds, value_of, values_of, utility_in, absolute_of}
use Rattle.hu_kind.proofs.lemmas.Members.{Member, Member-from_contains}
use Rattle.hu_totals.specs.declared.ranked.Dense.{Dense}
use Rattle.hu_totals.specs.Ranked.{Ranking}
use Rattle.hu_totals.specs.View.{dense_pair}
use Rattle.hu_list.specs.declared.list.Node.{Node}
use Rattle.hu_list.specs.Nodes.{rest_after, nodes_from}
use Rattle.hu_list.proofs.lemmas.Windows.{Window, window-here, window-next, window-all}
use Rattle.hu_average.specs.Order.{times-add, times-suc}
use Rattle.hu_average.specs.Bound.{greatest, average_bound, BoundsAverage, greatest_over, IsSomeList, IsAverageBound, BoundsList}

-- ---- in a record

pub greatest-least : (cells : List (ℕ × ℤ)) → pos 0 ≤ℤ greatest cells
greatest-least [] = omega (arith, ints)
greatest-least (cell ∷ cells) = let rest = greatest-least cells in omega (arith, ints, clamps, rest)

value_of-greatest : (item : ℕ) (cells : List (ℕ × ℤ)) → value_of item cells ≤ℤ greatest cells
value_of-greatest item [] = omega (arith, ints)
value_of-greatest item (cell ∷ cells) = by (eqb item cell.0) (value_of-greatest item cells)
  where
    by : (b : Bool) → value_of item cells ≤ℤ greatest cells → cond b cell.1 (value_of item cells) ≤ℤ int_max cell.1 (greatest cells)
    by true ih = omega (arith, ints, clamps)
    by false ih = omega (arith, ints, clamps, ih)

values_of-greatest : (more : List ℕ) (cells : List (ℕ × ℤ)) → values_of more cells ≤ℤ (greatest cells *ℤ pos (length more))
values_of-greatest [] cells = let none = *ℤ-zero (greatest cells) in omega (arith, ints, none)
values_of-greatest (item ∷ items) cells =
    let here = value_of-greatest item cells in
    let rest = values_of-greatest items cells in
    let next = times-suc (greatest cells) (length items) in
    omega (arith, ints, here, rest, next)

times-positive : (a : ℤ) (n : ℕ) → pos 0 ≤ℤ a → pos 0 ≤ℤ (a *ℤ pos n)
times-positive a zero h = let none = *ℤ-zero a in omega (arith, ints, none)
times-positive a (suc n) h = let rest = times-positive a n h in let next = times-suc a n in omega (arith, ints, rest, next, h)

-- what holds a set holds its parts
has-of_member : (item : ℕ) (more : List ℕ) (cells : List (ℕ × ℤ)) → Member item more → holds more cells ≡ true → has item cells ≡ true
has-of_member item [] cells m h = absurd m
has-of_member item (x ∷ xs) cells (inl same) h = subst (λ i. has i cells ≡ true) same (and_parts (has x cells) (holds xs cells) h).0
has-of_member item (x ∷ xs) cells (inr m) h = has-of_member item xs cells m (and_parts (has x cells) (holds xs cells) h).1

pub holds-part : (set more : List ℕ) (cells : List (ℕ × ℤ)) → AllByRecursion (Contains more) set → holds more cells ≡ true → holds set cells ≡ true
holds-part [] more cells all h = refl
holds-part (item ∷ items) more cells all h =
    and_from (has item cells) (holds items cells) (has-of_member item more cells (Member-from_contains item more all.0) h)
    (holds-part items more cells all.1 h)

in_record : (set more : List ℕ) (cells : List (ℕ × ℤ)) → AllByRecursion (Contains more) set
    → utility_in more cells ≤ℤ (cond (holds set cells) (greatest cells) (pos 0) *ℤ pos (length more))
in_record set more cells all = by (holds more cells) refl (holds set cells) refl
  where
    by : (b : Bool) → holds more cells ≡ b → (c : Bool) → holds set cells ≡ c
        → cond b (values_of more cells) (pos 0) ≤ℤ (cond c (greatest cells) (pos 0) *ℤ pos (length more))
    by true h true k = values_of-greatest more cells
    by true h false k = let held = holds-part set more cells all h in cc
    by false h true k = times-positive (greatest cells) (length more) (greatest-least cells)
    by false h false k = times-positive (pos 0) (length more) (omega (arith, ints))

pub bounds-average : (records : List (List (ℕ × ℤ))) (set : List ℕ) → BoundsAverage records set (average_bound records set)
bounds-average [] set more all = times-positive (pos 0) (length more) (omega (arith, ints))
bounds-average (cells ∷ records) set more all =
    let here = in_record set more cells all in
    let rest = bounds-average records set more all in
    let sum = times-add (cond (holds set cells) (greatest cells) (pos 0)) (average_bound records set) (length more) in
    omega (arith, ints, here, rest, sum)

-- ---- over the cells

pub greatest-next : (cells : List Dense) (i : ℕ) (d : Dense) → i < length cells
    → greatest (map dense_pair (take (suc i) cells)) ≡ int_max (get_or cells i d).value (greatest (map dense_pair (take i cells)))
greatest-next [] i d within = absurd (omega arith)
greatest-next (cell ∷ cells) zero d within = refl
greatest-next (cell ∷ cells) (suc i) d within = let rest = greatest-next cells i d (omega arith) in omega (arith, ints, clamps, rest)

pub greatest-within : (cells : List (ℕ × ℤ)) → greatest cells ≤ℤ pos (absolute_of cells)
greatest-within [] = omega (arith, ints)
greatest-within (cell ∷ cells) =
    let rest = greatest-within cells in
    let least = greatest-least cells in
    let sum = sum_by-cons (λ c. unsigned_abs c.1) cell cells in
    omega (arith, ints, clamps, rest, least, sum)

-- ---- over the nodes of a list

module _ (all : List (List (ℕ × ℤ))) (set : List ℕ) where
  -- the nodes of one record
  abbrev here : ℕ → List (ℕ × ℤ) → Node
  here place cells = record { place = place; own = values_of set cells; rest = rest_after set cells }

  value-from : (place : ℕ) (records : List (List (ℕ × ℤ))) → Window all place records
      → greatest_over all (nodes_from place records set) ≡ average_bound records set
  value-from place [] w = refl
  value-from place (cells ∷ records) w = by (holds set cells) (value-from (place + 1) records (window-next w))
    where
      by : (b : Bool) → greatest_over all (nodes_from (place + 1) records set) ≡ average_bound records set
          → greatest_over all (cond b (record { place = place; own = values_of set cells; rest = rest_after set cells } ∷ []) [] ++ nodes_from
          (place + 1) records set)
          ≡ (cond b (greatest cells) (pos 0) +ℤ average_bound records set)
      by true ih = λ j. greatest (window-here w j) +ℤ ih j
      by false ih = omega (arith, ints, ih)

  places-from : (place : ℕ) (records : List (List (ℕ × ℤ))) → Window all place records
      → AllByRecursion (λ node. node.place < length all) (nodes_from place records set)
  places-from place [] w = tt
  places-from place (cells ∷ records) w = by (holds set cells) (places-from (place + 1) records (window-next w))
    where
      by : (b : Bool) → AllByRecursion (λ node. node.place < length all) (nodes_from (place + 1) records set)
          → AllByRecursion (λ node. node.place < length all) (cond b
          (record { place = place; own = values_of set cells; rest = rest_after set cells } ∷ []) [] ++ nodes_from (place + 1) records set)
      by true ih = (let fits = w.fits in omega (arith, fits), ih)
      by false ih = ih

  sums-from : (i place : ℕ) (records : List (List (ℕ × ℤ))) → Window all place records
      → (pos 0 ≤ℤ greatest_over all (take i (nodes_from place records set))) × (greatest_over all (take i (nodes_from place records set)) ≤ℤ pos
      (sum_by absolute_of records))
  sums-from zero place records w = (omega (arith, ints), omega (arith, ints))
  sums-from (suc i) place [] w = (omega (arith, ints), omega (arith, ints))
  sums-from (suc i) place (cells ∷ records) w =
      by (holds set cells) (sums-from i (place + 1) records (window-next w)) (sums-from (suc i) (place + 1) records (window-next w))
    where
      by : (b : Bool)
          → (pos 0 ≤ℤ greatest_over all (take i (nodes_from (place + 1) records set)))
          × (greatest_over all (take i (nodes_from (place + 1) records set)) ≤ℤ pos (sum_by absolute_of records))
          → (pos 0 ≤ℤ greatest_over all (take (suc i) (nodes_from (place + 1) records set)))
          × (greatest_over all (take (suc i) (nodes_from (place + 1) records set)) ≤ℤ pos (sum_by absolute_of records))
          → (pos 0 ≤ℤ greatest_over all (take (suc i) (cond b
          (record { place = place; own = values_of set cells; rest = rest_after set cells } ∷ []) [] ++ nodes_from (place + 1) records set)))
          × (greatest_over all (take (suc i) (cond b
          (record { place = place; own = values_of set cells; rest = rest_after set cells } ∷ []) [] ++ nodes_from
          (place + 1) records set)) ≤ℤ pos (sum_by absolute_of (cells ∷ records)))
      by true ih other =
          let same = ap greatest (window-here w) in
          let least = greatest-least cells in let most = greatest-within cells in let sum = sum_by-cons absolute_of cells records in
          (omega (arith, ints, same, least, ih.0), omega (arith, ints, same, most, sum, ih.1))
      by false ih other = let sum = sum_by-cons absolute_of cells records in (other.0, omega (arith, ints, sum, other.1))

-- the nodes of a list of a set of ranks: their places are those of records, and what they come to fits
pub record AreNodes (records : List (List (ℕ × ℤ))) (nodes : List Node) : Type 0 where
  pub places : AllByRecursion (λ node. node.place < length records) nodes
  pub least : (i : ℕ) → pos 0 ≤ℤ greatest_over records (take i nodes)
  pub most : (i : ℕ) → greatest_over records (take i nodes) ≤ℤ pos (sum_by absolute_of records)

pub are-nodes : (r : Ranking) (nodes : List Node) → IsSomeList r nodes → AreNodes r.records nodes
are-nodes r nodes (set, is) = subst (AreNodes r.records) (sym is) (record {
  places = places-from r.records set 0 r.records (window-all r.records);
  least = λ i. (sums-from r.records set i 0 r.records (window-all r.records)).0;
  most = λ i. (sums-from r.records set i 0 r.records (window-all r.records)).1;
})

pub is-bound : (r : Ranking) (nodes : List Node) → IsAverageBound r nodes (greatest_over r.records nodes)
is-bound r nodes set is = ap (greatest_over r.records) is ∙ value-from r.records set 0 r.records (window-all r.records)

pub bounds-list : (r : Ranking) (nodes : List Node) → BoundsList r nodes (greatest_over r.records nodes)
bounds-list r nodes set is = subst (BoundsAverage r.records set) (sym (is-bound r nodes set is)) (bounds-average r.records set)

pub greatest_over-next : (records : List (List (ℕ × ℤ))) (nodes : List Node) (i : ℕ) (d : Node) → i < length nodes
    → greatest_over records (take (suc i) nodes) ≡ (greatest_over records (take i nodes) +ℤ greatest (get_or records (get_or nodes i d).place []))
greatest_over-next records [] i d within = absurd (omega arith)
greatest_over-next records (node ∷ nodes) zero d within = omega (arith, ints)
greatest_over-next records (node ∷ nodes) (suc i) d within = let rest = greatest_over-next records nodes i d (omega arith) in omega (arith, ints, rest)

-- one node more, by a sum so far and the greatest value of its record
pub sum-step : (records : List (List (ℕ × ℤ))) (nodes : List Node) (i : ℕ) (d : Node) → AreNodes records nodes → sum_by absolute_of records < 2 ^ 127
    → i < length nodes
    → (sum value : ℤ) → sum ≡ greatest_over records (take i nodes) → value ≡ greatest (get_or records (get_or nodes i d).place [])
    → (unsigned_abs (sum +ℤ value) < 2 ^ 127) × ((sum +ℤ value) ≡ greatest_over records (take (i + 1) nodes))
sum-step records nodes i d all fits within sum value so here =
    let next = greatest_over-next records nodes i d within in
    let least = all.least (suc i) in
    let most = all.most (suc i) in
    let same : (sum +ℤ value) ≡ greatest_over records (take (suc i) nodes) = omega (arith, ints, next, so, here) in
    (omega (arith, ints, same, least, most, fits), rw add-one same)

pub place-within : (records : List (List (ℕ × ℤ))) (nodes : List Node) (i : ℕ) (d : Node) → AreNodes records nodes → i < length nodes
    → (get_or nodes i d).place < length records
place-within records nodes i d all within = each-get (λ node. node.place < length records) nodes i d all.places within
