-- Places of values and cells, and the nodes of a set's list.
use Rattle.std.proofs.Common.{◌≡◌, ℕ, zero, suc, ◌<◌, ◌≤◌, ◌+◌, Bool, true, false, cond, not, nat_lt, int_lt, ◌&&◌, ℤ, pos, negsuc, ◌+ℤ◌, ◌≤ℤ◌}
use Rattle.std.proofs.Common.{unsigned_abs, List, [], ◌∷◌, ◌++◌, map, take, drop, length, get_or, insert, refl, sym, ap, ◌∙◌, subst, arith, one-add}
use Rattle.std.proofs.Common.{sum_by}
use Rattle.std.specs.List.{AllByRecursion, position_or_len, list_all}
use Rattle.std.proofs.lemmas.Bool.{lt-ltb, le-ltb}
use Rattle.std.proofs.lemmas.Int.{ints}
use Rattle.std.proofs.lemmas.List.{drop_more, get_or-map, length-map}
use Rattle.std.specs.declared.vec.Vec.{Vec}
use Rattle.std.specs.declared.alloc.Global.{Global}
use Rattle.std.proofs.lemmas.List.Sums.{sum_by-cons}
use Rattle.hu_kind.specs.Database.{utility}
use Rattle.hu_kind.specs.Order.{Ascend}
use Rattle.hu_kind.specs.Record.{holds, values_of, positive_part, items_in}
use Rattle.hu_kind.proofs.lemmas.Ascending.{each-ascending}
use Rattle.hu_kind.proofs.lemmas.Earned.{positive_part-upper, positive_part-within}
use Rattle.hu_totals.specs.declared.ranked.Dense.{Dense}
use Rattle.hu_totals.specs.Ranked.{Ranking, IsRanking}
use Rattle.hu_totals.specs.View.{dense_pair, pairs_in}
use Rattle.hu_list.specs.declared.list.Node.{Node}
use Rattle.hu_list.specs.Nodes.{rest_after, nodes_from, weight_of}
use Rattle.hu_list.proofs.lemmas.Windows.{Window, window-here, window-next, window-all}
use Rattle.hu_lengths.specs.Bound.{later_values, values_after, put, falling, sum_of, sized_most, sized_bound, most_at, most_of, IsNodeAt, IsList, IsSizedBound}
use Rattle.hu_lengths.specs.Bound.{BoundsSized}
use Rattle.hu_lengths.proofs.GreatestLemmas.{first_sum, falling-least, first_sum-least, first_sum-within, sum_of-falling, take-put}
use Rattle.hu_lengths.proofs.BoundLemmas.{later_values-last, values_after-least, utility-bounded}

-- ---- places of values

pub insert-put : (v : ℤ) (xs : List ℤ) → insert xs (position_or_len (λ other. int_lt other v) xs) v ≡ put v xs
insert-put v [] = refl
insert-put v (x ∷ xs) = by (int_lt x v) (insert-put v xs)
  where
    by : (b : Bool) → insert xs (position_or_len (λ other. int_lt other v) xs) v ≡ put v xs
        → insert (x ∷ xs) (cond (not b) (1 + position_or_len (λ other. int_lt other v) xs) 0) v ≡ cond b (v ∷ x ∷ xs) (x ∷ put v xs)
    by true rest = refl
    by false rest = rw one-add (ap (λ t. x ∷ t) rest)

pub first_sum-next : (xs : List ℤ) (i : ℕ) (d : ℤ) → i < length xs → first_sum (suc i) xs ≡ (first_sum i xs +ℤ get_or xs i d)
first_sum-next [] i d within = absurd (omega arith)
first_sum-next (x ∷ xs) zero d within = omega (arith, ints)
first_sum-next (x ∷ xs) (suc i) d within = let rest = first_sum-next xs i d (omega arith) in omega (arith, ints, rest)

-- ---- cells from the last back

skip : (last : ℕ) (cell : Dense) (cells : List Dense) → cell.rank ≤ last
    → values_after last (map dense_pair (cell ∷ cells)) ≡ values_after last (map dense_pair cells)
skip last cell cells low = let no : nat_lt last cell.rank ≡ false = le-ltb last cell.rank low in rw no refl

rank-above : (low : ℕ) (cells : List Dense) (i : ℕ) (d : Dense) → AllByRecursion (λ y. low < y) (items_in (map dense_pair cells)) → i < length cells
    → low < (get_or cells i d).rank
rank-above low [] i d all within = absurd (omega arith)
rank-above low (cell ∷ cells) zero d all within = all.0
rank-above low (cell ∷ cells) (suc i) d all within = rank-above low cells i d all.1 (omega arith)

-- those up to one that isn't later have no values after the rank
pub values_after-drop : (last : ℕ) (cells : List Dense) (k : ℕ) (d : Dense) → Ascend (items_in (map dense_pair cells)) → k < length cells
    → (get_or cells k d).rank ≤ last → values_after last (map dense_pair cells) ≡ values_after last (map dense_pair (drop (suc k) cells))
values_after-drop last [] k d up within low = absurd (omega arith)
values_after-drop last (cell ∷ cells) zero d up within low = skip last cell cells low
values_after-drop last (cell ∷ cells) (suc k) d up within low =
    let above = rank-above cell.rank cells k d up.0 (omega arith) in
    skip last cell cells (omega (arith, above, low)) ∙ values_after-drop last cells k d up.1 (omega arith) low

-- one cell more, which is later
pub greatest-next : (last room : ℕ) (cells : List Dense) (k : ℕ) (d : Dense) (old new : List ℤ) → k < length cells → last < (get_or cells k d).rank
    → old ≡ take room (falling (values_after last (map dense_pair (drop (k + 1) cells))))
    → new ≡ cond (int_lt (pos 0) (get_or cells k d).value) (take room (put (get_or cells k d).value old)) old
    → new ≡ take room (falling (values_after last (map dense_pair (drop k cells))))
greatest-next last room cells k d old new within later was is =
    let v = (get_or cells k d).value in
    let rest = values_after last (map dense_pair (drop (k + 1) cells)) in
    let here : nat_lt last (get_or cells k d).rank ≡ true = lt-ltb last (get_or cells k d).rank later in
    is
    ∙ ap (λ xs. cond (int_lt (pos 0) v) (take room (put v xs)) xs) was
    ∙ kept room v rest (int_lt (pos 0) v)
    ∙ ap (λ b. take room (falling (cond (b && int_lt (pos 0) v) (v ∷ []) [] ++ rest))) (sym here)
    ∙ ap (λ cs. take room (falling (values_after last (map dense_pair cs)))) (sym (drop_more cells k d within))
  where
    kept : (room : ℕ) (v : ℤ) (rest : List ℤ) (b : Bool)
        → cond b (take room (put v (take room (falling rest)))) (take room (falling rest)) ≡ take room (falling (cond b (v ∷ []) [] ++ rest))
    kept room v rest true = take-put room v (falling rest)
    kept room v rest false = refl

pub record-at : (records : List (Vec Dense Global)) (place : ℕ) (d : Vec Dense Global) → place < length (map pairs_in records)
    → get_or (map pairs_in records) place [] ≡ pairs_in (get_or records place d)
record-at records place d within = get_or-map pairs_in records place d [] (omega (arith, within, length-map records pairs_in))

-- ---- the nodes of a list

part-value : (v : ℤ) → int_lt (pos 0) v ≡ true → positive_part v ≡ v
part-value (pos n) h = refl
part-value (negsuc n) h = absurd (grind (arith, ints))

part-none : (v : ℤ) → int_lt (pos 0) v ≡ false → positive_part v ≡ pos 0
part-none (pos n) h = let low : pos n ≤ℤ pos 0 = grind (arith, ints) in omega (arith, ints, low)
part-none (negsuc n) h = refl

rest-values : (set : List ℕ) (cells : List (ℕ × ℤ)) → rest_after set cells ≡ sum_of (later_values set cells)
rest-values set [] = refl
rest-values set (cell ∷ cells) = by (list_all (λ rank. nat_lt rank cell.0) set) (int_lt (pos 0) cell.1) refl (rest-values set cells)
  where
    by : (b c : Bool) → int_lt (pos 0) cell.1 ≡ c → rest_after set cells ≡ sum_of (later_values set cells)
        → (cond b (positive_part cell.1) (pos 0) +ℤ rest_after set cells) ≡ sum_of (cond (b && c) (cell.1 ∷ []) [] ++ later_values set cells)
    by true true h rest = λ j. part-value cell.1 h j +ℤ rest j
    by true false h rest = let none = part-none cell.1 h in omega (arith, ints, none, rest)
    by false c h rest = omega (arith, ints, rest)

module _ (all : List (List (ℕ × ℤ))) (before : List ℕ) (last : ℕ) (up : Ascend (before ++ last ∷ [])) where
  nodes-from : (place : ℕ) (records : List (List (ℕ × ℤ))) → Window all place records → AllByRecursion (λ cells. Ascend (items_in cells)) records
      → AllByRecursion (IsNodeAt all last) (nodes_from place records (before ++ last ∷ []))
  nodes-from place [] w rise = tt
  nodes-from place (cells ∷ records) w rise = by (holds (before ++ last ∷ []) cells) (nodes-from (place + 1) records (window-next w) rise.1)
    where
      node : Node
      node = record { place = place; own = values_of (before ++ last ∷ []) cells; rest = rest_after (before ++ last ∷ []) cells }

      here : get_or all place [] ≡ cells
      here = window-here w

      is : IsNodeAt all last (record { place = place; own = values_of (before ++ last ∷ []) cells; rest = rest_after (before ++ last ∷ []) cells })
      is = record {
        within = let fits = w.fits in omega (arith, fits);
        ascending = subst (λ cs. Ascend (items_in cs)) (sym (window-here w)) rise.0;
        rest = rest-values (before ++ last ∷ []) cells ∙ ap sum_of (later_values-last before last cells up)
            ∙ ap (λ cs. sum_of (values_after last cs)) (sym (window-here w));
      }

      by : (b : Bool) → AllByRecursion (IsNodeAt all last) (nodes_from (place + 1) records (before ++ last ∷ []))
          → AllByRecursion (IsNodeAt all last)
          (cond b (record {
            place = place;
            own = values_of (before ++ last ∷ []) cells;
            rest =
                rest_after (before ++ last ∷ []) cells;
          } ∷ []) [] ++ nodes_from (place + 1) records (before ++ last ∷ []))
      by true rest = (is, rest)
      by false rest = rest

  most_of-from : (room place : ℕ) (records : List (List (ℕ × ℤ))) → Window all place records
      → most_of all last room (nodes_from place records (before ++ last ∷ [])) ≡ sized_bound records (before ++ last ∷ []) room
  most_of-from room place [] w = refl
  most_of-from room place (cells ∷ records) w = by (holds (before ++ last ∷ []) cells) (most_of-from room (place + 1) records (window-next w))
    where
      same : values_after last (get_or all place []) ≡ later_values (before ++ last ∷ []) cells
      same = ap (values_after last) (window-here w) ∙ sym (later_values-last before last cells up)

      by : (b : Bool) → most_of all last room (nodes_from (place + 1) records (before ++ last ∷ [])) ≡ sized_bound records (before ++ last ∷ []) room
          → most_of all last room
          (cond b (record {
            place = place;
            own = values_of (before ++ last ∷ []) cells;
            rest =
                rest_after (before ++ last ∷ []) cells;
          } ∷ []) [] ++ nodes_from (place + 1) records (before ++ last ∷ []))
          ≡ (cond b (sized_most (before ++ last ∷ []) room cells) (pos 0) +ℤ sized_bound records (before ++ last ∷ []) room)
      by true rest = λ j. positive_part (values_of (before ++ last ∷ []) cells +ℤ sum_of (take room (falling (same j)))) +ℤ rest j
      by false rest = omega (arith, ints, rest)

pub nodes-at : (r : Ranking) → IsRanking r → (nodes : List Node) (last : ℕ) → IsList r nodes last → AllByRecursion (IsNodeAt r.records last) nodes
nodes-at r rules nodes last (set, list) =
    let up : Ascend (list.before ++ last ∷ []) = subst Ascend list.ends list.ascending in
    subst (AllByRecursion (IsNodeAt r.records last)) (sym (list.is ∙ ap (nodes_from 0 r.records) list.ends))
    (nodes-from r.records list.before last up 0 r.records (window-all r.records) (each-ascending r.records rules.ascending))

pub most_of-list : (r : Ranking) (nodes : List Node) (last room : ℕ) → IsSizedBound r nodes last room (most_of r.records last room nodes)
most_of-list r nodes last room set list =
    let up : Ascend (list.before ++ last ∷ []) = subst Ascend list.ends list.ascending in
    ap (most_of r.records last room) (list.is ∙ ap (nodes_from 0 r.records) list.ends)
    ∙ most_of-from r.records list.before last up room 0 r.records (window-all r.records)
    ∙ ap (λ s. sized_bound r.records s room) (sym list.ends)

pub bounds-sized : (r : Ranking) → IsRanking r → (nodes : List Node) (last room : ℕ) (bound : ℤ) → IsSizedBound r nodes last room bound
    → BoundsSized r nodes last room bound
bounds-sized r rules nodes last room bound is set more list up few =
    let ends : Ascend (list.before ++ last ∷ []) = subst Ascend list.ends list.ascending in
    let under = utility-bounded list.before more last room (subst (λ s. Ascend (s ++ more)) list.ends up) ends few r.records
    (each-ascending r.records rules.ascending) in
    let value : bound ≡ sized_bound r.records (list.before ++ last ∷ []) room = is set list ∙ ap (λ s. sized_bound r.records s room) list.ends in
    subst (λ s. utility r.records (s ++ more) ≤ℤ bound) (sym list.ends) (omega (arith, ints, under, value))

-- ---- sums at nodes

pub greatest-within : (last room : ℕ) (cells : List (ℕ × ℤ)) → (pos 0 ≤ℤ first_sum room (falling (values_after last cells)))
    × (first_sum room (falling (values_after last cells)) ≤ℤ sum_of (values_after last cells))
greatest-within last room cells =
    let values = values_after last cells in
    let least = falling-least values (values_after-least last cells) in
    let within = first_sum-within room (falling values) least in
    (first_sum-least room (falling values) least, omega (arith, ints, within, sum_of-falling values))

-- the values that are kept at a node: their sum is what counts there, and it is within the node's rest
pub record IsBest (records : List (List (ℕ × ℤ))) (last room : ℕ) (node : Node) (best : List ℤ) : Type 0 where
  pub is : sum_of best ≡ first_sum room (falling (values_after last (get_or records node.place [])))
  pub least : pos 0 ≤ℤ sum_of best
  pub within : sum_of best ≤ℤ node.rest

pub best-is : (records : List (Vec Dense Global)) (last room : ℕ) (node : Node) (cells : Vec Dense Global) (slice : List Dense) (best : List ℤ)
    → IsNodeAt (map pairs_in records) last node → cells ≡ get_or records node.place cells → slice ≡ cells.items
    → best ≡ take room (falling (values_after last (map dense_pair slice))) → IsBest (map pairs_in records) last room node best
best-is records last room node cells slice best at here same kept =
    let pairs : pairs_in cells ≡ get_or (map pairs_in records) node.place [] = ap pairs_in here ∙ sym (record-at records node.place cells at.within) in
    let is = ap sum_of kept ∙ ap (λ cs. first_sum room (falling (values_after last cs))) (ap (map dense_pair) same ∙ pairs) in
    let both = greatest-within last room (get_or (map pairs_in records) node.place []) in
    let rest = at.rest in
    record { is = is; least = omega (arith, ints, is, both.0); within = omega (arith, ints, is, both.1, rest) }

most_at-within : (records : List (List (ℕ × ℤ))) (last room : ℕ) (node : Node) → IsNodeAt records last node
    → (pos 0 ≤ℤ most_at records last room node) × (unsigned_abs (most_at records last room node) ≤ weight_of node)
most_at-within records last room node at =
    let cells = get_or records node.place [] in
    let best = first_sum room (falling (values_after last cells)) in
    let both = greatest-within last room cells in
    let rest = at.rest in
    let part = positive_part-within (node.own +ℤ best) in
    ((positive_part-upper (node.own +ℤ best)).1, omega (arith, ints, both.0, both.1, rest, part))

pub most_of-within : (records : List (List (ℕ × ℤ))) (last room : ℕ) (nodes : List Node) (i : ℕ) → AllByRecursion (IsNodeAt records last) nodes
    → (pos 0 ≤ℤ most_of records last room (take i nodes)) × (unsigned_abs (most_of records last room (take i nodes)) ≤ sum_by weight_of nodes)
most_of-within records last room nodes zero all = (omega (arith, ints), omega arith)
most_of-within records last room [] (suc i) all = (omega (arith, ints), omega arith)
most_of-within records last room (node ∷ nodes) (suc i) all =
    let here = most_at-within records last room node all.0 in
    let rest = most_of-within records last room nodes i all.1 in
    (omega (arith, ints, here.0, rest.0), omega (arith, ints, here.0, here.1, rest.0, rest.1, sum_by-cons weight_of node nodes))

pub most_of-next : (records : List (List (ℕ × ℤ))) (last room : ℕ) (nodes : List Node) (i : ℕ) (d : Node) → i < length nodes
    → most_of records last room (take (suc i) nodes) ≡ (most_of records last room (take i nodes) +ℤ most_at records last room (get_or nodes i d))
most_of-next records last room [] i d within = absurd (omega arith)
most_of-next records last room (node ∷ nodes) zero d within = omega (arith, ints)
most_of-next records last room (node ∷ nodes) (suc i) d within =
    let rest = most_of-next records last room nodes i d (omega arith) in omega (arith, ints, rest)
