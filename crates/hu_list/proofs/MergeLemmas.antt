-- The list of a set joined with two later ranks is the merge of three lists.
use Rattle.std.proofs.Common.{◌≡◌, ℕ, suc, ◌<◌, ◌≤◌, ◌+◌, ◌^◌, Bool, true, false, cond, eqb, ltb, ◌&&◌, ℤ, pos, ◌+ℤ◌, ◌-ℤ◌, unsigned_abs, Option, Some, None}
use Rattle.std.proofs.Common.{List, [], ◌∷◌, ◌++◌, refl, sym, ap, ◌∙◌, subst, inl, inr, arith, sum_by, option_to_list}
use Rattle.std.specs.List.{AllByRecursion, list_all}
use Rattle.std.proofs.lemmas.Bool.{cases_lt, lt-ltb, le-ltb, ne_eqb, eq-eqb}
use Rattle.std.proofs.lemmas.Int.{ints}
use Rattle.std.proofs.lemmas.List.Sums.{sum_by-cons}
use Rattle.hu_kind.specs.Record.{has, holds, values_of, items_in, positive_part, absolute_of}
use Rattle.hu_kind.specs.Order.{Ascend}
use Rattle.hu_kind.proofs.lemmas.Ascending.{each-ascending, Ascend-right}
use Rattle.hu_kind.proofs.lemmas.Occurring.{holds-append, values_of-append}
use Rattle.hu_list.specs.declared.list.Node.{Node}
use Rattle.hu_list.specs.Nodes.{rest_after, node_of, nodes_from, list_of, weight_of}
use Rattle.hu_list.specs.Joins.{from_place, first_own, joined_node, merged, nodes_before, Fits, AllFit, IsPrefix, Joins}
use Rattle.hu_list.proofs.SetLemmas.{weight-within}
use Rattle.hu_list.proofs.ListLemmas.{weight-list}

-- ---- nodes by their places

each-nodes_from : (low place : ℕ) (records : List (List (ℕ × ℤ))) (set : List ℕ) → low ≤ place
    → AllByRecursion (λ node. low ≤ node.place) (nodes_from place records set)
each-nodes_from low place [] set below = tt
each-nodes_from low place (cells ∷ records) set below = by (holds set cells) (each-nodes_from low (place + 1) records set (omega arith))
  where
    by : (b : Bool) → AllByRecursion (λ node. low ≤ node.place) (nodes_from (place + 1) records set)
        → AllByRecursion (λ node. low ≤ node.place) (cond b (node_of set place cells ∷ []) [] ++ nodes_from (place + 1) records set)
    by true ih = (below, ih)
    by false ih = ih

later : (place : ℕ) (records : List (List (ℕ × ℤ))) (set : List ℕ) → AllByRecursion (λ node. suc place ≤ node.place) (nodes_from (place + 1) records set)
later place records set = each-nodes_from (suc place) (place + 1) records set (omega arith)

from_place-here : (place : ℕ) (nodes : List Node) → AllByRecursion (λ node. place ≤ node.place) nodes → from_place place nodes ≡ nodes
from_place-here place [] all = refl
from_place-here place (node ∷ nodes) all = let test : ltb node.place place ≡ false = le-ltb node.place place all.0 in rw test refl

-- a node before all of the second list's changes nothing
merged-skip_before : (n : Node) (before xs ys : List Node) → AllByRecursion (λ y. suc n.place ≤ y.place) ys → merged (n ∷ before) xs ys ≡ merged before xs ys
merged-skip_before n before xs [] all = refl
merged-skip_before n before xs (y ∷ ys) all = let test : ltb n.place y.place ≡ true = lt-ltb n.place y.place all.0 in rw test refl

merged-skip : (n : Node) (before xs ys : List Node) → AllByRecursion (λ y. suc n.place ≤ y.place) ys → merged before (n ∷ xs) ys ≡ merged before xs ys
merged-skip n before xs [] all = refl
merged-skip n before xs (y ∷ ys) all = let test : ltb n.place y.place ≡ true = lt-ltb n.place y.place all.0 in rw test refl

AllFit-skip_before : (n : Node) (before xs ys : List Node) → AllByRecursion (λ y. suc n.place ≤ y.place) ys → AllFit before xs ys → AllFit (n ∷ before) xs ys
AllFit-skip_before n before xs [] all fit = tt
AllFit-skip_before n before xs (y ∷ ys) all fit = let test : ltb n.place y.place ≡ true = lt-ltb n.place y.place all.0 in rw test fit

AllFit-skip : (n : Node) (before xs ys : List Node) → AllByRecursion (λ y. suc n.place ≤ y.place) ys → AllFit before xs ys → AllFit before (n ∷ xs) ys
AllFit-skip n before xs [] all fit = tt
AllFit-skip n before xs (y ∷ ys) all fit = let test : ltb n.place y.place ≡ true = lt-ltb n.place y.place all.0 in rw test fit

-- where the first list is past a place, nothing is joined there
joined_node-past : (before xs : List Node) (y : Node) → AllByRecursion (λ node. suc y.place ≤ node.place) xs → joined_node before xs y ≡ None
joined_node-past before [] y all = refl
joined_node-past before (x ∷ xs) y all = let other : eqb x.place y.place ≡ false =
    ne_eqb x.place y.place (λ e. let low = all.0 in absurd (omega arith)) in rw other refl

Fits-past : (before xs : List Node) (y : Node) → AllByRecursion (λ node. suc y.place ≤ node.place) xs → Fits before xs y
Fits-past before [] y all = tt
Fits-past before (x ∷ xs) y all = λ e. let low = all.0 in absurd (omega arith)

-- ---- what stands after the joined set

list_all-joined : (P : List ℕ) (a b c : ℕ) → a < b → list_all (λ rank. ltb rank c) (P ++ b ∷ []) ≡ list_all (λ rank. ltb rank c) (P ++ a ∷ b ∷ [])
list_all-joined [] a b c below = elim (cases_lt b c) [
  | inl lt ↦ let one : ltb a c ≡ true = lt-ltb a c (omega arith) in rw one refl
  | inr ge ↦ let two : ltb b c ≡ false = le-ltb b c ge in rw two (by (ltb a c))
]
  where
    by : (t : Bool) → false ≡ (t && false)
    by true = refl
    by false = refl
list_all-joined (p ∷ P) a b c below = ap (λ t. ltb p c && t) (list_all-joined P a b c below)

rest_after-joined : (P : List ℕ) (a b : ℕ) (cells : List (ℕ × ℤ)) → a < b → rest_after (P ++ b ∷ []) cells ≡ rest_after (P ++ a ∷ b ∷ []) cells
rest_after-joined P a b [] below = refl
rest_after-joined P a b (cell ∷ cells) below =
    λ j. cond (list_all-joined P a b cell.0 below j) (positive_part cell.1) (pos 0)
    +ℤ rest_after-joined P a b cells below j

-- ---- a node joined of two

module _ (P : List ℕ) (a b : ℕ) (up : Ascend (P ++ a ∷ b ∷ [])) where
  below : a < b
  below = (Ascend-right P (a ∷ b ∷ []) up).0.0

  own-joined : (cells : List (ℕ × ℤ)) → (values_of (P ++ a ∷ []) cells -ℤ values_of P cells)
      +ℤ values_of (P ++ b ∷ []) cells ≡ values_of (P ++ a ∷ b ∷ []) cells
  own-joined cells =
      let one = values_of-append P (a ∷ []) cells in
      let two = values_of-append P (b ∷ []) cells in
      let both = values_of-append P (a ∷ b ∷ []) cells in
      omega (arith, ints, one, two, both)

  own-apart : (cells : List (ℕ × ℤ)) → values_of (P ++ a ∷ []) cells -ℤ values_of P cells ≡ values_of (a ∷ []) cells
  own-apart cells = let one = values_of-append P (a ∷ []) cells in omega (arith, ints, one)

  joined-fits : (cells : List (ℕ × ℤ)) → Ascend (items_in cells) → absolute_of cells < 2 ^ 127 → holds (a ∷ []) cells
      ≡ true → holds (P ++ a ∷ b ∷ []) cells ≡ true
      → (unsigned_abs (values_of (P ++ a ∷ []) cells -ℤ values_of P cells) < 2 ^ 127)
      × (unsigned_abs ((values_of (P ++ a ∷ []) cells -ℤ values_of P cells) +ℤ values_of (P ++ b ∷ []) cells) < 2 ^
      127)
  joined-fits cells rise small one all =
      let first = weight-within cells (a ∷ []) (tt, tt) rise one in
      let both = weight-within cells (P ++ a ∷ b ∷ []) up rise all in
      let apart = ap unsigned_abs (own-apart cells) in
      let joined = ap unsigned_abs (own-joined cells) in
      (omega (arith, first, apart, small), omega (arith, both, joined, small))

  -- the merge from a place on, and that it fits
  pub record Merges (place : ℕ) (records : List (List (ℕ × ℤ))) : Type 0 where
    pub is : merged (nodes_from place records P) (nodes_from place records (P ++ a ∷ []))
        (nodes_from place records (P ++ b ∷ [])) ≡ nodes_from place records (P ++ a ∷ b ∷ [])
    pub fit : AllFit (nodes_from place records P) (nodes_from place records (P ++ a ∷ [])) (nodes_from place records (P ++ b ∷ []))

  module _ (place : ℕ) (cells : List (ℕ × ℤ)) (records : List (List (ℕ × ℤ))) (rise : Ascend (items_in cells))
      (small : absolute_of cells < 2 ^ 127) (ih : Merges (place + 1) records) where
    abbrev prefix_nodes : List Node
    prefix_nodes = nodes_from (place + 1) records P

    abbrev first_nodes : List Node
    first_nodes = nodes_from (place + 1) records (P ++ a ∷ [])

    abbrev second_nodes : List Node
    second_nodes = nodes_from (place + 1) records (P ++ b ∷ [])

    abbrev joined_nodes : List Node
    joined_nodes = nodes_from (place + 1) records (P ++ a ∷ b ∷ [])

    past : AllByRecursion (λ node. suc place ≤ node.place) first_nodes
    past = later place records (P ++ a ∷ [])

    over : AllByRecursion (λ node. suc place ≤ node.place) second_nodes
    over = later place records (P ++ b ∷ [])

    here-xs : from_place place first_nodes ≡ first_nodes
    here-xs = from_place-here place first_nodes (each-nodes_from place (place + 1) records (P ++ a ∷ []) (omega arith))

    not_before : ltb place place ≡ false
    not_before = le-ltb place place (omega arith)

    -- by whether the record holds the prefix, and each of the two ranks
    Goal : Bool → Bool → Bool → Bool → Type 0
    Goal p x y j =
        (merged (cond p (node_of P place cells ∷ []) [] ++ prefix_nodes)
        (cond x (node_of (P ++ a ∷ []) place cells ∷ []) [] ++ first_nodes)
        (cond y (node_of (P ++ b ∷ []) place cells ∷ []) [] ++ second_nodes)
        ≡ cond j (node_of (P ++ a ∷ b ∷ []) place cells ∷ []) [] ++ joined_nodes)
        × AllFit (cond p (node_of P place cells ∷ []) [] ++ prefix_nodes)
        (cond x (node_of (P ++ a ∷ []) place cells ∷ []) [] ++ first_nodes)
        (cond y (node_of (P ++ b ∷ []) place cells ∷ []) [] ++ second_nodes)

    with_y-alone : Goal true false true false
    unfolding Goal
    with_y-alone =
        let none = joined_node-past (node_of P place cells ∷ prefix_nodes) first_nodes (node_of (P ++ b ∷ []) place cells) past in
        let fits = Fits-past (node_of P place cells ∷ prefix_nodes) first_nodes (node_of (P ++ b ∷ []) place cells) past in (
          rw (not_before, here-xs, none) (merged-skip_before (node_of P place cells) prefix_nodes first_nodes second_nodes over ∙ ih.is),
          rw (not_before, here-xs) (fits, AllFit-skip_before (node_of P place cells) prefix_nodes first_nodes second_nodes over ih.fit),
        )

    with_both : holds (a ∷ []) cells ≡ true → holds (P ++ a ∷ b ∷ []) cells ≡ true → Goal true true true true
    unfolding Goal
    with_both one all =
        let same : eqb place place ≡ true = eq-same place in
        let own = own-joined cells in
        let rest = rest_after-joined P a b cells below in
        let tail =
        merged-skip_before (node_of P place cells) prefix_nodes
        (node_of (P ++ a ∷ []) place cells ∷ first_nodes) second_nodes over
        ∙ merged-skip (node_of (P ++ a ∷ []) place cells) prefix_nodes first_nodes second_nodes over ∙ ih.is in
        let fit =
        AllFit-skip_before (node_of P place cells) prefix_nodes
        (node_of (P ++ a ∷ []) place cells ∷ first_nodes) second_nodes over
        (AllFit-skip (node_of (P ++ a ∷ []) place cells) prefix_nodes first_nodes second_nodes over ih.fit) in (
          rw (not_before, same) (λ j. (record { place = place; own = own j; rest = rest j }) ∷ tail j),
          rw not_before ((λ e. joined-fits cells rise small one all), fit),
        )
      where
        eq-same : (n : ℕ) → eqb n n ≡ true
        eq-same n = eq-eqb n n refl

    goal-by : (p x y : Bool) → holds P cells ≡ p → has a cells ≡ x → has b cells ≡ y → Goal p (p && (x && true)) (p && (y && true)) (p && (x && (y && true)))
    unfolding Goal
    goal-by false x y hp hx hy = (ih.is, ih.fit)
    goal-by true false false hp hx hy = (
      merged-skip_before (node_of P place cells) prefix_nodes first_nodes second_nodes over
          ∙ ih.is,
      AllFit-skip_before (node_of P place cells) prefix_nodes first_nodes second_nodes over ih.fit,
    )
    goal-by true true false hp hx hy = (
      merged-skip_before (node_of P place cells) prefix_nodes
          (node_of (P ++ a ∷ []) place cells ∷ first_nodes) second_nodes over
          ∙ merged-skip (node_of (P ++ a ∷ []) place cells) prefix_nodes first_nodes second_nodes over ∙ ih.is,
      AllFit-skip_before (node_of P place cells) prefix_nodes
          (node_of (P ++ a ∷ []) place cells ∷ first_nodes) second_nodes over
          (AllFit-skip (node_of (P ++ a ∷ []) place cells) prefix_nodes first_nodes second_nodes over ih.fit),
    )
    goal-by true false true hp hx hy = with_y-alone
    goal-by true true true hp hx hy =
        let one : holds (a ∷ []) cells ≡ true = ap (λ t. t && true) hx in
        let all : holds (P ++ a ∷ b ∷ []) cells ≡ true = holds-append P (a ∷ b ∷ []) cells ∙ (λ j. hp j && (hx j && (hy j && true))) in
        with_both one all

    merges-cons : Merges place (cells ∷ records)
    unfolding Goal
    merges-cons =
        let g = goal-by (holds P cells) (has a cells) (has b cells) refl refl refl in
        let hx = holds-append P (a ∷ []) cells in
        let hy = holds-append P (b ∷ []) cells in
        let hj = holds-append P (a ∷ b ∷ []) cells in
        record { is = rw (hx, hy, hj) g.0; fit = rw (hx, hy) g.1 }

  pub merges : (place : ℕ) (records : List (List (ℕ × ℤ))) → AllByRecursion (λ cells. Ascend (items_in cells)) records
      → AllByRecursion (λ cells. absolute_of cells < 2 ^ 127) records → Merges place records
  merges place [] rise small = record { is = refl; fit = tt }
  merges place (cells ∷ records) rise small = merges-cons place cells records rise.0 small.0 (merges (place + 1) records rise.1 small.1)

-- ---- no prefix is as the list of the empty set, in which all earn 0

no_own : (place : ℕ) (records : List (List (ℕ × ℤ))) → AllByRecursion (λ node. node.own ≡ pos 0) (nodes_from place records [])
no_own place [] = tt
no_own place (cells ∷ records) = (refl, no_own (place + 1) records)

each-from_place : (P : Node → Type 0) (place : ℕ) (nodes : List Node) → AllByRecursion P nodes → AllByRecursion P (from_place place nodes)
each-from_place P place [] all = tt
each-from_place P place (node ∷ nodes) all = by (ltb node.place place) (each-from_place P place nodes all.1)
  where
    by : (b : Bool) → AllByRecursion P (from_place place nodes) → AllByRecursion P (cond b (from_place place nodes) (node ∷ nodes))
    by true rest = rest
    by false rest = all

first_own-none : (nodes : List Node) → AllByRecursion (λ node. node.own ≡ pos 0) nodes → pos 0 ≡ first_own nodes
first_own-none [] all = refl
first_own-none (node ∷ nodes) all = sym all.0

joined_node-before : (before xs : List Node) (y : Node) → pos 0 ≡ first_own before → joined_node [] xs y ≡ joined_node before xs y
joined_node-before before [] y e = refl
joined_node-before before (x ∷ xs) y e = λ j. cond (eqb x.place y.place) (Some (record { place = y.place; own = (x.own -ℤ e j) +ℤ y.own; rest = y.rest })) None

Fits-before : (before xs : List Node) (y : Node) → pos 0 ≡ first_own before → Fits before xs y → Fits [] xs y
Fits-before before [] y e fits = tt
Fits-before before (x ∷ xs) y e fits =
    subst (λ o. x.place ≡ y.place → (unsigned_abs (x.own -ℤ o) < 2 ^ 127)
    × (unsigned_abs ((x.own -ℤ o) +ℤ y.own) < 2 ^ 127)) (sym e) fits

merged-before : (before xs ys : List Node) → AllByRecursion (λ node. node.own ≡ pos 0) before → merged [] xs ys ≡ merged before xs ys
merged-before before xs [] all = refl
merged-before before xs (y ∷ ys) all =
    let all' = each-from_place (λ node. node.own ≡ pos 0) y.place before all in
    let node = joined_node-before (from_place y.place before) (from_place y.place xs) y (first_own-none (from_place y.place before) all') in
    let ih = merged-before (from_place y.place before) (from_place y.place xs) ys all' in
    λ j. option_to_list (node j) ++ ih j

AllFit-before : (before xs ys : List Node) → AllByRecursion (λ node. node.own ≡ pos 0) before → AllFit before xs ys → AllFit [] xs ys
AllFit-before before xs [] all fit = tt
AllFit-before before xs (y ∷ ys) all fit =
    let all' = each-from_place (λ node. node.own ≡ pos 0) y.place before all in (
      Fits-before (from_place y.place before) (from_place y.place xs) y (first_own-none (from_place y.place before) all') fit.0,
      AllFit-before (from_place y.place before) (from_place y.place xs) ys all' fit.1,
    )

-- ---- the lists of a join

each-small : (records : List (List (ℕ × ℤ))) → sum_by absolute_of records < 2 ^ 127 → AllByRecursion (λ cells. absolute_of cells < 2 ^ 127) records
each-small [] fits = tt
each-small (cells ∷ records) fits =
    let cons = sum_by-cons absolute_of cells records in
    (omega (arith, cons, fits), each-small records (omega (arith, cons, fits)))

module _ (prefix : Option (List Node)) (x y : List Node) (records : List (List (ℕ × ℤ))) (P : List ℕ) (a b : ℕ) (joins : Joins prefix x y records P a b) where
  merges-all : Merges P a b joins.ascending 0 records
  merges-all = merges P a b joins.ascending 0 records (each-ascending records joins.ranked.ascending) (each-small records joins.ranked.sum_fits)

  merged-prefix : (p : Option (List Node)) → IsPrefix p records P → merged (nodes_before p) x y ≡ list_of records (P ++ a ∷ b ∷ [])
  merged-prefix None is =
      let e : merged [] x y ≡ merged (list_of records []) x y = merged-before (list_of records []) x y (no_own 0 records) in
      e ∙ (λ j. merged (list_of records (sym is j)) (joins.x_is j) (joins.y_is j)) ∙ merges-all.is
  merged-prefix (Some nodes) is = (λ j. merged (is.1 j) (joins.x_is j) (joins.y_is j)) ∙ merges-all.is

  AllFit-prefix : (p : Option (List Node)) → IsPrefix p records P → AllFit (nodes_before p) x y
  AllFit-prefix None is =
      let fit : AllFit (list_of records []) x y = subst (λ s. AllFit (list_of records s) x y) is
      (subst (λ w. AllFit (list_of records P) w y) (sym joins.x_is)
      (subst (λ w. AllFit (list_of records P) (list_of records (P ++ a ∷ [])) w)
      (sym joins.y_is) merges-all.fit)) in
      AllFit-before (list_of records []) x y (no_own 0 records) fit
  AllFit-prefix (Some nodes) is =
      subst (λ w. AllFit w x y) (sym is.1)
      (subst (λ w. AllFit (list_of records P) w y) (sym joins.x_is)
      (subst (λ w. AllFit (list_of records P) (list_of records (P ++ a ∷ [])) w) (sym joins.y_is) merges-all.fit))

  pub merged-joins : merged (nodes_before prefix) x y ≡ list_of records (P ++ a ∷ b ∷ [])
  merged-joins = merged-prefix prefix joins.prefix_is

  pub AllFit-joins : AllFit (nodes_before prefix) x y
  AllFit-joins = AllFit-prefix prefix joins.prefix_is

  pub weight-joins : (nodes : List Node) → nodes ≡ merged (nodes_before prefix) x y → sum_by weight_of nodes < 2 ^ 127
  weight-joins nodes is =
      subst (λ ns. sum_by weight_of ns < 2 ^ 127) (sym (is ∙ merged-joins))
      (weight-list records (P ++ a ∷ b ∷ []) joins.ranked joins.ascending)
