-- What the list of a set says of the set.
use Rattle.std.proofs.Common.{◌≡◌, ℕ, ◌<◌, ◌≤◌, ◌+◌, ◌^◌, Bool, true, false, cond, ltb, ℤ, pos, ◌+ℤ◌, ◌≤ℤ◌, List, [], ◌∷◌, ◌++◌, refl, sym, ap, ◌∙◌}
use Rattle.std.proofs.Common.{subst, arith, sum_by}
use Rattle.std.specs.List.{AllByRecursion, list_all}
use Rattle.std.proofs.lemmas.Bool.{and_parts}
use Rattle.std.proofs.lemmas.Int.{ints}
use Rattle.std.proofs.lemmas.List.Sums.{sum_by-cons}
use Rattle.hu_kind.proofs.lemmas.Earned.{positive_part-upper}
use Rattle.hu_kind.specs.Record.{holds, values_of, utility_in, positive_part, items_in, absolute_of}
use Rattle.hu_kind.specs.Database.{utility}
use Rattle.hu_kind.specs.Order.{Ascend}
use Rattle.hu_kind.proofs.lemmas.Occurring.{by_members, holds-append, values_of-append}
use Rattle.hu_kind.proofs.lemmas.Ascending.{each-ascending, Ascend-right, Ascend-across}
use Rattle.hu_totals.specs.Ranked.{Ranking, IsRanking}
use Rattle.hu_list.specs.declared.list.Node.{Node}
use Rattle.hu_list.specs.Nodes.{rest_after, node_of, nodes_from, list_of, weight_of, AreRanked}
use Rattle.hu_list.specs.Bounds.{own_sum, bound_of, list_bound, BoundsGrown}
use Rattle.hu_list.proofs.SetLemmas.{weight-within, values_of-after, list_all-below}

pub own_sum-nodes : (place : ℕ) (records : List (List (ℕ × ℤ))) (set : List ℕ) → own_sum (nodes_from place records set) ≡ utility records set
own_sum-nodes place [] set = refl
own_sum-nodes place (cells ∷ records) set = by (holds set cells) (own_sum-nodes (place + 1) records set)
  where
    by : (b : Bool) → own_sum (nodes_from (place + 1) records set) ≡ utility records set
        → own_sum (cond b (node_of set place cells ∷ []) [] ++ nodes_from (place + 1) records set) ≡ cond b (values_of set cells) (pos 0) +ℤ utility records set
    by true ih = ap (λ v. values_of set cells +ℤ v) ih
    by false ih = omega (arith, ints)

pub bound_of-nodes : (place : ℕ) (records : List (List (ℕ × ℤ))) (set : List ℕ) → bound_of (nodes_from place records set) ≡ list_bound records set
bound_of-nodes place [] set = refl
bound_of-nodes place (cells ∷ records) set = by (holds set cells) (bound_of-nodes (place + 1) records set)
  where
    most : ℤ
    most = positive_part (values_of set cells +ℤ rest_after set cells)

    by : (b : Bool) → bound_of (nodes_from (place + 1) records set) ≡ list_bound records set
        → bound_of (cond b (node_of set place cells ∷ []) [] ++ nodes_from (place + 1) records set)
        ≡ cond b (positive_part (values_of set cells +ℤ rest_after set cells)) (pos 0) +ℤ list_bound records set
    by true ih = ap (λ v. positive_part (values_of set cells +ℤ rest_after set cells) +ℤ v) ih
    by false ih = omega (arith, ints)

pub weight-nodes : (place : ℕ) (records : List (List (ℕ × ℤ))) (set : List ℕ) → Ascend set → AllByRecursion (λ cells. Ascend (items_in cells)) records
    → sum_by weight_of (nodes_from place records set) ≤ sum_by absolute_of records
weight-nodes place [] set up rise = omega arith
weight-nodes place (cells ∷ records) set up rise = by (holds set cells) refl (weight-nodes (place + 1) records set up rise.1)
  where
    by : (b : Bool) → holds set cells ≡ b → sum_by weight_of (nodes_from (place + 1) records set) ≤ sum_by absolute_of records
        → sum_by weight_of (cond b (node_of set place cells ∷ []) [] ++ nodes_from (place + 1) records set) ≤ sum_by absolute_of (cells ∷ records)
    by true h ih =
        let one = weight-within cells set up rise.0 h in
        omega (arith, sum_by-cons weight_of (node_of set place cells) (nodes_from (place + 1) records set), sum_by-cons absolute_of cells records)
    by false h ih = omega (arith, sum_by-cons absolute_of cells records)

-- the list of an ascending set stays within its type
pub weight-list : (records : List (List (ℕ × ℤ))) (set : List ℕ) → AreRanked records → Ascend set → sum_by weight_of (list_of records set) < 2 ^ 127
weight-list records set are up =
    let within = weight-nodes 0 records set up (each-ascending records are.ascending) in
    let fits = are.sum_fits in
    omega (arith, within, fits)

-- ---- the bound on all sets that grow one by later ranks

utility_in-grown : (cells : List (ℕ × ℤ)) (set more : List ℕ) → Ascend (set ++ more) → Ascend (items_in cells)
    → utility_in (set ++ more) cells ≤ℤ cond (holds set cells) (positive_part (values_of set cells +ℤ rest_after set cells)) (pos 0)
utility_in-grown cells set more up rise = by (holds (set ++ more) cells) refl
  where
    bound : (b : Bool) → pos 0 ≤ℤ cond b (positive_part (values_of set cells +ℤ rest_after set cells)) (pos 0)
    bound true = (positive_part-upper (values_of set cells +ℤ rest_after set cells)).1
    bound false = omega (arith, ints)

    by : (b : Bool) → holds (set ++ more) cells ≡ b
        → cond b (values_of (set ++ more) cells) (pos 0) ≤ℤ cond (holds set cells) (positive_part (values_of set cells +ℤ rest_after set cells)) (pos 0)
    by false h = bound (holds set cells)
    by true h =
        let both = and_parts (holds set cells) (holds more cells) (sym (holds-append set more cells) ∙ h) in
        let held : holds set cells ≡ true = both.0 in
        let after = by_members (λ m. list_all (λ rank. ltb rank m) set ≡ true) more (λ m mem. list_all-below set m (Ascend-across set more up m mem)) in
        let more_within = values_of-after cells set more (Ascend-right set more up) rise both.1 after in
        let joined = values_of-append set more cells in
        let part = (positive_part-upper (values_of set cells +ℤ rest_after set cells)).0 in
        rw held (omega (arith, ints, more_within, joined, part))

utility-grown : (records : List (List (ℕ × ℤ))) (set more : List ℕ) → Ascend (set ++ more) → AllByRecursion (λ cells. Ascend (items_in cells)) records
    → utility records (set ++ more) ≤ℤ list_bound records set
utility-grown [] set more up rise = omega (arith, ints)
utility-grown (cells ∷ records) set more up rise =
    let one = utility_in-grown cells set more up rise.0 in
    let ih = utility-grown records set more up rise.1 in
    omega (arith, ints, one, ih)

pub BoundsGrown-list : (nodes : List Node) (bound : ℤ) → bound ≡ bound_of nodes → BoundsGrown nodes bound
BoundsGrown-list nodes bound is records rises set more list up =
    let e : bound ≡ list_bound records set = is ∙ ap bound_of list ∙ bound_of-nodes 0 records set in
    subst (λ b. utility records (set ++ more) ≤ℤ b) (sym e) (utility-grown records set more up (each-ascending records rises))

pub utility-list : (nodes : List Node) (sum : ℤ) → sum ≡ own_sum nodes → (records : List (List (ℕ × ℤ))) (set : List ℕ)
    → nodes ≡ list_of records set → sum ≡ utility records set
utility-list nodes sum is records set list = is ∙ ap own_sum list ∙ own_sum-nodes 0 records set

pub bound-list : (nodes : List Node) (bound : ℤ) → bound ≡ bound_of nodes
    → (records : List (List (ℕ × ℤ))) (set : List ℕ) → nodes ≡ list_of records set → bound ≡ list_bound records set
bound-list nodes bound is records set list = is ∙ ap bound_of list ∙ bound_of-nodes 0 records set

pub AreRanked-ranking : (r : Ranking) → IsRanking r → AreRanked r.records
AreRanked-ranking r rules = record { ascending = rules.ascending; sum_fits = rules.sum_fits }
