-- Worked rows: lists of base A with the ranks of floor 30, by computation.
use Rattle.std.specs.Prelude.{◌≡◌, ℕ, ℤ, pos, negsuc, List, [], ◌∷◌, refl}
use Rattle.hu_kind.specs.Worked.{base_a}
use Rattle.hu_totals.specs.Ranked.{ranked}
use Rattle.hu_list.specs.declared.list.Node.{Node}
use Rattle.hu_list.specs.Nodes.{list_of}
use Rattle.hu_list.specs.Bounds.{own_sum, bound_of, list_bound}
use Rattle.hu_list.specs.Joins.{merged}

-- a node with values from 0 on
abbrev pub node : ℕ → ℕ → ℕ → Node
node place own rest = record { place = place; own = pos own; rest = pos rest }

-- the list of a set of ranks; the ranks 0 to 6 are those of the items 6, 7, 4, 2, 1, 5, 3
abbrev pub base_a_list : List ℕ → List Node
base_a_list ranks = list_of (ranked (pos 30) base_a).records ranks

pub list_of_item_4 : base_a_list (2 ∷ []) ≡ node 0 6 19 ∷ node 1 6 14 ∷ node 2 2 6 ∷ []
list_of_item_4 = refl

pub list_of_item_2 : base_a_list (3 ∷ []) ≡ node 0 10 9 ∷ node 1 8 6 ∷ node 4 4 5 ∷ []
list_of_item_2 = refl

-- items 4 and 2, joined with no prefix
pub joined_4_2 : merged [] (base_a_list (2 ∷ [])) (base_a_list (3 ∷ [])) ≡ node 0 16 9 ∷ node 1 14 6 ∷ []
joined_4_2 = refl

pub list_of_4_2 : base_a_list (2 ∷ 3 ∷ []) ≡ node 0 16 9 ∷ node 1 14 6 ∷ []
list_of_4_2 = refl

pub sum_of_4_2 : own_sum (base_a_list (2 ∷ 3 ∷ [])) ≡ pos 30
sum_of_4_2 = refl

pub bound_of_4_2 : bound_of (base_a_list (2 ∷ 3 ∷ [])) ≡ pos 45
bound_of_4_2 = refl

pub list_bound_of_4_2 : list_bound (ranked (pos 30) base_a).records (2 ∷ 3 ∷ []) ≡ pos 45
list_bound_of_4_2 = refl

-- items 4 and 5
pub list_of_4_5 : base_a_list (2 ∷ 5 ∷ []) ≡ node 0 9 1 ∷ node 1 9 3 ∷ []
list_of_4_5 = refl

-- these two joined over the prefix of item 4
pub joined_4_2_5 : merged (base_a_list (2 ∷ [])) (base_a_list (2 ∷ 3 ∷ []))
    (base_a_list (2 ∷ 5 ∷ [])) ≡ node 0 19 1 ∷ node 1 17 3 ∷ []
joined_4_2_5 = refl

pub list_of_4_2_5 : base_a_list (2 ∷ 3 ∷ 5 ∷ []) ≡ node 0 19 1 ∷ node 1 17 3 ∷ []
list_of_4_2_5 = refl

pub sum_of_4_2_5 : own_sum (base_a_list (2 ∷ 3 ∷ 5 ∷ [])) ≡ pos 36
sum_of_4_2_5 = refl

pub bound_of_4_2_5 : bound_of (base_a_list (2 ∷ 3 ∷ 5 ∷ [])) ≡ pos 40
bound_of_4_2_5 = refl

-- an item that costs 10 in one record and earns 4 in another: in each record the bound is at least 0
abbrev pub signed : List (List (ℕ × ℤ))
signed =
    ((1, negsuc 9) ∷ (2, pos 3) ∷ [])
    ∷ ((1, pos 4) ∷ (2, pos 1) ∷ (3, pos 6) ∷ [])
    ∷ ((2, pos 2) ∷ (3, pos 3) ∷ [])
    ∷ []

pub signed_sum_of_1 : own_sum (list_of (ranked (pos 10) signed).records (0 ∷ [])) ≡ negsuc 5
signed_sum_of_1 = refl

pub signed_bound_of_1 : bound_of (list_of (ranked (pos 10) signed).records (0 ∷ [])) ≡ pos 11
signed_bound_of_1 = refl
