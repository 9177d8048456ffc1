-- What makes a set of cells of the pairs (item, value) that a line tells.
use Rattle.std.specs.Prelude.{
  ◌≡◌,
  ℕ,
  ◌<◌,
  ◌≤◌,
  ◌==◌,
  nat_lt,
  ℤ,
  pos,
  negsuc,
  Option,
  None,
  Some,
  min,
  List,
  [],
  ◌∷◌,
  filter,
  count_by,
  refl,
}
use Rattle.std.specs.declared.cmp.Ordering.{Ordering}
use Rattle.std.specs.List.{reduce}
use Rattle.std.specs.Ordering.{nat_cmp, int_cmp, ordering_then}
use Rattle.hu_kind.specs.Order.{ranking}

-- pairs by item, and by value where they have one item
abbrev pub pair_cmp : ℕ × ℤ → ℕ × ℤ → Ordering
pair_cmp a b = ordering_then (nat_cmp a.0 b.0) (int_cmp a.1 b.1)

-- the pairs with their items ascending
abbrev pub by_item : List (ℕ × ℤ) → List (ℕ × ℤ)
by_item pairs = ranking pair_cmp pairs

-- how often an item stands in a list
abbrev pub times : ℕ → List ℕ → ℕ
times item items = count_by (λ other. other == item) items

-- the smallest of the items that stand more than once
abbrev pub twice : List ℕ → Option ℕ
twice items = reduce min (filter (λ item. nat_lt 1 (times item items)) items)

-- an item stands more than once, and no smaller one does
pub record IsFirstTwice (items : List ℕ) (item : ℕ) : Type 0 where
  pub more : 1 < times item items
  pub least : (other : ℕ) → 1 < times other items → item ≤ other

-- an example of each
pub four_pairs : by_item ((3, pos 3) ∷ (5, pos 3) ∷ (2, pos 8) ∷ (4, negsuc 5) ∷ [])
    ≡ (2, pos 8) ∷ (3, pos 3) ∷ (4, negsuc 5) ∷ (5, pos 3) ∷ []
four_pairs = refl

pub two_repeated : twice (7 ∷ 4 ∷ 9 ∷ 7 ∷ 4 ∷ []) ≡ Some 4
two_repeated = refl

pub none_repeated : twice (7 ∷ 4 ∷ 9 ∷ []) ≡ None
none_repeated = refl
