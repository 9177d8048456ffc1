-- The end of a pattern: its last itemset, the itemsets before it, and its last item.
use Rattle.std.specs.Prelude.{ℕ, ◌<◌, List, [], ◌∷◌, ◌++◌, length}

-- the last itemset of a pattern
abbrev pub last_itemset : List (List ℕ) → List ℕ
last_itemset [] = []
last_itemset (items ∷ []) = items
last_itemset (items ∷ next ∷ pattern) = last_itemset (next ∷ pattern)

-- the itemsets before the last one
abbrev pub earlier : List (List ℕ) → List (List ℕ)
earlier [] = []
earlier (items ∷ []) = []
earlier (items ∷ next ∷ pattern) = items ∷ earlier (next ∷ pattern)

-- the last of some items, where there are any, else another item
abbrev pub last_from : ℕ → List ℕ → ℕ
last_from other [] = other
last_from other (item ∷ items) = last_from item items

-- the last item of a pattern
abbrev pub last_item : List (List ℕ) → ℕ
last_item pattern = last_from 0 (last_itemset pattern)

-- a pattern has a last item
pub record Ends (pattern : List (List ℕ)) : Type 0 where
  pub some : 0 < length (last_itemset pattern)

-- a pattern has a last item, and it is below another one
pub record EndsBelow (pattern : List (List ℕ)) (item : ℕ) : Type 0 where
  pub ends : Ends pattern
  pub below : last_item pattern < item

-- a pattern with an item put into its last itemset
abbrev pub into : List (List ℕ) → ℕ → List (List ℕ)
into [] item = (item ∷ []) ∷ []
into (items ∷ []) item = (items ++ item ∷ []) ∷ []
into (items ∷ next ∷ pattern) item = items ∷ into (next ∷ pattern) item

-- a pattern with an item in a new last itemset
abbrev pub after : List (List ℕ) → ℕ → List (List ℕ)
after pattern item = pattern ++ (item ∷ []) ∷ []
