-- Which keys grow out of a key. A table of ranks is the list of the item of each rank.
use Rattle.std.specs.Prelude.{
  ◌≡◌,
  ℕ,
  ◌<◌,
  ℤ,
  pos,
  Bool,
  true,
  false,
  IsTrue,
  Option,
  None,
  Some,
  List,
  [],
  ◌∷◌,
  ◌++◌,
  map,
  length,
  slice_index,
  if◌then◌else◌,
  ⊤,
}
use Rattle.std.specs.Ordering.{nat_cmp, int_eq}
use Rattle.std.specs.List.{All, AllAdjacentBelow}
use Rattle.hu_kind.specs.Order.{ranking}
use Rattle.hu_collect.specs.Rule.{Rule}

-- a set of ranks of a table: ascending, and each in the table
pub record IsRankSet (table ranks : List ℕ) : Type 0 where
  pub ascending : AllAdjacentBelow (λ a b. a < b) ranks (length ranks)
  pub in_table : All (λ rank. rank < length table) ranks

-- the key of a set of ranks: their items, ascending
abbrev pub key_of : List ℕ → List ℕ → List ℤ
key_of table ranks = map pos (ranking nat_cmp (map (λ rank. slice_index table rank) ranks))

-- whether the numbers of a list stand in another in their order, with any others between them
abbrev pub is_part : List ℤ → List ℤ → Bool
is_part [] whole = true
is_part (x ∷ xs) [] = false
is_part (x ∷ xs) (y ∷ ys) = if int_eq x y then is_part xs ys else is_part (x ∷ xs) ys

-- where there is a table, a key is that of a set of ranks of which `last` is the greatest
abbrev pub CanOpen : Option (List ℕ) → List ℤ → ℕ → Type 0
CanOpen None key last = ⊤
CanOpen (Some table) key last =
    (before : List ℕ) × IsRankSet table (before ++ last ∷ [])
    × (key ≡ key_of table (before ++ last ∷ []))

-- a key alone or grown: with a table by items of ranks above `last`, with none by any further numbers
abbrev pub IsGrown : Option (List ℕ) → List ℤ → ℕ → List ℤ → Type 0
IsGrown None key last grown = IsTrue (is_part key grown)
IsGrown (Some table) key last grown =
    (before : List ℕ) × (more : List ℕ) × IsRankSet table (before ++ last ∷ more)
    × (key ≡ key_of table (before ++ last ∷ [])) × (grown ≡ key_of table (before ++ last ∷ more))

-- no key is wanted that is this one, alone or grown
abbrev pub IsShut : Rule → List ℤ → ℕ → Type 0
IsShut rule key last = (grown : List ℤ) → IsGrown rule.table key last grown → rule.wants grown ≡ false

-- a collector rests on no table of ranks, or on this one
abbrev pub RestsOn : Option (List ℕ) → List ℕ → Type 0
RestsOn None items = ⊤
RestsOn (Some table) items = table ≡ items
