-- Which records hold an item: for each item the places of the records that hold it, ascending.
use Rattle.std.specs.Prelude.{
  ◌≡◌,
  ℕ,
  ◌+◌,
  ◌<◌,
  ℤ,
  pos,
  List,
  [],
  ◌∷◌,
  ◌++◌,
  length,
  map,
  slice_index_or,
  refl,
}
use Rattle.std.specs.Ordering.{int_eq}
use Rattle.std.specs.List.{All, AllByRecursion, filter}
use Rattle.std.specs.declared.vec.Vec.{Vec}
use Rattle.std.specs.declared.alloc.Global.{Global}
use Rattle.hu_kind.specs.declared.item.Item.{Item}
use Rattle.hu_kind.specs.Record.{items_in, IsRecord}
use Rattle.hu_kind.specs.Order.{Ascend}
use Rattle.hu_totals.specs.Weights.{numbers_of}
use Rattle.hu_closed.specs.Places.{places_at}

-- lists of items as lists of numbers
abbrev pub lists_of : List (Vec Item Global) → List (List ℕ)
lists_of lists = map (λ items. numbers_of items.items) lists

-- each list ascends
abbrev pub AreLists : List (List ℕ) → Type 0
AreLists lists = All Ascend lists

-- the items of all records with their places, record by record, the first at a place
abbrev pub pairs_from : ℕ → List (List ℕ) → List (ℕ × ℕ)
pairs_from place [] = []
pairs_from place (items ∷ lists) = map (λ item. (item, place)) items ++ pairs_from (place + 1) lists

-- those whose item is a number
abbrev pub pairs_with : ℤ → List (ℕ × ℕ) → List (ℕ × ℕ)
pairs_with number pairs = filter (λ pair. int_eq number (pos pair.0)) pairs

-- their places
abbrev pub places_with : ℤ → List (ℕ × ℕ) → List ℕ
places_with number pairs = map (λ pair. pair.1) (pairs_with number pairs)

-- each number has the places beside it in pairs (item, place)
abbrev pub AreHolders : List (ℤ × List ℕ) → List (ℕ × ℕ) → Type 0
AreHolders places pairs = (number : ℤ) → places_at places number ≡ places_with number pairs

-- each place is below a number
abbrev pub AreWithin : ℕ → List ℕ → Type 0
AreWithin n places = All (λ place. place < n) places

-- the items of the records at places
abbrev pub found_at : List (List ℕ) → List ℕ → List (List ℕ)
found_at lists places = map (λ place. slice_index_or lists place []) places

-- lists ascend, and places are of them
pub record ArePlaced (lists : List (List ℕ)) (places : List ℕ) : Type 0 where
  pub ascend : AreLists lists
  pub within : AreWithin (length lists) places

-- lists of items and the places of each are those of records
pub record AreSets (records : List (List (ℕ × ℤ))) (items : List (Vec Item Global))
    (places : List (ℤ × List ℕ)) : Type 0 where
  pub lists : lists_of items ≡ map items_in records
  pub held : AreHolders places (pairs_from 0 (map items_in records))
  pub rules : AllByRecursion IsRecord records

-- two records
pub pairs_of_two : pairs_from 0 ((2 ∷ 5 ∷ []) ∷ (5 ∷ []) ∷ []) ≡ (2, 0) ∷ (5, 0) ∷ (5, 1) ∷ []
pairs_of_two = refl

pub places_with_5 : places_with (pos 5) ((2, 0) ∷ (5, 0) ∷ (5, 1) ∷ []) ≡ 0 ∷ 1 ∷ []
places_with_5 = refl
