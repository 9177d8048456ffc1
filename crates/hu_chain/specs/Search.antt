-- How the places of a grown pattern are found: the item's cell is looked for among the cells of an element, and the
-- elements after a place are walked through with the best utility so far.
use Rattle.std.specs.Prelude.{
  ◌≡◌,
  ⊤,
  ◌+◌,
  ◌<◌,
  ◌≤◌,
  ◌^◌,
  ℕ,
  suc,
  ◌==◌,
  ℤ,
  pos,
  ◌+ℤ◌,
  ◌≤ℤ◌,
  ◌<ℤ◌,
  Bool,
  true,
  false,
  Option,
  None,
  Some,
  option_to_list,
  List,
  [],
  ◌∷◌,
  ◌++◌,
  drop,
  length,
  if◌then◌else◌,
}
use Rattle.std.specs.Int.{int_max}
use Rattle.std.specs.List.{flat_map, list_any, AllByRecursion}
use Rattle.hu_kind.specs.Cell.{pairs_of}
use Rattle.hu_kind.specs.Order.{Ascend}
use Rattle.hu_kind.specs.Record.{has, items_in, total}
use Rattle.hu_chain.specs.declared.chain.Growth.{Growth}
use Rattle.hu_chain.specs.declared.chain.Growth.TheVariants.{IntoLast, AfterLast}
use Rattle.hu_chain.specs.declared.place.Place.{Place}
use Rattle.hu_chain.specs.declared.place.Tail.{Tail}
use Rattle.hu_chain.specs.declared.walk.Walk.{Walk}
use Rattle.hu_chain.specs.Place.{cell_of, element_at, rest_at, totals}
use Rattle.hu_chain.specs.Bound.{IsFit}

-- the number of an item's cell, if some cell has the item
abbrev pub cell_in : ℕ → List (ℕ × ℤ) → Option ℕ
cell_in item cells = if has item cells then Some (cell_of item cells) else None

-- the place of an item among cells, of which the first has a number: occurrences that end before them earn a sum, and
-- later elements hold another
abbrev pub found : ℕ → ℕ → ℕ → ℤ → ℤ → List (ℕ × ℤ) → Option Place
found element c item best later [] = None
found element c item best later (cell ∷ cells) =
    if item == cell.0
    then Some (record { element = element; cell = c; best = best +ℤ cell.1; rest = total cells +ℤ later })
    else found element (suc c) item best later cells

-- the place of an item in an element of a sequence
abbrev pub found_at : List (List (ℕ × ℤ)) → ℕ → ℕ → ℤ → Option Place
found_at elements item e best = found e 0 item best (totals (drop (suc e) elements)) (element_at elements e)

-- the best utility after an element, where the first of the places that are left may stand in it
abbrev pub best_past : ℕ → ℤ → List Place → ℤ
best_past e best [] = best
best_past e best (place ∷ places) = if e == place.element then int_max best place.best else best

-- the places that are left after an element
abbrev pub left_past : ℕ → List Place → List Place
left_past e [] = []
left_past e (place ∷ places) = if e == place.element then places else place ∷ places

-- the places of an item in elements, of which the first has a number, each after the best utility before it
abbrev pub walked : ℕ → ℕ → ℤ → List Place → List (List (ℕ × ℤ)) → List Place
walked item e best places [] = []
walked item e best places (cells ∷ later) =
    option_to_list (found e 0 item best (totals later) cells)
    ++ walked item (suc e) (best_past e best places) (left_past e places) later

-- the places of a pattern with an item in its last itemset: each in the element of a place
abbrev pub joined_places : List (List (ℕ × ℤ)) → ℕ → List Place → List Place
joined_places elements item places =
    flat_map (λ place. option_to_list (found_at elements item place.element place.best)) places

-- the places of a pattern with an item in a new last itemset: each in an element after the first place
abbrev pub followed_places : List (List (ℕ × ℤ)) → ℕ → List Place → List Place
followed_places elements item [] = []
followed_places elements item (place ∷ places) =
    walked item (suc place.element) place.best places (drop (suc place.element) elements)

-- an itemset whose items ascend and whose values are at least 0
pub record IsPlain (cells : List (ℕ × ℤ)) : Type 0 where
  pub ascending : Ascend (items_in cells)
  pub none_below : AllByRecursion (λ cell. pos 0 ≤ℤ cell.1) cells

-- the rules of the cells of an element from one on: an itemset's, and no sum is too large
pub record IsTail (tail : Tail) : Type 0 where
  pub plain : IsPlain (pairs_of tail.cells.now)
  pub few : tail.first + length tail.cells.now ≤ 4096
  pub best : pos 0 ≤ℤ tail.best
  pub holds : total (pairs_of tail.cells.now) ≤ℤ tail.ahead
  pub fits : (tail.best +ℤ tail.ahead) <ℤ pos (2 ^ 127)

-- a place holds the values of the elements after it
pub record IsLeft (elements : List (List (ℕ × ℤ))) (place : Place) : Type 0 where
  pub fit : IsFit place
  pub rest : totals (drop (suc place.element) elements) ≤ℤ place.rest

-- the rules of a walk before an element
pub record IsWalk (elements : List (List (ℕ × ℤ))) (e : ℕ) (walk : Walk) : Type 0 where
  pub ahead : walk.ahead ≡ totals (drop e elements)
  pub best : pos 0 ≤ℤ walk.best
  pub fits : (walk.best +ℤ walk.ahead) <ℤ pos (2 ^ 127)
  pub left : AllByRecursion (IsLeft elements) walk.left.now

-- a place of a pattern with a last item: it is that item's cell, and the sum after it is the sequence's
pub record IsPlaceOf (elements : List (List (ℕ × ℤ))) (last : ℕ) (place : Place) : Type 0 where
  pub has : has last (element_at elements place.element) ≡ true
  pub cell : place.cell ≡ cell_of last (element_at elements place.element)
  pub rest : place.rest ≡ rest_at elements place.element place.cell

-- the cells after a place
pub record IsTailOf (elements : List (List (ℕ × ℤ))) (place : Place) (tail : Tail) : Type 0 where
  pub element : tail.element ≡ place.element
  pub first : tail.first ≡ suc place.cell
  pub cells : pairs_of tail.cells.now ≡ drop (suc place.cell) (element_at elements place.element)
  pub best : tail.best ≡ place.best
  pub ahead : tail.ahead ≡ place.rest

-- whether an item stands in the element of a place: in that of the last item, so that it joins the last itemset
abbrev pub joins : ℕ → List (List (ℕ × ℤ)) → List Place → Bool
joins item elements places = list_any (λ place. has item (element_at elements place.element)) places

-- whether an item stands in an element after the first place
abbrev pub follows : ℕ → List (List (ℕ × ℤ)) → List Place → Bool
follows item elements [] = false
follows item elements (place ∷ places) = list_any (has item) (drop (suc place.element) elements)

-- whether a grown pattern occurs
abbrev pub occurs : Growth → ℕ → List (List (ℕ × ℤ)) → List Place → Bool
occurs IntoLast item elements places = joins item elements places
occurs AfterLast item elements places = follows item elements places

-- an item that is put into the last itemset is above the last one there
abbrev pub MayFollow : Growth → ℕ → ℕ → Type 0
MayFollow IntoLast last item = last < item
MayFollow AfterLast last item = ⊤
