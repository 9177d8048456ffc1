-- The marks of all items by which a pattern can grow, by its places in a record.
use Rattle.std.specs.Prelude.{◌≡◌, ◌==◌, Bool, true, if◌then◌else◌, ◌<◌, ⊤, ℕ, suc, ℤ, ◌+ℤ◌, ◌-ℤ◌, List, [], ◌∷◌}
use Rattle.std.specs.Prelude.{◌++◌, drop, length}
use Rattle.std.specs.List.{flat_map, AllByRecursion}
use Rattle.hu_kind.specs.Record.{total}
use Rattle.hu_chain.specs.declared.chain.Growth.{Growth}
use Rattle.hu_chain.specs.declared.chain.Growth.TheVariants.{IntoLast, AfterLast}
use Rattle.hu_chain.specs.declared.place.Place.{Place}
use Rattle.hu_chain.specs.Bound.{IsFit}
use Rattle.hu_chain.specs.Grown.{grown, CanGrow}
use Rattle.hu_chain.specs.Place.{element_at}
use Rattle.hu_chain.specs.Search.{best_past, left_past}
use Rattle.hu_span.specs.declared.mark.Mark.{Mark}
use Rattle.hu_span.specs.Mark.{mark_at, marks_of, marks_with, places_of}

-- the marks of the cells of an element, of which the first has a number: occurrences that end before them earn a sum, and
-- from them on another is left
abbrev pub tail_marks : ℕ → ℕ → ℕ → ℤ → ℤ → List (ℕ × ℤ) → List Mark
tail_marks row e c best ahead [] = []
tail_marks row e c best ahead (cell ∷ cells) =
    mark_at row cell.0
    (record { element = e; cell = c; best = best +ℤ cell.1; rest = ahead -ℤ cell.1 })
    ∷ tail_marks row e (suc c) best
    (ahead -ℤ cell.1) cells

-- those of elements, of which the first has a number, each after the best occurrence before it
abbrev pub walk_marks : ℕ → ℕ → ℤ → ℤ → List Place → List (List (ℕ × ℤ)) → List Mark
walk_marks row e best ahead places [] = []
walk_marks row e best ahead places (cells ∷ later) =
    tail_marks row e 0 best ahead cells ++ walk_marks row (suc e) (best_past e best places)
    (ahead -ℤ total cells) (left_past e places) later

-- the cells after a place in its element
abbrev pub cells_after : List (List (ℕ × ℤ)) → Place → List (ℕ × ℤ)
cells_after elements place = drop (suc place.cell) (element_at elements place.element)

-- a place stands at a cell
pub record IsInside (elements : List (List (ℕ × ℤ))) (place : Place) : Type 0 where
  pub element : place.element < length elements
  pub cell : place.cell < length (element_at elements place.element)

-- the marks beside a place
abbrev pub beside_marks : List (List (ℕ × ℤ)) → ℕ → Place → List Mark
beside_marks elements row place =
    tail_marks row place.element (suc place.cell) place.best place.rest (cells_after elements place)

-- the marks in the elements after the first of places
abbrev pub later_marks : List (List (ℕ × ℤ)) → ℕ → List Place → List Mark
later_marks elements row [] = []
later_marks elements row (place ∷ places) =
    walk_marks row (suc place.element) place.best
    (place.rest -ℤ total (cells_after elements place)) places
    (drop (suc place.element) elements)

-- the marks by a kind of growth
abbrev pub row_marks : Growth → List (List (ℕ × ℤ)) → ℕ → List Place → List Mark
row_marks IntoLast elements row places = flat_map (beside_marks elements row) places
row_marks AfterLast elements row places = later_marks elements row places

-- a pattern may take a growth by an item; the empty one begins an itemset
abbrev pub Begins : Growth → Type 0
Begins IntoLast = ⊥
Begins AfterLast = ⊤

abbrev pub MayTake : Growth → List (List ℕ) → ℕ → Type 0
MayTake growth [] item = Begins growth
MayTake growth (items ∷ pattern) item = CanGrow growth (items ∷ pattern) item

-- a mark by which a pattern may grow with kept items
pub record IsGrowth (keep : ℕ → Bool) (growth : Growth) (pattern : List (List ℕ))
    (mark : Mark) : Type 0 where
  pub kept : keep mark.item.0 ≡ true
  pub may : MayTake growth pattern mark.item.0
  pub fit : IsFit mark.place

-- marks of all kept items by which a pattern can grow: those of each are the places of the grown pattern
pub record AreGrown (records : List (List (List (ℕ × ℤ)))) (keep : ℕ → Bool)
    (pattern : List (List ℕ)) (growth : Growth) (marks : List Mark) : Type 0 where
  pub each : AllByRecursion (IsGrowth keep growth pattern) marks
  pub places : (item : ℕ) → keep item ≡ true → MayTake growth pattern item → marks_with item marks
      ≡ marks_of records (grown growth pattern item) item

-- marks of which no sum is too large stay so
abbrev pub StaysFit : List Mark → List Mark → Type 0
StaysFit old new = AllByRecursion IsFit (places_of old) → AllByRecursion IsFit (places_of new)

-- how many marks at the front are of a row
abbrev pub front_of : ℕ → List Mark → ℕ
front_of row [] = 0
front_of row (mark ∷ marks) = if mark.row == row then suc (front_of row marks) else 0
