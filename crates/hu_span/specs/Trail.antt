-- The kept cells of records, as a level of the search walks over them, and the marks that it meets.
use Rattle.std.specs.Prelude.{
  ◌≡◌,
  ◌==◌,
  ◌+◌,
  ◌-◌,
  ◌≤◌,
  ℕ,
  suc,
  nat_lt,
  ℤ,
  pos,
  ◌+ℤ◌,
  ◌-ℤ◌,
  Bool,
  List,
  [],
  ◌∷◌,
  ◌++◌,
  drop,
  length,
  reverse,
  take,
  if◌then◌else◌,
}
use Rattle.std.specs.Int.{int_max}
use Rattle.std.specs.List.{filter}
use Rattle.hu_chain.specs.declared.place.Place.{Place}
use Rattle.hu_chain.specs.Pattern.{last_item}
use Rattle.hu_chain.specs.Place.{element_at}
use Rattle.hu_span.specs.declared.mark.Mark.{Mark}
use Rattle.hu_span.specs.declared.rows.Row.{Row}
use Rattle.hu_span.specs.declared.trail.Held.{Held}
use Rattle.hu_span.specs.declared.trail.Span.{Span}
use Rattle.hu_span.specs.declared.trail.Stretch.{Stretch}
use Rattle.hu_span.specs.declared.trail.TrailCell.{TrailCell}
use Rattle.hu_chain.specs.declared.chain.Growth.{Growth}
use Rattle.hu_span.specs.Child.{ArePlaces}
use Rattle.hu_span.specs.Gather.{front_of, later_marks, AreGrown}
use Rattle.hu_span.specs.Growing.{AreRecords, IsReached, Pattern, Records}
use Rattle.hu_span.specs.Kept.{takes, weighed_of}
use Rattle.hu_span.specs.Mark.{marks_from, places_of, record_at}

-- the cells of an element, of which the first has a number
abbrev pub numbered : ℕ → ℕ → List (ℕ × ℤ) → List TrailCell
numbered e c [] = []
numbered e c (cell ∷ cells) =
    record { item = record { 0 = cell.0 }; element = e; cell = c; value = cell.1 } ∷ numbered e (suc c) cells

-- those of elements, of which the first has a number
abbrev pub cells_from : ℕ → List (List (ℕ × ℤ)) → List TrailCell
cells_from e [] = []
cells_from e (cells ∷ later) = numbered e 0 cells ++ cells_from (suc e) later

-- those behind a cell of a record
abbrev pub cells_past : List (List (ℕ × ℤ)) → ℕ → ℕ → List TrailCell
cells_past elements e c =
    numbered e (suc c) (drop (suc c) (element_at elements e)) ++ cells_from (suc e) (drop (suc e) elements)

-- whether a cell is of a kept item
abbrev pub is_held : (ℕ → Bool) → TrailCell → Bool
is_held keep cell = keep cell.item.0

-- the sum of the values of cells
abbrev pub values_in : List TrailCell → ℤ
values_in [] = pos 0
values_in (cell ∷ cells) = cell.value +ℤ values_in cells

-- the cells at a span: a trail has those of a row from the last one on
abbrev pub cells_at : List TrailCell → Span → List TrailCell
cells_at trail span = reverse (take (span.high - span.low) (drop span.low trail))

-- where a stretch stands
abbrev pub span_of : Stretch → Span
span_of stretch = record { low = stretch.low; high = stretch.low + length stretch.cells.now }

-- a span stands in a trail
pub record IsWithin (trail : List TrailCell) (span : Span) : Type 0 where
  pub ordered : span.low ≤ span.high
  pub within : span.high ≤ length trail

-- the kept cells behind a mark stand at a span
pub record IsSpan (keep : ℕ → Bool) (records : Records) (trail : List TrailCell) (mark : Mark)
    (span : Span) : Type 0 where
  pub stands : IsWithin trail span
  pub cells : cells_at trail span
      ≡ filter (is_held keep) (cells_past (record_at records mark.row) mark.place.element mark.place.cell)

-- those behind each of marks do
abbrev pub AreSpans : (ℕ → Bool) → Records → List TrailCell → List Mark → List Span → Type 0
AreSpans keep records trail [] [] = Unit {0}
AreSpans keep records trail [] (span ∷ spans) = ⊥
AreSpans keep records trail (mark ∷ marks) [] = ⊥
AreSpans keep records trail (mark ∷ marks) (span ∷ spans) =
    IsSpan keep records trail mark span × AreSpans keep records trail marks spans

-- the places of a pattern in records where some items count alone, with the cells behind each
pub record AreHeld (keep : ℕ → Bool) (records : Records) (trail : List TrailCell)
    (pattern : List (List ℕ)) (held : Held) : Type 0 where
  pub are : AreRecords records
  pub reached : IsReached pattern
  pub places : ArePlaces (weighed_of keep records) pattern (last_item pattern) held.marks.items
  pub spans : AreSpans keep records trail held.marks.items held.spans.items

-- the places of a pattern are held
abbrev pub HoldsPlaces : List TrailCell → Held → Type 0
HoldsPlaces trail held =
    (keep : ℕ → Bool) × (records : Records) × (p : Pattern) × AreHeld keep records trail p held

-- something holds of each pattern whose places are
abbrev pub OfHeld : List TrailCell → Held → ((ℕ → Bool) → Records → Pattern → Type 0) → Type 0
OfHeld trail held P =
    (keep : ℕ → Bool) → (records : Records) → (p : Pattern)
    → AreHeld keep records trail p held → P keep records p

-- the cells at the front that are of an element, and the others
abbrev pub in_element : ℕ → List TrailCell → List TrailCell
in_element e [] = []
in_element e (cell ∷ cells) = if cell.element == e then cell ∷ in_element e cells else []

abbrev pub behind_element : ℕ → List TrailCell → List TrailCell
behind_element e [] = []
behind_element e (cell ∷ cells) = if cell.element == e then behind_element e cells else cell ∷ cells

-- the best utility before an element, where places are left that may stand before it
abbrev pub best_before : ℕ → ℤ → List Place → ℤ
best_before e best [] = best
best_before e best (place ∷ places) =
    if nat_lt place.element e then best_before e (int_max best place.best) places else best

-- the places that don't
abbrev pub left_before : ℕ → List Place → List Place
left_before e [] = []
left_before e (place ∷ places) = if nat_lt place.element e then left_before e places else place ∷ places

-- the mark of a cell in a row, after occurrences that earn a sum; from the cell on another is left
abbrev pub mark_of : ℕ → ℤ → ℤ → TrailCell → Mark
mark_of row best ahead cell = record {
  item = cell.item;
  row = row;
  place = record {
    element = cell.element;
    cell = cell.cell;
    best = best +ℤ cell.value;
    rest = ahead -ℤ cell.value;
  };
}

-- the marks of cells, each after the best utility before its element
abbrev pub trail_marks : ℕ → ℤ → ℤ → List Place → List TrailCell → List Mark
trail_marks row best ahead places [] = []
trail_marks row best ahead places (cell ∷ cells) =
    mark_of row (best_before cell.element best places) ahead cell
    ∷ trail_marks row (best_before cell.element best places) (ahead -ℤ cell.value)
    (left_before cell.element places) cells

-- the spans behind each of cells, of which the last one stands at a place; others stand there before it
abbrev pub trail_spans : ℕ → ℕ → List TrailCell → List Span
trail_spans low more [] = []
trail_spans low more (cell ∷ cells) =
    record { low = low; high = low + (length cells + more) } ∷ trail_spans low more cells

-- the marks beside a place, and those in the elements behind the first of places
abbrev pub trail_beside : ℕ → Place → List TrailCell → List Mark
trail_beside row place cells = trail_marks row place.best place.rest [] (in_element place.element cells)

abbrev pub trail_later : ℕ → List Place → List TrailCell → List Mark
trail_later row [] cells = []
trail_later row (place ∷ places) cells =
    trail_marks row place.best (place.rest -ℤ values_in (in_element place.element cells)) places
    (behind_element place.element cells)

-- the marks of a pattern that are left, from a row on
pub record AreLeft (records : Records) (pattern : List (List ℕ)) (left : List Mark) : Type 0 where
  pub row : ℕ
  pub is : left ≡ marks_from pattern (last_item pattern) row (drop row records)

-- marks begin with a row, and with all of it
pub record IsFrontRow (marks : List Mark) (row : Row) : Type 0 where
  pub parts : marks ≡ row.first.now ∷ row.others.now ++ row.left.now
  pub all : length row.others.now ≡ front_of row.first.now.row (row.others.now ++ row.left.now)

-- the marks beside the first one of a row, those in the elements behind it, and the spans of these
abbrev pub row_beside : Row → List Mark
row_beside row = trail_beside row.first.now.row row.first.now.place (reverse row.stretch.cells.now)

abbrev pub row_later : Row → List Mark
row_later row =
    trail_later row.first.now.row (places_of (row.first.now ∷ row.others.now)) (reverse row.stretch.cells.now)

abbrev pub row_spans : Row → List Span
row_spans row =
    trail_spans row.stretch.low 0 (behind_element row.first.now.place.element (reverse row.stretch.cells.now))

-- those in the elements behind it are all marks of kept items there, with the cells behind each
pub record IsWalked (keep : ℕ → Bool) (records : Records) (trail : List TrailCell) (row : Row) : Type 0 where
  pub marks : row_later row ≡ filter (takes keep)
      (later_marks (record_at (weighed_of keep records) row.first.now.row) row.first.now.row
      (places_of (row.first.now ∷ row.others.now)))
  pub spans : AreSpans keep records trail (row_later row) (row_spans row)

-- marks of all kept items by which a pattern can grow, with the cells behind each
pub record AreReached (keep : ℕ → Bool) (records : Records) (trail : List TrailCell)
    (pattern : List (List ℕ)) (growth : Growth) (held : Held) : Type 0 where
  pub grown : AreGrown (weighed_of keep records) keep pattern growth held.marks.items
  pub spans : AreSpans keep records trail held.marks.items held.spans.items
