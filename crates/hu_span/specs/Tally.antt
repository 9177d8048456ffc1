-- What marks of one pattern tell, summed row by row.
use Rattle.std.specs.Prelude.{
  ◌==◌,
  ◌+◌,
  ◌&&◌,
  ℕ,
  nat_lt,
  ℤ,
  pos,
  Option,
  None,
  Some,
  ◌+ℤ◌,
  ◌≤ℤ◌,
  List,
  [],
  ◌∷◌,
  if◌then◌else◌,
}
use Rattle.std.specs.Int.{int_max}
use Rattle.std.specs.Prelude.{◌≡◌, IfSome}
use Rattle.hu_chain.specs.Bound.{reach}
use Rattle.hu_span.specs.Cut.{at_row, spread}
use Rattle.hu_span.specs.declared.mark.Mark.{Mark}
use Rattle.hu_span.specs.declared.tally.Tally.{Tally}
use Rattle.hu_span.specs.declared.tally.Told.{Told}

-- what no mark tells
abbrev pub none_told : Tally
none_told = record { row = 0; rows = 0; best = pos 0; bests = pos 0; reach = pos 0; reaches = pos 0 }

-- one more mark of the last row
abbrev pub same_row : Tally → Mark → Tally
same_row t mark = record {
  row = t.row;
  rows = t.rows;
  best = int_max t.best mark.place.best;
  bests = t.bests;
  reach = int_max t.reach (reach mark.place);
  reaches = t.reaches;
}

-- the first mark of the next row
abbrev pub next_row : Tally → Mark → Tally
next_row t mark = record {
  row = mark.row;
  rows = t.rows + 1;
  best = mark.place.best;
  bests = t.bests +ℤ t.best;
  reach = reach mark.place;
  reaches = t.reaches +ℤ t.reach;
}

-- one more mark
abbrev pub told_with : Tally → Mark → Tally
told_with t mark = if nat_lt 0 t.rows && (t.row == mark.row) then same_row t mark else next_row t mark

-- and further ones
abbrev pub told_from : Tally → List Mark → Tally
told_from t [] = t
told_from t (mark ∷ marks) = told_from (told_with t mark) marks

-- what marks tell: the sum of the greatest utilities of the rows, and of those with all that is left
abbrev pub told : List Mark → Tally
told marks = told_from none_told marks

abbrev pub bests_of : Tally → ℤ
bests_of t = t.bests +ℤ t.best

abbrev pub reaches_of : Tally → ℤ
reaches_of t = t.reaches +ℤ t.reach

-- how often a utility counts: once, where there is one
abbrev pub count_of : Option ℤ → ℕ
count_of None = 0
count_of (Some u) = 1

-- no sum of a tally is below 0
pub record IsTally (t : Tally) : Type 0 where
  pub best : pos 0 ≤ℤ t.best
  pub bests : pos 0 ≤ℤ t.bests
  pub reach : t.best ≤ℤ t.reach
  pub reaches : t.bests ≤ℤ t.reaches

-- what a mark more in a row adds to the sum over rows: the row's, where it is the first of the row
abbrev pub spread_more : List ℤ → Tally → ℕ → ℤ
spread_more reaches t row = if nat_lt 0 t.rows && (t.row == row) then pos 0 else at_row reaches row

-- what is told of marks: their tally, and the sum over their rows where it is known
pub record IsTold (reaches : List ℤ) (marks : List Mark) (what : Told) : Type 0 where
  pub tally : what.tally ≡ told marks
  pub spread : IfSome what.spread (λ sum. sum ≡ spread reaches marks)
