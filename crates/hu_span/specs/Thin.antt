-- The cells behind marks where fewer items count, copied from the last mark back.
use Rattle.std.specs.Prelude.{◌≡◌, ◌≤◌, ◌-◌, ℕ, ℤ, Bool, List, drop, length, take}
use Rattle.std.specs.List.{filter}
use Rattle.hu_span.specs.declared.mark.Mark.{Mark}
use Rattle.hu_span.specs.declared.thin.Run.{Run}
use Rattle.hu_span.specs.declared.trail.TrailCell.{TrailCell}
use Rattle.hu_span.specs.Trail.{is_held, values_in}

-- a mark with another rest
abbrev pub resting : Mark → ℤ → Mark
resting mark rest = record {
  item = mark.item;
  row = mark.row;
  place = record { element = mark.place.element; cell = mark.place.cell; best = mark.place.best; rest = rest };
}

-- the cells of a trail from a place on, up to another
abbrev pub stretch : List TrailCell → ℕ → ℕ → List TrailCell
stretch trail low high = take (high - low) (drop low trail)

-- a stretch of a trail whose kept cells stand at the end of another trail, and sum so
pub record IsRun (keep : ℕ → Bool) (trail thin : List TrailCell) (run : Run) : Type 0 where
  pub ordered : run.low ≤ run.high
  pub within : run.high ≤ length trail
  pub start : run.start ≤ length thin
  pub cells : drop run.start thin ≡ filter (is_held keep) (stretch trail run.low run.high)
  pub sum : run.sum ≡ values_in (drop run.start thin)
