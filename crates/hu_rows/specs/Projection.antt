-- Rows projected by a rank: those that hold it, each with its cells after the rank and its `before` grown by the rank's
-- value. After EFIM (Zida and others, 2015).
use Rattle.std.specs.Prelude.{ℕ, ◌+ℤ◌, List, [], ◌∷◌, if◌then◌else◌}
use Rattle.std.specs.List.{flat_map}
use Rattle.hu_kind.specs.Record.{has, value_of}
use Rattle.hu_totals.specs.Cells.{after}
use Rattle.hu_rows.specs.Rows.{RowOf}

-- a row that holds a rank, projected by it
abbrev pub projected_row : ℕ → RowOf → List RowOf
projected_row z row =
    if has z row.cells
    then record {
      before = row.before +ℤ value_of z row.cells;
      count = row.count;
      cells =
          after z row.cells;
    } ∷ []
    else []

-- rows projected by a rank
abbrev pub projected : ℕ → List RowOf → List RowOf
projected z rows = flat_map (projected_row z) rows
