use Rattle.std.proofs.Common.{◌≡◌, take}
use Rattle.hu_totals.specs.View.{cells_of}
use Rattle.hu_rows.specs.Merging.{added_cells}
use Rattle.hu_rows.proofs.merge.add_cells.Given as goal

abbrev pub invariant-loop-i : goal.invariant-loop-i
invariant-loop-i l = cells_of l.cells ≡ added_cells (cells_of l.initial.cells) (take l.i (cells_of l.others))
