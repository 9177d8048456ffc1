use Rattle.std.proofs.Common.{◌≡◌, take}
use Rattle.hu_totals.specs.View.{cells_of}
use Rattle.hu_rows.specs.Handed.{reaches, only}
use Rattle.hu_rows.proofs.narrowing.keep_cells.Given as goal

abbrev pub invariant-loop-cell : goal.invariant-loop-cell
invariant-loop-cell l = cells_of l.kept.items ≡ only (reaches l.tallies l.floor) (cells_of (take l.cell-index l.cells))
