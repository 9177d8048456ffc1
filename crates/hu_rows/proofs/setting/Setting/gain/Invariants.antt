use Rattle.std.proofs.Common.{◌≡◌, take}
use Rattle.hu_totals.specs.Cells.{kept_gain}
use Rattle.hu_totals.specs.View.{cells_of}
use Rattle.hu_rows.proofs.setting.Setting.gain.Given as goal

abbrev pub invariant-loop-cell : goal.invariant-loop-cell
invariant-loop-cell l = l.gain ≡ kept_gain l.self.kept (cells_of (take l.cell-index l.cells))
