use Rattle.std.proofs.Common.{◌≡◌, fold, take}
use Rattle.hu_kind.specs.Cell.{pairs_of}
use Rattle.hu_totals.specs.Adding.{pairs_with, with_cell}
use Rattle.hu_totals.proofs.totals.add_record.Given as goal

abbrev pub invariant-loop-cell : goal.invariant-loop-cell
invariant-loop-cell l = pairs_with l.totals.entries ≡ fold (with_cell l.gain) (pairs_with l.initial.totals.entries) (pairs_of (take l.cell-index l.cells))
