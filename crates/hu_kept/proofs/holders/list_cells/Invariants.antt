use Rattle.std.proofs.Common.{take}
use Rattle.hu_kind.specs.Cell.{pairs_of}
use Rattle.hu_kept.specs.Holders.{IsListed}
use Rattle.hu_kept.proofs.holders.list_cells.Given as goal

abbrev pub invariant-loop-cell : goal.invariant-loop-cell
invariant-loop-cell l = IsListed l.initial.places (pairs_of (take l.cell-index l.cells)) l.place l.places
