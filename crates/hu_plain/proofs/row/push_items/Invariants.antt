use Rattle.std.proofs.Common.{take}
use Rattle.hu_kind.specs.Cell.{pairs_of}
use Rattle.hu_kind.specs.Record.{items_in}
use Rattle.hu_plain.specs.View.{Appends}
use Rattle.hu_plain.proofs.row.push_items.Given as goal

abbrev pub invariant-loop-cell : goal.invariant-loop-cell
invariant-loop-cell l = Appends l.initial.items.items (items_in (pairs_of (take l.cell-index l.cells))) l.items.items
