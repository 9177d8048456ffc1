use Rattle.std.specs.Prelude.{take}
use Rattle.hu_span.specs.Kept.{IsTable}
use Rattle.hu_span.proofs.kept.table_of.Given as goal

abbrev pub invariant-loop-item : goal.invariant-loop-item
invariant-loop-item l = IsTable (take l.item-index l.items) l.table.items
