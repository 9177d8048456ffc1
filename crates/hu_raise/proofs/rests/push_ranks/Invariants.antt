use Rattle.std.proofs.Common.{◌≡◌, ◌++◌, map, take}
use Rattle.hu_kind.specs.Record.{items_in}
use Rattle.hu_totals.specs.View.{dense_pair}
use Rattle.hu_raise.proofs.rests.push_ranks.Given as goal

abbrev pub invariant-loop-cell : goal.invariant-loop-cell
invariant-loop-cell l = l.ranks.items ≡ l.initial.ranks.items ++ items_in (map dense_pair (take l.cell-index l.cells))
