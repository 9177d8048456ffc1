use Rattle.std.proofs.Common.{◌≡◌, take}
use Rattle.hu_kind.specs.Cell.{pairs_of}
use Rattle.hu_sample.proofs.itemsets.cells_of.Given as goal

abbrev pub invariant-pairs : goal.invariant-pairs
invariant-pairs l = pairs_of l.cells.items ≡ take l.item-index l.pairs
