use Rattle.std.proofs.Common.{length, take}
use Rattle.std.specs.List.{AllZip}
use Rattle.hu_seq.specs.Reading.{itemsets}
use Rattle.hu_seq.specs.Itemset.{IsOrdered}
use Rattle.hu_seq.proofs.itemset.elements.Given as goal

abbrev pub invariant-loop-itemset : goal.invariant-loop-itemset
invariant-loop-itemset l = AllZip IsOrdered (take (length l.yielded) (itemsets l.body)) l.elements.items
