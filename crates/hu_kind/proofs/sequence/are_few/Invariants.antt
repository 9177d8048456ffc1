use Rattle.std.proofs.Common.{◌≡◌, ◌≤◌, length, take, sum_by}
use Rattle.std.specs.List.{AllByRecursion}
use Rattle.hu_kind.specs.Record.{IsItemset}
use Rattle.hu_kind.proofs.sequence.are_few.Given as goal

abbrev pub invariant-loop-element : goal.invariant-loop-element
invariant-loop-element l = record {
  count : l.count ≡ sum_by length (take l.element-index l.elements);
  few : l.count ≤ 4096;
  itemsets : AllByRecursion IsItemset (take l.element-index l.elements);
}
