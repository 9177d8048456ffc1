use Rattle.std.proofs.Common.{◌≡◌, take}
use Rattle.std.specs.List.{AllByRecursion}
use Rattle.hu_average.specs.Children.{IsChild, ranks_of}
use Rattle.hu_average.proofs.children.children_of.Given as goal

abbrev pub invariant-loop-at : goal.invariant-loop-at
invariant-loop-at l = record {
  ranks : ranks_of l.children.items ≡ take l.at l.later;
  each : AllByRecursion (IsChild l.ranked l.ranks) l.children.items;
}
