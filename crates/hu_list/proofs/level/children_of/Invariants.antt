use Rattle.std.proofs.Common.{◌≡◌, take}
use Rattle.std.specs.List.{AllByRecursion}
use Rattle.hu_search.specs.declared.child.Child.{Child}
use Rattle.hu_search.specs.Children.{ranks_of}
use Rattle.hu_search.specs.Slots.{at}
use Rattle.hu_list.specs.Passes.{no_sum}
use Rattle.hu_list.specs.Level.{sum_of}
use Rattle.hu_list.proofs.level.children_of.Given as goal

abbrev pub invariant-loop-slot : goal.invariant-loop-slot
invariant-loop-slot l = record {
  ranks : ranks_of l.children.items ≡ take l.slot l.ranks;
  sums : AllByRecursion (λ (child : Child). sum_of child ≡ at no_sum l.ranks l.sums child.rank) l.children.items;
}
