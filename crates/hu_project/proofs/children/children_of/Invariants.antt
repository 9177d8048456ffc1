use Rattle.std.proofs.Common.{◌≡◌, take}
use Rattle.std.specs.List.{flat_map}
use Rattle.hu_project.specs.Children.{child_if}
use Rattle.hu_project.proofs.children.children_of.Given as goal

abbrev pub invariant-loop-rank : goal.invariant-loop-rank
invariant-loop-rank l = l.children.items ≡ flat_map (child_if l.tallies) (take l.rank-index l.met)
