use Rattle.std.proofs.Common.{◌≡◌, take}
use Rattle.std.specs.List.{flat_map}
use Rattle.hu_project.specs.Children.{open_if}
use Rattle.hu_project.proofs.children.open_of.Given as goal

abbrev pub invariant-loop-child : goal.invariant-loop-child
invariant-loop-child l = l.chosen.items ≡ flat_map (open_if l.tallies l.floor) (take l.child-index l.kept)
