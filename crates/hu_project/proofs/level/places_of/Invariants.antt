use Rattle.std.proofs.Common.{◌≡◌, map, take}
use Rattle.hu_rows.specs.Handed.{places_at}
use Rattle.hu_totals.specs.View.{lists_in}
use Rattle.hu_project.proofs.level.places_of.Given as goal

abbrev pub invariant-loop-child : goal.invariant-loop-child
invariant-loop-child l = lists_in l.lists.items ≡ map (λ child. places_at l.places child.rank) (take l.child-index l.children)
