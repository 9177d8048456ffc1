use Rattle.std.proofs.Common.{◌≡◌, take, map, [], ◌∷◌}
use Rattle.hu_totals.specs.View.{pairs_in}
use Rattle.hu_list.specs.Nodes.{list_of}
use Rattle.hu_list.proofs.single.nodes_with.Given as goal

abbrev pub invariant-loop-place : goal.invariant-loop-place
invariant-loop-place l = l.nodes.items ≡ list_of (map pairs_in (take l.place l.records)) (l.rank ∷ [])
