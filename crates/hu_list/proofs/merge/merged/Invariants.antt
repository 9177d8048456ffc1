use Rattle.std.proofs.Common.{◌≡◌, ◌++◌, drop}
use Rattle.hu_list.specs.Joins.{merged, AllFit}
use Rattle.hu_list.proofs.merge.merged.Given as goal

abbrev pub invariant-nodes : goal.invariant-nodes
invariant-nodes l = record {
  is : l.nodes.items ++ merged l.before l.others (drop l.node-index l.y) ≡ merged l.prefix l.x l.y;
  fit : AllFit l.before l.others (drop l.node-index l.y);
}
