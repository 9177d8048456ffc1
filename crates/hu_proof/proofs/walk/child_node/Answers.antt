use Rattle.std.proofs.lemmas.Bool.{both_ways}
use Rattle.hu_proof.proofs.Orders.{member-among}
use Rattle.hu_proof.proofs.walk.child_node.Goals as goal

pub unreachable-requires : goal.unreachable-requires
unreachable-requires c = both_ways _ c.in_default.ensures.none (member-among c.args.item.0 _ c.requires.later)
