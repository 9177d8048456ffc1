use Rattle.std.proofs.Common.{refl, ap, ◌∙◌}
use Rattle.hu_proof.specs.Waiting.{stack_of}
use Rattle.hu_proof.proofs.WalkLemmas.{stack-push, pushes-one, none-from_some}
use Rattle.hu_proof.proofs.walk.push_child.Goals as goal

pub returns-in_ok-push : goal.returns-in_ok-push
returns-in_ok-push c =
    pushes-one c.args.order.now c.args.depth c.args.node.now.from _ c.args.token.now _ _ _ (none-from_some c.args.token.now.bound c.if-is_none.ensures)
    (record { at_depth = refl; of_item = refl; later = c.in_ok-child_node.ensures.after; narrow = c.in_ok-child_node.ensures.places })
    (ap stack_of c.in_ok-push.ensures.items ∙ stack-push c.args.waiting.now.items _)
