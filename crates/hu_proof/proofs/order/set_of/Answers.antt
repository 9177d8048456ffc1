use Rattle.std.proofs.Common.{◌∙◌}
use Rattle.hu_proof.proofs.OrderLemmas.{put-next}
use Rattle.hu_proof.proofs.order.set_of.Goals as goal

pub loop-item-preserved : goal.loop-item-preserved
loop-item-preserved c =
    c.in_ok-insert.ensures.keys
    ∙ put-next c.args.items.now c.loop-item.item-index (record { 0 = 0 }) c.loop-item.set.keys c.requires c.loop-item-test.true c.loop-item.invariant
