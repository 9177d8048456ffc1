use Rattle.std.proofs.Common.{take, sym, subst, arith}
use Rattle.std.proofs.lemmas.Grind.{common_steps}
use Rattle.std.proofs.lemmas.List.{take_more}
use Rattle.hu_kind.specs.Order.{Ascend}
use Rattle.hu_kind.specs.Record.{items_in}
use Rattle.hu_kind.proofs.lemmas.Ascending.{Ascend-adjacent}
use Rattle.hu_kind.proofs.lemmas.Each.{each-push}
use Rattle.hu_proof.specs.Places.{AllAscend}
use Rattle.hu_proof.proofs.place.first_places.Goals as goal

pub loop-record-preserved : goal.loop-record-preserved
loop-record-preserved c =
    let r = c.record-item.result in
    let up : Ascend (items_in r) = Ascend-adjacent r c.cells.ensures.rules.itemset.ascending in
    let more = take_more c.args.records.now c.loop-record.record-index r c.loop-record-test.true in
    record {
      so_far = grind (arith, common_steps);
      rises = subst AllAscend (sym more)
          (each-push (λ r. Ascend (items_in r)) (take c.loop-record.record-index c.args.records.now) _ c.loop-record.invariant.rises
          (subst (λ r. Ascend (items_in r)) c.record-item.is up));
    }
