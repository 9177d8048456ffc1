use Rattle.hu_shelf.proofs.RecordLemmas.{pushed_more}
use Rattle.hu_shelf.proofs.records.push_records.Goals as goal

pub loop-one-preserved : goal.loop-one-preserved
loop-one-preserved c =
    pushed_more c.args.text.now.items c.loop-one.text.items c.push_record.new.text.items c.args.records.now c.loop-one.one-index c.one-item.result
    c.loop-one-test.true c.one-item.is c.loop-one.invariant c.in_ok-push_record.ensures.text c.in_ok-push_record.ensures.written
