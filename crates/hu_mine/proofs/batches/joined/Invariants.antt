use Rattle.std.proofs.Common.{◌≡◌, ◌++◌}
use Rattle.hu_base.specs.Base.{carried_of, records_of, records_in}
use Rattle.hu_mine.proofs.batches.joined.Given as goal

abbrev pub invariant-loop-batch : goal.invariant-loop-batch
invariant-loop-batch g l = record {
  carried : carried_of l.base ≡ 0;
  parts : records_of l.base ++ records_in l.batch-iterator.rest.items ≡ records_in l.fn.batches.items;
}
