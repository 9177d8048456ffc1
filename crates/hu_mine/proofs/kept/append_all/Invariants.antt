use Rattle.std.proofs.Common.{◌≡◌, ◌++◌}
use Rattle.hu_base.specs.Base.{records_in}
use Rattle.hu_mine.proofs.kept.append_all.Given as goal

abbrev pub invariant-loop-batch : goal.invariant-loop-batch
invariant-loop-batch l = record {
  least : (l.kept).least ≡ (l.initial.kept).least;
  top : (l.kept).top ≡ (l.initial.kept).top;
  closed : (l.kept).closed ≡ (l.initial.kept).closed;
  parts : (l.kept).records ++ records_in l.batch-iterator.rest.items ≡ (l.initial.kept).records ++ records_in l.fn.batches.items;
}
