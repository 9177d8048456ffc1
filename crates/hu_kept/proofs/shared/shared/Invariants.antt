use Rattle.std.proofs.Common.{◌≡◌, take}
use Rattle.hu_base.specs.Base.{carried_of, records_of}
use Rattle.hu_kept.specs.Shared.{shared_at}
use Rattle.hu_kept.proofs.shared.shared.Given as goal

abbrev pub invariant-loop-place : goal.invariant-loop-place
invariant-loop-place l = record {
  carried : carried_of l.narrow ≡ 0;
  records : records_of l.narrow ≡ shared_at l.batch (records_of l.base) (take l.place-index l.places);
}
