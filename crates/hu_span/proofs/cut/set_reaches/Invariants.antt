use Rattle.std.proofs.Common.{◌≡◌, length, take}
use Rattle.hu_span.specs.Cut.{AreBelow}
use Rattle.hu_span.proofs.cut.set_reaches.Given as goal

abbrev pub invariant-rows : goal.invariant-rows
invariant-rows l = length l.reaches ≡ length l.initial.reaches

abbrev pub invariant-marks : goal.invariant-marks
invariant-marks l = AreBelow l.reaches (take l.mark-index l.marks)
