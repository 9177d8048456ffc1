use Rattle.std.proofs.Common.{List, take, ◌++◌}
use Rattle.hu_span.specs.declared.mark.Mark.{Mark}
use Rattle.hu_span.specs.Child.{AreTold}
use Rattle.hu_span.proofs.child.tell_all.Given as goal

abbrev pub invariant-marks : goal.invariant-marks
invariant-marks l = (before : List Mark) → AreTold l.reaches l.initial.links l.initial.tells.items before
    → AreTold l.reaches l.links l.tells.items (before ++ take l.mark-index l.marks)
