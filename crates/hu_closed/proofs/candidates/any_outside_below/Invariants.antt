use Rattle.std.proofs.Common.{◌≡◌, false, take}
use Rattle.std.specs.List.{list_any}
use Rattle.hu_closed.specs.Keys.{is_outside}
use Rattle.hu_closed.proofs.candidates.any_outside_below.Given as goal

abbrev pub invariant-loop-rank : goal.invariant-loop-rank
invariant-loop-rank l = list_any (is_outside l.key) (take l.rank l.ranked.items) ≡ false
