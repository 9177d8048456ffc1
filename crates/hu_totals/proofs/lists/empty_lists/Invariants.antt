use Rattle.std.proofs.Common.{◌≡◌, [], replicate}
use Rattle.hu_totals.specs.View.{lists_in}
use Rattle.hu_totals.proofs.lists.empty_lists.Given as goal

abbrev pub invariant-loop-list : goal.invariant-loop-list
invariant-loop-list g l = lists_in l.lists.items ≡ replicate l._list []
