use Rattle.std.proofs.Common.{◌≡◌, [], replicate}
use Rattle.hu_certify.specs.Slots.{lists_of}
use Rattle.hu_certify.proofs.lists.empty_lists.Given as goal

abbrev pub invariant-loop : goal.invariant-loop
invariant-loop l = lists_of l.lists.items ≡ replicate l.counter []
