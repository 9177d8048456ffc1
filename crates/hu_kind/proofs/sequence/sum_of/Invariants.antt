use Rattle.std.proofs.Common.{◌≡◌, ◌<◌, ◌^◌, pos, take, sum_by}
use Rattle.hu_kind.specs.Record.{absolute_of}
use Rattle.hu_kind.proofs.sequence.sum_of.Given as goal

abbrev pub invariant-loop-element : goal.invariant-loop-element
invariant-loop-element l =
    (l.sum ≡ pos (sum_by absolute_of (take l.element-index l.elements)))
    × (sum_by absolute_of (take l.element-index l.elements) < 2 ^ 127)
