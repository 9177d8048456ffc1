use Rattle.std.proofs.Common.{◌≡◌, ◌+◌, drop}
use Rattle.hu_span.specs.Gather.{front_of}
use Rattle.hu_span.proofs.rows.row_len.Given as goal

abbrev pub invariant-loop-number : goal.invariant-loop-number
invariant-loop-number l = l.number + front_of l.row (drop l.number l.marks) ≡ front_of l.row l.marks
