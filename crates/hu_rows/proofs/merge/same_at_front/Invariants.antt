use Rattle.std.proofs.Common.{◌≡◌, ◌≤◌, ◌-◌, ◌+◌, length, drop}
use Rattle.std.specs.List.{prefix_len}
use Rattle.hu_rows.specs.View.{row_of, same_ranks}
use Rattle.hu_rows.proofs.merge.same_at_front.Given as goal

abbrev pub invariant-loop-same : goal.invariant-loop-same
invariant-loop-same l = record {
  within : l.same ≤ length l.rest;
  count : l.same + prefix_len (same_ranks (row_of l.first)) (drop l.same l.rest) ≡ prefix_len (same_ranks (row_of l.first)) l.rest;
}

abbrev pub decreases-loop-same : goal.decreases-loop-same
decreases-loop-same l = length l.rest - l.same
