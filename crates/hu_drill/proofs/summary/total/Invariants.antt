use Rattle.std.proofs.Common.{◌≡◌, ◌≤◌, take, sum_by}
use Rattle.std.specs.Prelude.{unsigned_abs}
use Rattle.hu_drill.specs.Summary.{total_of}
use Rattle.hu_drill.proofs.summary.total.Given as goal

-- the sum of the entries so far, which is within that of their absolute values
abbrev pub invariant-loop-entry : goal.invariant-loop-entry
invariant-loop-entry l = record {
  value : l.sum ≡ total_of (take l.entry-index l.entries);
  within : unsigned_abs l.sum ≤ sum_by (λ entry. unsigned_abs entry.utility) (take l.entry-index l.entries);
}
