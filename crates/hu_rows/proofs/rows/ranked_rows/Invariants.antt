use Rattle.std.proofs.Common.{◌≡◌, map, take}
use Rattle.hu_totals.specs.View.{pairs_in}
use Rattle.hu_rows.specs.Rows.{unmerged}
use Rattle.hu_rows.specs.View.{rows_of}
use Rattle.hu_rows.proofs.rows.ranked_rows.Given as goal

abbrev pub invariant-loop-record : goal.invariant-loop-record
invariant-loop-record l = rows_of l.rows.items ≡ map unmerged (map pairs_in (take l.record-index l.record-items))
