use Rattle.std.proofs.Common.{◌≡◌, take}
use Rattle.hu_rows.specs.Projection.{projected}
use Rattle.hu_rows.specs.View.{rows_of}
use Rattle.hu_rows.proofs.projection.projected_rows.Given as goal

abbrev pub invariant-loop-row : goal.invariant-loop-row
invariant-loop-row l = rows_of l.projected.items ≡ projected l.z (rows_of (take l.row-index l.row-items))
