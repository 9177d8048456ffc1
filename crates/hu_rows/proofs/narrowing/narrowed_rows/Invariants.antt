use Rattle.std.proofs.Common.{◌≡◌, take}
use Rattle.hu_rows.specs.Handed.{reaches, narrowed}
use Rattle.hu_rows.specs.View.{rows_of}
use Rattle.hu_rows.proofs.narrowing.narrowed_rows.Given as goal

abbrev pub invariant-loop-row : goal.invariant-loop-row
invariant-loop-row l = rows_of l.narrowed.items ≡ narrowed (reaches l.tallies l.floor) (rows_of (take l.row-index l.rows))
