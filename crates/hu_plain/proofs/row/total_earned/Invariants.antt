use Rattle.std.proofs.Common.{◌≡◌, [], take}
use Rattle.hu_plain.specs.Row.{earned}
use Rattle.hu_plain.specs.View.{rows_of}
use Rattle.hu_plain.proofs.row.total_earned.Given as goal

abbrev pub invariant-loop-row : goal.invariant-loop-row
invariant-loop-row l = l.sum ≡ earned (rows_of (take l.row-index l.rows)) []
