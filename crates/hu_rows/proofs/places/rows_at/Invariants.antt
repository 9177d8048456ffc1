use Rattle.std.proofs.Common.{◌≡◌, map, take}
use Rattle.hu_rows.specs.Handed.{row_at}
use Rattle.hu_rows.specs.View.{rows_of}
use Rattle.hu_rows.proofs.places.rows_at.Given as goal

abbrev pub invariant-loop-place : goal.invariant-loop-place
invariant-loop-place l = rows_of l.answer.items ≡ map (row_at l.rows) (take l.place-index l.places)
