use Rattle.std.proofs.Common.{◌≡◌, map, take}
use Rattle.hu_plain.specs.View.{row_of, rows_of}
use Rattle.hu_plain.proofs.grown.grown_rows.Given as goal

-- the rows so far
abbrev pub invariant-loop-one : goal.invariant-loop-one
invariant-loop-one l = rows_of l.rows.items ≡ map (λ one. row_of one.row) (take l.one-index l.one-items)
