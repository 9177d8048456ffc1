use Rattle.std.proofs.Common.{◌≡◌, map, take}
use Rattle.hu_plain.specs.Grown.{all_grown, pair_with}
use Rattle.hu_plain.specs.View.{rows_of}
use Rattle.hu_plain.proofs.grown.all_grown.Given as goal

-- what all items make of the rows so far
abbrev pub invariant-loop-row : goal.invariant-loop-row
invariant-loop-row l = map pair_with l.grown.items ≡ all_grown (rows_of (take l.row-index l.rows))
