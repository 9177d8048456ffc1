use Rattle.std.proofs.Common.{◌≡◌, ◌++◌, codes, take, flat_map}
use Rattle.hu_kind.specs.Cell.{pair_of}
use Rattle.hu_seq.specs.Canonical.{cell_text}
use Rattle.hu_seq.proofs.write.push_element.Given as goal

abbrev pub invariant-loop-cell : goal.invariant-loop-cell
invariant-loop-cell l = l.line.items ≡ l.initial.line.items ++ flat_map (λ cell. cell_text (pair_of cell) ++ codes " ") (take l.cell-index l.cell-items)
