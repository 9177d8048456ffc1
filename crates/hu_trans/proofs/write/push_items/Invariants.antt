use Rattle.std.proofs.Common.{◌≡◌, ◌++◌, map, take, decimal}
use Rattle.std.specs.List.{join_with_byte}
use Rattle.hu_kind.specs.Cell.{pairs_of}
use Rattle.hu_trans.proofs.write.push_items.Given as goal

abbrev pub invariant-loop-at : goal.invariant-loop-at
invariant-loop-at l = l.line.items ≡ l.initial.line.items ++ join_with_byte 32 (map (λ cell. decimal cell.0) (pairs_of (take l.at l.cells)))
