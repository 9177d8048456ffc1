use Rattle.std.proofs.Common.{◌≡◌, ◌≤◌, take}
use Rattle.std.specs.List.{All}
use Rattle.hu_kind.specs.Cell.{pairs_of}
use Rattle.hu_seq.specs.Reading.{cells}
use Rattle.hu_seq.proofs.itemset.read_cells.Given as goal

abbrev pub invariant-loop-token : goal.invariant-loop-token
invariant-loop-token l = record {
  value : pairs_of l.cells.items ≡ cells (take l.token-index l.itemset);
  in_range : All (λ cell. cell.item.0 ≤ 2147483647) l.cells.items;
}
