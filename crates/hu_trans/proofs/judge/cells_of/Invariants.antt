use Rattle.std.proofs.Common.{◌≡◌, ◌≤◌, ◌++◌, length, zip}
use Rattle.std.specs.Iterator.Adapters.{zip_first, zip_second}
use Rattle.std.specs.List.{All}
use Rattle.std.specs.Slice.Iter.{iter_rest}
use Rattle.hu_kind.specs.Cell.{pairs_of}
use Rattle.hu_trans.proofs.judge.cells_of.Given as goal

abbrev pub invariant-loop-item : goal.invariant-loop-item
invariant-loop-item l = record {
  ready : (goal.iterator-loop-item).can_next l.item-iterator;
  finite : (goal.iterator-loop-item).is_finite l.item-iterator;
  in_range : All (λ item. item ≤ 2147483647) (iter_rest (zip_first l.item-iterator));
  same : length (iter_rest (zip_first l.item-iterator)) ≡ length (iter_rest (zip_second l.item-iterator));
  so_far : pairs_of l.cells.items ++ zip (iter_rest (zip_first l.item-iterator)) (iter_rest (zip_second l.item-iterator)) ≡ zip l.items l.utilities;
}
