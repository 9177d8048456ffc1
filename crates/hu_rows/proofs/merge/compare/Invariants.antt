use Rattle.std.proofs.Common.{◌≡◌, ◌≤◌, take, length, reverse}
use Rattle.std.specs.Ordering.{nat_cmp}
use Rattle.std.specs.Cmp.Lexicographic.{slice_cmp}
use Rattle.hu_rows.specs.Merging.{row_cmp}
use Rattle.hu_rows.specs.View.{row_of}
use Rattle.hu_kind.specs.Record.{items_in}
use Rattle.hu_totals.specs.View.{cells_of}
use Rattle.hu_rows.proofs.merge.compare.Given as goal

abbrev pub invariant-loop-left : goal.invariant-loop-left
invariant-loop-left l = record {
  left : l.left ≤ length l.a.cells.now;
  right : l.right ≤ length l.b.cells.now;
  same : slice_cmp nat_cmp (reverse (take l.left (items_in (cells_of l.a.cells.now)))) (reverse (take l.right (items_in (cells_of l.b.cells.now))))
      ≡ row_cmp (row_of l.a) (row_of l.b);
}

abbrev pub decreases-loop-left : goal.decreases-loop-left
decreases-loop-left l = l.left
