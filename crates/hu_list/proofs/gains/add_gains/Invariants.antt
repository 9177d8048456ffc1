use Rattle.std.proofs.Common.{◌≡◌, ◌<◌, ◌+◌, ◌^◌, ℕ, pos, true, unsigned_abs, length, drop}
use Rattle.hu_kind.specs.Record.{has}
use Rattle.hu_totals.specs.View.{cells_of}
use Rattle.hu_search.specs.Slots.{at}
use Rattle.hu_list.specs.Tails.{size_of}
use Rattle.hu_list.specs.Passes.{met, gaining}
use Rattle.hu_list.specs.View.{tail_of}
use Rattle.hu_list.proofs.gains.add_gains.Given as goal

abbrev pub invariant-loop-cell : goal.invariant-loop-cell
invariant-loop-cell l = record {
  room : l.found.room ≡ l.fn.found.room;
  len : length l.gains.items ≡ length l.found.ranks;
  fits : (z : ℕ) → has z (cells_of (drop l.cell-index l.tail.cells.now)) ≡ true
      → unsigned_abs (at (pos 0) l.found.ranks l.gains.items z) + size_of (tail_of l.tail) < 2 ^ 127;
  gains : (z : ℕ) → met (gaining l.kept.ranks (tail_of l.tail)) z (cells_of (drop l.cell-index l.tail.cells.now)) (at (pos 0) l.found.ranks l.gains.items z)
      ≡ met (gaining l.kept.ranks (tail_of l.tail)) z (tail_of l.tail).cells (at (pos 0) l.fn.found.ranks l.fn.gains.items z);
}
