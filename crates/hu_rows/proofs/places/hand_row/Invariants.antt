use Rattle.std.proofs.Common.{◌≡◌, ◌++◌, ◌-◌, ℕ, length, drop}
use Rattle.hu_totals.specs.View.{cells_of, lists_in}
use Rattle.hu_rows.specs.Handed.{reaches, places_at}
use Rattle.hu_rows.specs.Places.{places_from, places_in}
use Rattle.hu_rows.proofs.places.hand_row.Given as goal

abbrev pub invariant-loop-next : goal.invariant-loop-next
invariant-loop-next l = record {
  len : length (lists_in l.lists.items) ≡ length (lists_in l.initial.lists.items);
  value : (rank : ℕ) → places_at (lists_in l.lists.items) rank ++ places_from (reaches l.tallies l.floor) l.row (l.next - 1)
      (cells_of (drop (l.next - 1) l.cells)) rank
      ≡ places_at (lists_in l.initial.lists.items) rank ++ places_in (reaches l.tallies l.floor) l.row (cells_of l.cells) rank;
}
