use Rattle.std.proofs.Common.{◌≡◌, ℕ, length, take}
use Rattle.hu_rows.specs.Handed.{reaches, handed_if, places_at, ArePlaces}
use Rattle.hu_totals.specs.View.{lists_in}
use Rattle.hu_rows.specs.View.{rows_of}
use Rattle.hu_rows.proofs.places.hand_rows.Given as goal

abbrev pub invariant-loop-row : goal.invariant-loop-row
invariant-loop-row l = record {
  len : length (lists_in l.lists.items) ≡ length (lists_in l.initial.lists.items);
  value : (rank : ℕ) → ArePlaces (rows_of l.rows) (handed_if (reaches l.tallies l.floor rank) rank (rows_of (take l.row l.rows)))
      (places_at (lists_in l.lists.items) rank);
}
