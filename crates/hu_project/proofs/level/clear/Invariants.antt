use Rattle.std.proofs.Common.{◌≡◌, ℕ, [], ◌⊎◌, length, drop, Contains}
use Rattle.hu_rows.specs.Handed.{places_at}
use Rattle.hu_search.specs.Children.{ranks_of}
use Rattle.hu_project.proofs.level.clear.Given as goal

abbrev pub invariant-loop-child : goal.invariant-loop-child
invariant-loop-child l = record {
  len : length l.places ≡ length l.initial.places;
  each : (rank : ℕ) → Contains (ranks_of (drop l.child-index l.children)) rank ⊎ (places_at l.places rank ≡ []);
}
