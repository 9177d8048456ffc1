use Rattle.std.proofs.Common.{ℕ, ◌<◌, ◌≤◌, Contains}
use Rattle.hu_kept.proofs.holders.add_range.Given as goal

abbrev pub invariant-loop-place : goal.invariant-loop-place
invariant-loop-place l = record {
  kept : (place : ℕ) → Contains l.initial.places.items place → Contains l.places.items place;
  range : (place : ℕ) → l.from ≤ place → place < l.place → Contains l.places.items place;
}
