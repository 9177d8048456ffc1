use Rattle.std.proofs.Common.{◌≡◌, ℕ, ◌⊎◌, length, drop, Contains}
use Rattle.hu_rows.specs.Tally.{tally_at, no_tally}
use Rattle.hu_project.proofs.children.forget.Given as goal

abbrev pub invariant-loop-rank : goal.invariant-loop-rank
invariant-loop-rank l = record {
  len : length l.tallies ≡ length l.initial.tallies;
  each : (rank : ℕ) → Contains (drop l.rank-index l.met) rank ⊎ (tally_at l.tallies rank ≡ no_tally);
}
