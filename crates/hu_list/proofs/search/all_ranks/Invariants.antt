use Rattle.std.proofs.Common.{◌≡◌, ◌<◌, ℕ, true, length}
use Rattle.hu_totals.specs.Cells.{among}
use Rattle.hu_list.proofs.search.all_ranks.Given as goal

abbrev pub invariant-loop-rank : goal.invariant-loop-rank
invariant-loop-rank l = record {
  room : l.slots.room ≡ length l.ranked.items;
  below : (z : ℕ) → among z l.slots.ranks ≡ true → z < l.rank;
  all : (z : ℕ) → z < l.rank → among z l.slots.ranks ≡ true;
}
