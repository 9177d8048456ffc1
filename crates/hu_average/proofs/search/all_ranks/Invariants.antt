use Rattle.std.proofs.Common.{ℕ, ◌<◌}
use Rattle.std.specs.List.{AllByRecursion}
use Rattle.hu_kind.specs.Order.{Ascend}
use Rattle.hu_kind.proofs.lemmas.Members.{Member}
use Rattle.hu_average.proofs.search.all_ranks.Given as goal

abbrev pub invariant-loop-rank : goal.invariant-loop-rank
invariant-loop-rank l = record {
  below : AllByRecursion (λ z. z < l.rank) l.ranks.items;
  ascending : Ascend l.ranks.items;
  whole : (z : ℕ) → z < l.rank → Member z l.ranks.items;
}
