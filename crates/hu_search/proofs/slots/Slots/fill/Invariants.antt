use Rattle.std.proofs.Common.{◌≡◌, take}
use Rattle.hu_search.proofs.slots.Slots.fill.Given as goal

abbrev pub invariant-loop-rank : goal.invariant-loop-rank
invariant-loop-rank l = record {
  room : l.self.room ≡ l.fn.self.room;
  ranks : l.self.ranks ≡ take l.rank-index l.ranks;
}
