use Rattle.std.proofs.Common.{◌≡◌, ℕ, true, pos, take}
use Rattle.hu_search.specs.Slots.{at}
use Rattle.hu_list.specs.Level.{AreKept}
use Rattle.hu_list.proofs.level.keep_reaching.Given as goal
use Rattle.hu_totals.specs.Cells.{among}

abbrev pub invariant-loop-slot : goal.invariant-loop-slot
invariant-loop-slot g l = record {
  room : l.kept.room ≡ l.fn.kept.room;
  before : (z : ℕ) → among z l.kept.ranks ≡ true → among z (take l.slot l.found.ranks) ≡ true;
  kept : AreKept (g.G.Gate.IsRightFor l.gate) (g.G.Gate.floor l.gate) l.floor l.last (at (pos 0) l.found.ranks l.gains)
      (take l.slot l.found.ranks) l.kept.ranks;
}
