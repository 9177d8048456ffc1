use Rattle.std.proofs.Common.{◌≡◌, map, length}
use Rattle.std.specs.List.{range_with_len}
use Rattle.hu_totals.specs.View.{pairs_in, lists_in}
use Rattle.hu_raise.specs.Partners.{partners}
use Rattle.hu_raise.specs.View.{waiting_in}
use Rattle.hu_raise.proofs.TurnLemmas.{AreWaiting}
use Rattle.hu_raise.proofs.partners.partners_over.Given as goal

abbrev pub invariant-loop-rank : goal.invariant-loop-rank
invariant-loop-rank l = record {
  long : length l.sums ≡ l.ranks;
  waiting : AreWaiting l.ranks l.rank (map pairs_in l.records) (waiting_in l.waiting.items);
  found : lists_in l.table.items ≡ map (partners (map pairs_in l.records) l.floor l.ranks) (range_with_len 0 l.rank);
}
