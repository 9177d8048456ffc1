use Rattle.std.proofs.Common.{◌≡◌, map, take}
use Rattle.hu_totals.specs.View.{pairs_in}
use Rattle.hu_list.specs.Tails.{tail_from}
use Rattle.hu_list.specs.View.{tails_of}
use Rattle.hu_list.proofs.search.record_tails.Given as goal

abbrev pub invariant-loop-cells : goal.invariant-loop-cells
invariant-loop-cells l = tails_of l.tails.items ≡ map (λ cells. tail_from (pairs_in cells)) (take l.cells-index l.records)
