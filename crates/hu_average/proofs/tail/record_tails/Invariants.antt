use Rattle.std.proofs.Common.{◌≡◌, map, take}
use Rattle.hu_totals.specs.View.{pairs_in}
use Rattle.hu_average.specs.Tails.{tail_from, tails_of}
use Rattle.hu_average.proofs.tail.record_tails.Given as goal

abbrev pub invariant-loop-cells : goal.invariant-loop-cells
invariant-loop-cells l = tails_of l.tails.items ≡ map (λ cells. tail_from (pairs_in cells)) (take l.cells-index l.records)
