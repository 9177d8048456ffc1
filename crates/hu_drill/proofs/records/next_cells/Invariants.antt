use Rattle.std.proofs.Common.{◌≡◌, ◌*◌}
use Rattle.hu_kind.specs.Cell.{pairs_of}
use Rattle.hu_drill.specs.Draws.{after_draws}
use Rattle.hu_drill.specs.Drilled.{cells_of}
use Rattle.hu_drill.proofs.records.next_cells.Given as goal

-- the cells before a place
abbrev pub invariant-loop-place : goal.invariant-loop-place
invariant-loop-place l = record {
  state : l.draws.state ≡ after_draws (2 * l.place) l.initial.draws.state;
  value : pairs_of l.cells.items ≡ cells_of l.place l.initial.draws.state;
}
