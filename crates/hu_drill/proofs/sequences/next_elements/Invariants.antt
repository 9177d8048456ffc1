use Rattle.std.proofs.Common.{◌≡◌, ◌*◌}
use Rattle.hu_drill.specs.Draws.{after_draws}
use Rattle.hu_drill.specs.Drilled.{elements_of}
use Rattle.hu_drill.proofs.sequences.next_elements.Given as goal

-- the elements so far
abbrev pub invariant-loop : goal.invariant-loop
invariant-loop l = record {
  state : l.draws.state ≡ after_draws (4 * l.counter) l.initial.draws.state;
  value : l.list.items ≡ elements_of l.counter l.initial.draws.state;
}
