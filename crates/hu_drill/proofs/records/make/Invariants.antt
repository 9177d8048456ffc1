use Rattle.std.proofs.Common.{◌≡◌, ◌*◌}
use Rattle.hu_drill.specs.Draws.{after_draws}
use Rattle.hu_drill.specs.Drilled.{drilled}
use Rattle.hu_drill.proofs.records.make.Given as goal

-- the records so far
abbrev pub invariant-loop : goal.invariant-loop
invariant-loop l = record {
  state : l.draws.state ≡ after_draws (2 * l.items * l.counter) l.initial.draws.state;
  value : l.base ≡ (0, drilled l.initial.draws.state l.counter l.items);
}
