use Rattle.std.proofs.Common.{◌≡◌, ◌*◌}
use Rattle.hu_drill.specs.Draws.{after_draws}
use Rattle.hu_drill.specs.Drilled.{drilled_sequences}
use Rattle.hu_drill.proofs.sequences.make_sequences.Given as goal

-- the sequences so far
abbrev pub invariant-loop : goal.invariant-loop
invariant-loop l = record {
  state : l.draws.state ≡ after_draws (4 * l.elements * l.counter) l.initial.draws.state;
  value : l.base ≡ (0, drilled_sequences l.initial.draws.state l.counter l.elements);
}
