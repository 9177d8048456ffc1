use Rattle.std.proofs.Common.{◌≡◌, ◌+◌, ◌*◌}
use Rattle.hu_plain.specs.Growth.{Grows}
use Rattle.hu_plain.specs.PlaceView.{all_places}
use Rattle.hu_plain.proofs.Reach.{left_in}
use Rattle.hu_plain.proofs.SoFar.{IsSoFar}
use Rattle.hu_plain.proofs.Steps.{BeginsWith}
use Rattle.hu_plain.proofs.sequences.+search.Given as goal

-- a search comes after the entrance to its places
abbrev pub decreases-search : goal.decreases-search
decreases-search g l = 2 * left_in (all_places l.rows.now)

abbrev pub decreases-enter : goal.decreases-enter
decreases-enter g l = 2 * left_in (all_places l.rows.now) + 1

abbrev pub invariant-search-steps : goal.invariant-search-steps
invariant-search-steps g l = record {
  prefix : l.prefix ≡ l.fn.prefix;
  so_far : IsSoFar (BeginsWith l.fn.prefix (all_places l.rows)) (Grows l.fn.prefix (all_places l.rows))
      (g.C.Collect.state l.fn.collect) (g.C.Collect.state l.collect) l.step-items l.step-index;
}
