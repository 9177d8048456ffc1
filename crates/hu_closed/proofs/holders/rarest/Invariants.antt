use Rattle.std.proofs.Common.{◌≡◌, ℤ, Contains}
use Rattle.hu_closed.specs.Places.{places_at}
use Rattle.hu_closed.proofs.holders.rarest.Given as goal

abbrev pub invariant-loop-number : goal.invariant-loop-number
invariant-loop-number l = (number : ℤ) × Contains l.key number × (l.best ≡ places_at l.places number)
