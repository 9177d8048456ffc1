use Rattle.std.proofs.Common.{◌≡◌, drop}
use Rattle.hu_chain.specs.Search.{joins}
use Rattle.hu_chain.proofs.chain.joins.Given as goal

abbrev pub invariant-loop-place : goal.invariant-loop-place
invariant-loop-place l = joins l.item.0 l.elements (drop l.place-index l.places) ≡ joins l.item.0 l.elements l.places
