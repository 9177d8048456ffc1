use Rattle.std.proofs.Common.{◌≡◌, map, take, pos}
use Rattle.hu_proof.specs.Places.{places_of, AllAscend}
use Rattle.hu_proof.proofs.place.first_places.Given as goal

abbrev pub invariant-loop-record : goal.invariant-loop-record
invariant-loop-record l = record {
  so_far : places_of l.places.items ≡ map (λ r. (r, pos 0)) (take l.record-index l.records);
  rises : AllAscend (take l.record-index l.records);
}
