use Rattle.std.proofs.Common.{◌≡◌, map, take, pos}
use Rattle.hu_totals.specs.View.{pairs_in}
use Rattle.hu_certify.specs.Spots.{spots_of}
use Rattle.hu_certify.proofs.place.first_places.Given as goal

abbrev pub invariant-loop-record : goal.invariant-loop-record
invariant-loop-record l = spots_of l.places.items ≡ map (λ cells. (pairs_in cells, pos 0)) (take l.record-index l.records)
