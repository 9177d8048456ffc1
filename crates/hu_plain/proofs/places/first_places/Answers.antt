use Rattle.std.proofs.Common.{refl, sym, subst, arith}
use Rattle.std.specs.List.{AllByRecursion}
use Rattle.std.proofs.lemmas.Grind.{common_steps}
use Rattle.hu_plain.specs.Place.{IsAscending}
use Rattle.hu_plain.specs.PlaceView.{places_of}
use Rattle.hu_plain.proofs.PlaceLemmas.{ascending_place}
use Rattle.hu_plain.proofs.places.first_places.Goals as goal

pub loop-element-preserved : goal.loop-element-preserved
loop-element-preserved c = record {
  so_far = grind (arith, common_steps);
  ascending = subst (λ places. AllByRecursion IsAscending (places_of places)) (sym c.in_ok-push-2.ensures.items)
      (ascending_place c.loop-element.places.items _ _ c.loop-element.invariant.ascending c.cells.ensures.rules c.cells.ensures.value refl);
}
