use Rattle.std.proofs.Common.{◌∙◌, ◌++◌, ap, sym, subst, pos, get_or, option_to_list}
use Rattle.std.specs.List.{AllByRecursion}
use Rattle.hu_chain.specs.declared.place.Place.{Place}
use Rattle.hu_chain.specs.Bound.{IsFit}
use Rattle.hu_chain.specs.Search.{IsPlaceOf}
use Rattle.hu_chain.proofs.Tails.{found-after}
use Rattle.hu_chain.proofs.Turns.{joined-next, fit-more}
use Rattle.hu_chain.proofs.chain.joined.Goals as goal
use Rattle.hu_kind.proofs.lemmas.Each.{each-get}

-- a place past the end
no_place : Place
no_place = record { element = 0; cell = 0; best = pos 0; rest = pos 0 }

pub loop-place-preserved : goal.loop-place-preserved
unfolding no_place
loop-place-preserved c =
    let elements = c.args.elements.now in
    let places = c.args.places.now in
    let k = c.loop-place.place-index in
    let made = c.loop-place.grown.items in
    let last = c.requires.places.0 in
    let is = each-get (IsPlaceOf elements last) places k no_place c.requires.places.2 c.loop-place-test.true in
    let here =
    c.ended.ensures.value ∙ found-after elements last c.args.item.0
    (get_or places k no_place) c.tail.result is c.requires.places.1 c.tail.ensures.plain c.tail.ensures.value in
    let more = c.in_ok-push_place.ensures ∙ ap (λ o. made ++ option_to_list o) here in
    record {
      so_far =
          joined-next elements c.args.item.0 places k no_place made c.push_place.new.places.items _
          c.loop-place-test.true c.loop-place.invariant.so_far more;
      fit = subst (AllByRecursion IsFit) (sym c.in_ok-push_place.ensures) (fit-more c.ended.result made c.loop-place.invariant.fit c.ended.ensures.fit);
    }
