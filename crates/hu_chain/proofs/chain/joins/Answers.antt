use Rattle.std.proofs.Common.{◌≡◌, ◌∙◌, ap, pos, get_or, sym, is_some}
use Rattle.hu_kind.specs.Cell.{pairs_of}
use Rattle.hu_kind.specs.Record.{has}
use Rattle.hu_kind.proofs.lemmas.Each.{each-get}
use Rattle.hu_chain.specs.declared.place.Place.{Place}
use Rattle.hu_chain.specs.Place.{element_at}
use Rattle.hu_chain.specs.Search.{IsPlaceOf}
use Rattle.hu_chain.proofs.Tails.{has-after, is_some-cell_in}
use Rattle.hu_chain.proofs.Turns.{any-here, any-next}
use Rattle.hu_chain.proofs.chain.joins.Goals.{After-is_some}
use Rattle.hu_chain.proofs.chain.joins.Goals as goal

-- a place past the end
no_place : Place
no_place = record { element = 0; cell = 0; best = pos 0; rest = pos 0 }

-- whether the item follows the place in its element
here_at : (c : After-is_some) → c.is_some.result
    ≡ has c.args.item.0 (element_at c.args.elements.now (get_or c.args.places.now c.loop-place.place-index no_place).element)
unfolding no_place
here_at c =
    let elements = c.args.elements.now in
    let places = c.args.places.now in
    let k = c.loop-place.place-index in
    let place = get_or places k no_place in
    let last = c.requires.places.0 in
    let is = each-get (IsPlaceOf elements last) places k no_place c.requires.places.2 c.loop-place-test.true in
    let same = has-after elements last c.args.item.0 place is c.requires.places.1 c.tail.ensures.plain in
    c.is_some.ensures ∙ ap is_some c.cell_in.ensures
    ∙ is_some-cell_in c.args.item.0 (pairs_of c.tail.result.cells.now)
    ∙ ap (has c.args.item.0) c.tail.ensures.value.cells ∙ same

pub returns-then-is_some : goal.returns-then-is_some
unfolding no_place
returns-then-is_some c =
    let here = here_at (goal.at.returns-then-is_some c).After-is_some in
    any-here (λ p. has c.args.item.0 (element_at c.args.elements.now p.element)) c.args.places.now c.loop-place.place-index no_place _
    c.loop-place-test.true c.loop-place.invariant (sym here ∙ c.if-is_some.true)

pub loop-place-preserved : goal.loop-place-preserved
unfolding no_place
loop-place-preserved c =
    let here = here_at (goal.at.loop-place-preserved c).After-is_some in
    any-next (λ p. has c.args.item.0 (element_at c.args.elements.now p.element)) c.args.places.now c.loop-place.place-index no_place _
    c.loop-place-test.true c.loop-place.invariant (sym here ∙ c.if-is_some.false)
