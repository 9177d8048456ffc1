use Rattle.std.proofs.Common.{rules, ◌∙◌, ap, SFits, subst, ◌++◌, map, take, get_or}
use Rattle.std.specs.Int.{w64}
use Rattle.std.proofs.lemmas.Int.{to_z-of_z}
use Rattle.std.proofs.lemmas.List.{take_all}
use Rattle.hu_kind.specs.declared.item.Item.{Item}
use Rattle.hu_totals.specs.Weights.{numbers_of}
use Rattle.hu_closed.specs.Holders.{AreHolders}
use Rattle.hu_closed.specs.Places.{with_place}
use Rattle.hu_closed.proofs.Adding.{AreHolders-more}
use Rattle.hu_closed.proofs.Pairs.{pairs-more}
use Rattle.hu_closed.proofs.holders.add_record.Goals as goal

no_item : Item
no_item = record { 0 = 0 }

pub loop-item-preserved : goal.loop-item-preserved
unfolding no_item
loop-item-preserved c pairs are =
    let items = c.args.items.now in
    let place = c.args.place in
    let i = c.loop-item.item-index in
    let item = (get_or items i no_item).0 in
    let old = c.loop-item.places in
    let fits : SFits w64 c.from.result = search rules in
    let sent = to_z-of_z w64 c.from.result fits ∙ c.from.ensures in
    let added = c.in_ok-add.ensures.ok ∙ ap (λ number. with_place old number place) sent in
    let before = pairs ++ map (λ item. (item, place)) (numbers_of (take i items)) in
    subst (AreHolders c.add.new.self) (pairs-more pairs items place i no_item c.loop-item-test.true)
    (AreHolders-more old c.add.new.self before item place (c.loop-item.invariant pairs are) added)

pub returns : goal.returns
returns c pairs are =
    let items = c.args.items.now in
    subst (λ taken. AreHolders c.loop-item.places (pairs ++ map (λ item. (item, c.args.place)) (numbers_of taken)))
    (take_all c.loop-item.item-index items c.loop-item-test.false) (c.loop-item.invariant pairs are)
