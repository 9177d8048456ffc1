use Rattle.std.proofs.Common.{◌∙◌, ap, sym, subst, ◌++◌, map, take}
use Rattle.std.specs.declared.vec.Vec.{Vec}
use Rattle.std.specs.declared.alloc.Global.{Global}
use Rattle.hu_kind.specs.declared.item.Item.{Item}
use Rattle.hu_totals.specs.Weights.{numbers_of}
use Rattle.hu_closed.specs.Holders.{lists_of, pairs_from, AreHolders}
use Rattle.hu_closed.proofs.Pairs.{pairs_from-more}
use Rattle.hu_closed.proofs.holders.all_holders.Goals as goal

pub loop-place-preserved : goal.loop-place-preserved
loop-place-preserved c =
    let lists = c.args.lists.now in
    let i = c.loop-place.place in
    let one = c.index-lists-place.result in
    let before = pairs_from 0 (lists_of (take i lists)) in
    let items = ap numbers_of (c.deref.ensures.value ∙ ap (λ (items : Vec Item Global). items.items) c.index-lists-place.is) in
    subst (AreHolders c.add_record.new.places)
    (ap (λ items. before ++ map (λ item. (item, i)) items) items ∙ sym (pairs_from-more lists i one c.loop-place-test.true))
    (c.in_ok-add_record.ensures before c.loop-place.invariant)
