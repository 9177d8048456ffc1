use Rattle.std.proofs.Common.{◌≡◌, inl, inr, length, take, arith, rules, tests}
use Rattle.std.specs.List.{slice_split}
use Rattle.std.proofs.lemmas.List.{length_push, length-map, take_all}
use Rattle.std.proofs.lemmas.Iterator.Consumers.{YieldsList-turn, YieldsList-end}
use Rattle.std.proofs.lemmas.Iterator.Splits.{YieldsList-from_slice_split}
use Rattle.std.proofs.lemmas.Result.{err_from_is_err_and}
use Rattle.hu_seq.specs.Token.{is_itemset_end}
use Rattle.hu_seq.specs.Reading.{cells, itemsets}
use Rattle.hu_seq.proofs.ItemsetLemmas.{IsOrdered-push, duplicate_item-at}
use Rattle.hu_seq.proofs.itemset.elements.Goals as goal

pub element-requires : goal.element-requires
element-requires c =
    let t = YieldsList-turn (YieldsList-from_slice_split _ is_itemset_end {f = tt {0}} c.args.body.now (cc) (cc) (cc)
    (λ x b q k. search (rules, tests))) c.loop-itemset.yielded _ c.loop-itemset.yielded_by _ _ c.in-Some.itemset
    c.in-Some.is c.next.ensures.steps in
    rw t.1 (c.requires (length c.loop-itemset.yielded) c.in-Some.itemset.now t.0)

pub loop-itemset-preserved : goal.loop-itemset-preserved
loop-itemset-preserved c =
    let t = YieldsList-turn (YieldsList-from_slice_split _ is_itemset_end {f = tt {0}} c.args.body.now (cc) (cc) (cc)
    (λ x b q k. search (rules, tests))) c.loop-itemset.yielded _ c.loop-itemset.yielded_by _ _ c.in-Some.itemset
    c.in-Some.is c.next.ensures.steps in
    rw (length_push c.loop-itemset.yielded c.in-Some.itemset, c.in_ok-push.ensures.items) (
    IsOrdered-push c.args.body.now (length c.loop-itemset.yielded) c.in-Some.itemset.now c.loop-itemset.elements.items
    c.in_ok-element.field-0 t.0 t.1 c.loop-itemset.invariant c.in_ok-element.ensures.ok
    )

pub returns-in_err-element-clause-err : goal.returns-in_err-element-clause-err
returns-in_err-element-clause-err c =
    let t = YieldsList-turn (YieldsList-from_slice_split _ is_itemset_end {f = tt {0}} c.args.body.now (cc) (cc) (cc)
    (λ x b q k. search (rules, tests))) c.loop-itemset.yielded _ c.loop-itemset.yielded_by _ _ c.in-Some.itemset
    c.in-Some.is c.next.ensures.steps in
    let p = err_from_is_err_and c.from_residual.result c.from_residual.ensures.1 in
    rw (p.1, p.2) (elim c.in_err-element.ensures.err [
      | inl memory ↦ inl memory
      | inr twice ↦ inr (duplicate_item-at c.args.body.now
          (length c.loop-itemset.yielded) c.in-Some.itemset.now c.loop-itemset.elements.items c.in_err-element.field-0.0
          t.0 t.1 c.loop-itemset.invariant twice)
    ])

pub returns-clause-ok : goal.returns-clause-ok
returns-clause-ok c =
    let t = YieldsList-end (YieldsList-from_slice_split _ is_itemset_end {f = tt {0}} c.args.body.now (cc) (cc) (cc)
    (λ x b q k. search (rules, tests))) c.loop-itemset.yielded _ c.loop-itemset.yielded_by _ _ c.in-None.is
    c.next.ensures.steps in
    let all : take (length c.loop-itemset.yielded) (itemsets c.args.body.now) ≡ itemsets c.args.body.now =
    take_all (length c.loop-itemset.yielded) (itemsets c.args.body.now)
    (omega (arith, t.1, length-map (slice_split is_itemset_end c.args.body.now) cells)) in
    rw all at c.loop-itemset.invariant
