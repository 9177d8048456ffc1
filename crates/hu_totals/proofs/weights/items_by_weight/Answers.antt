use Rattle.std.proofs.Common.{◌∙◌, ℕ, ◌<◌, ◌^◌, [], map, length, get_or, ap, subst, arith, below_more}
use Rattle.std.specs.Int.{w128}
use Rattle.std.proofs.lemmas.Int.{to_z-of_z}
use Rattle.std.proofs.lemmas.List.{take_all}
use Rattle.indexmap.specs.IndexSet.{insert_all}
use Rattle.hu_totals.specs.Weights.{same_item}
use Rattle.hu_totals.proofs.lemmas.WeightLemmas.{no_weighed, add-step, numbers-by_weight, few-by_weight}
use Rattle.hu_totals.proofs.weights.items_by_weight.Goals as goal

pub loop-one-preserved : goal.loop-one-preserved
loop-one-preserved c = record {
  put = add-step c.deref-one-items.result.now c.loop-one.one-index no_weighed c.loop-one.items.keys _
      c.loop-one-test.true c.loop-one.invariant.put c.in_ok-put.ensures.keys;
  below = below_more _ _ c.loop-one.invariant.below c.in_ok-put.ensures.small;
}

pub returns-clause-value : goal.returns-clause-value
returns-clause-value c =
    let sorted = c.deref-one-items.result.now in
    let all = take_all c.loop-one.one-index sorted c.loop-one-test.false ∙ c.deref-one-items.ensures.value in
    let put = c.loop-one.invariant.put ∙ ap (λ ws. insert_all same_item [] (map (λ one. one.item) ws)) all in
    let weighed = rw (to_z-of_z w128 c.args.floor c.ranges.floor) at c.in_ok-weighed.ensures in
    numbers-by_weight c.args.order c.args.floor c.args.totals.now c.in_ok-weighed.weighed.items
    c.sort_unstable.new.self.items c.requires.apart weighed c.sort_unstable.ensures.permutation
    c.sort_unstable.ensures.sorted c.loop-one.items.keys put

pub returns-clause-few : goal.returns-clause-few
returns-clause-few c =
    let sorted = c.deref-one-items.result.now in
    let all = take_all c.loop-one.one-index sorted c.loop-one-test.false ∙ c.deref-one-items.ensures.value in
    let put = c.loop-one.invariant.put ∙ ap (λ ws. insert_all same_item [] (map (λ one. one.item) ws)) all in
    let weighed = rw (to_z-of_z w128 c.args.floor c.ranges.floor) at c.in_ok-weighed.ensures in
    let below : (k : ℕ) → k < length c.sort_unstable.new.self.items → (get_or c.sort_unstable.new.self.items k no_weighed).item.0 < 2 ^ 32 =
    subst (λ ws. (k : ℕ) → k < length ws → (get_or ws k no_weighed).item.0 < 2 ^ 32) c.deref-one-items.ensures.value
    (λ k within. c.loop-one.invariant.below k (omega arith)) in
    few-by_weight c.args.order c.args.floor c.args.totals.now c.in_ok-weighed.weighed.items
    c.sort_unstable.new.self.items c.requires.apart weighed c.sort_unstable.ensures.permutation
    c.sort_unstable.ensures.sorted c.loop-one.items.keys put below
