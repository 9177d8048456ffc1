use Rattle.std.proofs.Common.{List, ◌≡◌, ◌<◌, ◌<ℤ◌, get_or, length, take, sym, ap, ◌∙◌, subst, arith, to_z, of_z}
use Rattle.std.specs.Int.{w128}
use Rattle.std.proofs.lemmas.Int.{ints}
use Rattle.hu_search.specs.declared.child.Child.{Child}
use Rattle.hu_list.specs.Level.{AreChosen}
use Rattle.hu_list.proofs.ChosenLemmas.{chosen-is}
use Rattle.hu_list.proofs.level.chosen.Goals as goal

pub returns : goal.returns
returns c =
    let sorted = c.best_first.new.children.items in
    let n = c.reaching-count.result in
    let same : to_z w128 (of_z w128 c.args.floor) ≡ c.args.floor = omega (arith, ints, c.ranges.floor.sfits) in
    let cut : (d : Child) → n < length sorted → (get_or sorted n d).bound <ℤ c.args.floor =
    subst (λ (cs : List Child). (d : Child) → n < length cs → (get_or cs n d).bound <ℤ c.args.floor) c.deref.ensures.value
    (λ d within. subst (λ f. (get_or c.deref.result.now n d).bound <ℤ f) same (c.reaching-count.ensures.cut d within)) in
    subst (AreChosen c.args.floor c.args.children.items)
    (sym (c.in_ok-to_vec.ensures.items_if_clones_equal (λ child copy same. same) ∙ ap (take n) c.deref-2.ensures.value))
    (chosen-is c.args.floor c.args.children.items sorted n c.best_first.ensures.same c.best_first.ensures.fall c.requires.once cut)
