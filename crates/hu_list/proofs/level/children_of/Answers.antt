use Rattle.std.proofs.Common.{◌≡◌, ◌++◌, ◌∷◌, [], get_or, length, ◌<◌, refl, subst, sym, ap, ◌∙◌, arith}
use Rattle.std.proofs.lemmas.List.{take_more, map-append}
use Rattle.std.specs.List.{AllByRecursion}
use Rattle.hu_search.specs.declared.child.Child.{Child}
use Rattle.hu_search.specs.Children.{ranks_of}
use Rattle.hu_kind.proofs.lemmas.Each.{each-append}
use Rattle.hu_search.specs.Slots.{at}
use Rattle.hu_list.specs.Passes.{no_sum}
use Rattle.hu_list.specs.Level.{sum_of}
use Rattle.hu_search.proofs.lemmas.Slots.{at-place, distinct-before}
use Rattle.hu_list.proofs.level.children_of.Goals as goal

pub loop-slot-preserved : goal.loop-slot-preserved
loop-slot-preserved c =
    let ranks = c.args.ranks.now in
    let sums = c.args.sums.now in
    let i = c.loop-slot.slot in
    let child = c.child.result in
    let within : i < length ranks = c.loop-slot-test.true in
    let here : at no_sum ranks sums (get_or ranks i 0) ≡ get_or sums i no_sum =
    at-place no_sum ranks sums (get_or ranks i 0) i
    (record { within = within; here = refl; first = distinct-before ranks i 0 c.requires.once within })
    (omega (arith, within, c.requires.len)) in
    let same : sum_of child ≡ at no_sum ranks sums child.rank = c.child.ensures.sum ∙ sym here ∙ ap (at no_sum ranks sums) (sym c.child.ensures.rank) in
    record {
      ranks = ap ranks_of c.in_ok-push.ensures.items
          ∙ map-append (λ (one : Child). one.rank) c.loop-slot.children.items (child ∷ [])
          ∙ (λ j. c.loop-slot.invariant.ranks j ++ c.child.ensures.rank j ∷ [])
          ∙ sym (take_more ranks i 0 within);
      sums = subst (AllByRecursion (λ (one : Child). sum_of one ≡ at no_sum ranks sums one.rank)) (sym c.in_ok-push.ensures.items)
          (each-append (λ (one : Child). sum_of one ≡ at no_sum ranks sums one.rank) c.loop-slot.children.items
          (child ∷ []) c.loop-slot.invariant.sums (same, tt));
    }
