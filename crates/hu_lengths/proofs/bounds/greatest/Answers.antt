use Rattle.std.proofs.Common.{rules, ◌≡◌, ◌+◌, ◌-◌, ◌<◌, ap, sym, ◌∙◌, cond, pos, int_lt, length, get_or, take, drop, map, to_z, of_z, arith, SFits, ℕ, add-one}
use Rattle.std.specs.Int.{w128}
use Rattle.std.proofs.lemmas.Int.{to_z-of_z}
use Rattle.hu_totals.specs.declared.ranked.Dense.{Dense}
use Rattle.hu_totals.specs.View.{dense_pair}
use Rattle.hu_lengths.specs.Bound.{falling, values_after, put}
use Rattle.hu_lengths.proofs.NodeLemmas.{greatest-next, values_after-drop}
use Rattle.hu_lengths.proofs.bounds.greatest.Goals.{else-loop-back-test, then-loop-back-test+then-cell-last}
use Rattle.hu_lengths.proofs.bounds.greatest.Goals as goal

-- a cell past the end
no_cell : Dense
no_cell = record { rank = 0; value = pos 0 }

pub loop-back-preserved : goal.loop-back-preserved
unfolding no_cell
loop-back-preserved c =
    let cells = c.args.cells.now in
    let room = c.args.room in
    let back = c.loop-back.back in
    let k = length cells - 1 - back in
    let inside : k < length cells = omega (arith, c.loop-back-test.true) in
    let next : k + 1 ≡ length cells - back = omega (arith, c.loop-back-test.true) in
    let here : k ≡ length cells - (back + 1) = omega (arith, c.loop-back-test.true) in
    let fits : SFits w128 (get_or cells k no_cell).value = search rules in
    let same : to_z w128 (of_z w128 (get_or cells k no_cell).value) ≡ (get_or cells k no_cell).value = to_z-of_z w128 (get_or cells k no_cell).value fits in
    let was : c.loop-back.best.items ≡ take room (falling (values_after c.args.last (map dense_pair (drop (k + 1) cells)))) =
    c.loop-back.invariant ∙ ap (λ i. take room (falling (values_after c.args.last (map dense_pair (drop i cells))))) (sym next) in
    greatest-next c.args.last room cells k no_cell c.loop-back.best.items c.keep_above_none.new.best.items inside c.if-cell-last.false was
    (c.in_ok-keep_above_none.ensures ∙ ap (λ v. cond (int_lt (pos 0) v) (take room (put v c.loop-back.best.items)) c.loop-back.best.items) same)
    ∙ ap (λ i. take room (falling (values_after c.args.last (map dense_pair (drop i cells))))) here

pub returns : goal.returns
unfolding no_cell
returns c =
    let cells = c.args.cells.now in
    let back = c.loop-back.back in
    c.loop-back.invariant
    ∙ ap (λ vs. take c.args.room (falling vs)) (elim c.loop-back-test.branch [
      | else-loop-back-test w ↦
          let none : length cells - back ≡ 0 = omega (arith, w.loop-back-test.false) in
          ap (λ i. values_after c.args.last (map dense_pair (drop i cells))) none
      | then-loop-back-test+then-cell-last w ↦
          let inside = w.loop-back-test.true in
          let next : ℕ = length cells - 1 - back in
          let e : next + 1 ≡ length cells - back = omega (arith, inside) in
          ap (λ i. values_after c.args.last (map dense_pair (drop i cells))) (sym e ∙ add-one next)
          ∙ sym (values_after-drop c.args.last cells next no_cell c.requires.ascending (omega (arith, inside)) w.if-cell-last.true)
    ])
