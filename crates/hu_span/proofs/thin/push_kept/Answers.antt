use Rattle.std.proofs.Common.{◌≡◌, ◌∙◌, ◌+ℤ◌, ◌++◌, ◌∷◌, [], append_assoc, filter, get_or, take, pos, rules, SFits, to_z, of_z, sym, ap, arith}
use Rattle.std.specs.Int.{w128}
use Rattle.std.proofs.lemmas.Int.{ints, to_z-of_z}
use Rattle.hu_span.specs.declared.trail.TrailCell.{TrailCell}
use Rattle.hu_span.specs.Kept.{counted, keeps}
use Rattle.hu_span.proofs.NumberLemmas.{kept-z}
use Rattle.hu_span.proofs.ThinLemmas.{copied}
use Rattle.hu_span.specs.Trail.{is_held}
use Rattle.hu_span.proofs.thin.push_kept.Goals.{After-counted-sum}
use Rattle.hu_span.proofs.thin.push_kept.Goals as goal

abbrev no_cell : TrailCell
no_cell = record { item = record { 0 = 0 }; element = 0; cell = 0; value = pos 0 }

-- a cell's value, where it counts
value_at : (c : After-counted-sum)
    → c.counted-sum.result ≡ counted (keeps c.args.kept.now (get_or c.args.cells.now c.cells.cell-index no_cell).item.0)
    (get_or c.args.cells.now c.cells.cell-index no_cell).value
value_at c =
    let cell = get_or c.args.cells.now c.cells.cell-index no_cell in
    let fits : SFits w128 cell.value = search rules in
    c.counted-sum.ensures ∙ (λ j. counted (c.has-is_kept.ensures j) (to_z-of_z w128 cell.value fits j))

pub overflow_add-sum : goal.overflow_add-sum
overflow_add-sum c =
    let keep = keeps c.args.kept.now in
    let next = copied keep c.args.cells.now c.cells.cell-index no_cell c.cells-test.true c.requires.above c.requires.fits in
    let value = value_at (goal.at.overflow_add-sum c).After-counted-sum in
    let sum = c.cells.invariant.sum in
    let stored = kept-z c.counted-sum.result (omega (arith, ints, value, next.own)) (omega (arith, ints, value, next.sum, next.low, next.fits)) in
    omega (arith, ints, stored, value, sum, next.own, next.sum, next.low, next.fits)

pub cells-preserved : goal.cells-preserved
cells-preserved c =
    let keep = keeps c.args.kept.now in
    let cells = c.args.cells.now in
    let cell = get_or cells c.cells.cell-index no_cell in
    let next = copied keep cells c.cells.cell-index no_cell c.cells-test.true c.requires.above c.requires.fits in
    let value = value_at (goal.at.cells-preserved c).After-counted-sum in
    let sum = c.cells.invariant.sum in
    let stored = kept-z c.counted-sum.result (omega (arith, ints, value, next.own)) (omega (arith, ints, value, next.sum, next.low, next.fits)) in
    let more = to_z w128 c.cells.sum-bits +ℤ to_z w128 (of_z w128 c.counted-sum.result) in
    let kept = kept-z more (omega (arith, ints, stored, value, sum, next.own, next.low)) (omega (arith, ints, stored, value, sum, next.sum, next.fits)) in
    let front = filter (is_held keep) (take c.cells.cell-index cells) in
    record {
      so_far = c.in_ok-push_if.ensures ∙ (λ j. c.cells.invariant.so_far j ++ filter (λ _. c.has-is_kept.ensures j) (cell ∷ []))
          ∙ append_assoc c.args.thin.now.items front (filter (λ _. keep cell.item.0) (cell ∷ []))
          ∙ ap (λ cs. c.args.thin.now.items ++ cs) (sym next.next);
      sum = omega (arith, ints, kept, stored, value, sum, next.sum);
    }
