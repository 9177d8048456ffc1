use Rattle.std.proofs.Common.{◌≡◌, ◌∙◌, ◌+◌, ◌*◌, ◌%◌, ap, sym, subst}
use Rattle.hu_kind.specs.Cell.{pairs_of}
use Rattle.hu_drill.specs.Draws.{after_draws}
use Rattle.hu_drill.specs.Drilled.{value_from, cells_of}
use Rattle.hu_drill.proofs.DrawLemmas.{after_draws-more}
use Rattle.hu_drill.proofs.DrilledLemmas.{cells_of-more}
use Rattle.hu_drill.proofs.records.next_cells.Goals as goal

pub loop-place-preserved : goal.loop-place-preserved
loop-place-preserved c =
    let place = c.loop-place.place in
    let before = c.args.draws.now.state in
    let kept = c.loop-place.invariant in
    let item = c.cell.ensures.item ∙ ap (λ s. (7 * place + 1) + after_draws 1 s % 7) kept.state in
    let value = c.cell.ensures.value ∙ ap (λ s. value_from (after_draws 2 s)) kept.state in
    record {
      state = c.cell.ensures.state ∙ ap (after_draws 2) kept.state ∙ after_draws-more 2 place before;
      value = subst (λ cells. pairs_of cells ≡ cells_of (place + 1) before) (sym c.in_ok-push.ensures.items)
          (cells_of-more c.loop-place.cells.items c.cell.result place before kept.value (λ i. (item i, value i)));
    }
