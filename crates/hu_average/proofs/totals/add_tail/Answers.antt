use Rattle.std.proofs.Common.{◌≡◌, ◌-◌, ◌+◌, pos, get_or, drop, ◌∙◌, subst, arith}
use Rattle.hu_totals.specs.declared.ranked.Dense.{Dense}
use Rattle.hu_totals.specs.View.{cells_of}
use Rattle.hu_average.specs.Totals.{plus, total_at}
use Rattle.hu_average.specs.Tails.{left_from, total_in}
use Rattle.hu_average.proofs.PassLemmas.{totals-back, fits-back}
use Rattle.hu_average.proofs.totals.add_tail.Goals as goal

no_cell : Dense
no_cell = record { rank = 0; value = pos 0 }

pub add_cell-requires-clause-fits : goal.add_cell-requires-clause-fits
unfolding no_cell
add_cell-requires-clause-fits c i within e =
    let tail = c.args.tail.now in
    let cells = tail.cells.now in
    let place = c.loop-place.place in
    let some = c.loop-place-test.true in
    let upto = c.loop-place.invariant.within in
    let z = get_or c.args.slots.now.ranks i 0 in
    let one : place ≡ place - 1 + 1 = omega (arith, some) in
    let was : total_at c.loop-place.totals.items i ≡ plus (total_at c.args.totals.now.items i)
    (total_in (left_from z tail.own tail.most (cells_of (drop (place - 1 + 1) cells)))) =
    subst (λ k. total_at c.loop-place.totals.items i ≡ plus (total_at c.args.totals.now.items i)
    (total_in (left_from z tail.own tail.most (cells_of (drop k cells))))) one (c.loop-place.invariant.totals i within) in
    fits-back tail.own tail.most cells (place - 1) no_cell c.requires.rules.ascending (omega (arith, some, upto)) z
    (total_at c.args.totals.now.items i) (total_at c.loop-place.totals.items i) e was (c.requires.fits i within)

pub loop-place-preserved : goal.loop-place-preserved
unfolding no_cell
loop-place-preserved c =
    let tail = c.args.tail.now in
    let cells = tail.cells.now in
    let place = c.loop-place.place in
    let some = c.loop-place-test.true in
    let upto = c.loop-place.invariant.within in
    let one : place ≡ place - 1 + 1 = omega (arith, some) in
    record {
      within = omega (arith, upto);
      len = c.add_cell.ensures.len ∙ c.loop-place.invariant.len;
      totals = λ i within.
          let z = get_or c.args.slots.now.ranks i 0 in
          let was : total_at c.loop-place.totals.items i ≡ plus (total_at c.args.totals.now.items i)
          (total_in (left_from z tail.own tail.most (cells_of (drop (place - 1 + 1) cells)))) =
          subst (λ k. total_at c.loop-place.totals.items i ≡ plus (total_at c.args.totals.now.items i)
          (total_in (left_from z tail.own tail.most (cells_of (drop k cells))))) one (c.loop-place.invariant.totals i within) in
          totals-back tail.own tail.most cells (place - 1) no_cell c.requires.rules.ascending (omega (arith, some, upto)) z
          (total_at c.args.totals.now.items i) (total_at c.loop-place.totals.items i) (total_at c.add_cell.new.totals.items i) was
          (c.add_cell.ensures.totals i within);
    }
