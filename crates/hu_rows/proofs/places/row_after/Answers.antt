use Rattle.std.proofs.Common.{◌≡◌, ◌∙◌, ◌+◌, ◌-◌, ◌+ℤ◌, get_or, take, drop, length, to_z, of_z, FitsSigned, arith, rules}
use Rattle.std.specs.Int.{w128}
use Rattle.std.proofs.lemmas.Int.{ints}
use Rattle.hu_rows.specs.View.{row_with}
use Rattle.hu_rows.proofs.PlaceLemmas.{row_after-is}
use Rattle.hu_rows.proofs.PastEnd.{past_cell}
use Rattle.hu_rows.proofs.places.row_after.Goals as goal
use Rattle.hu_totals.proofs.lemmas.DenseLemmas.{value-within}

pub overflow_add-result : goal.overflow_add-result
overflow_add-result c =
    let cell = get_or c.args.row.now.cells.now c.args.cell past_cell in
    let before : FitsSigned w128 c.args.row.now.before = search rules in
    let value : FitsSigned w128 cell.value = search rules in
    omega (arith, ints, value-within c.args.row.now.cells.now c.args.cell past_cell c.requires.within, c.requires.size)

pub returns : goal.returns
returns c =
    let row = c.args.row.now in
    let cell = get_or row.cells.now c.args.cell past_cell in
    let before : FitsSigned w128 row.before = search rules in
    let value : FitsSigned w128 cell.value = search rules in
    let within = value-within row.cells.now c.args.cell past_cell c.requires.within in
    let worth : to_z w128 (of_z w128 (to_z w128 (of_z w128 row.before) +ℤ to_z w128 (of_z w128 cell.value))) ≡ row.before +ℤ cell.value =
    omega (arith, ints, within, c.requires.size) in
    (λ j. row_with (worth j) row.count (take (length row.cells.now - (c.args.cell + 1)) (drop (c.args.cell + 1) row.cells.now)))
    ∙ row_after-is row c.args.cell past_cell c.requires.within
