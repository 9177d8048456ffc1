use Rattle.std.proofs.Common.{◌∙◌, sym, ◌≤◌, length, ◌⊎◌, inl, inr, arith}
use Rattle.std.proofs.lemmas.Bool.{cases_lt}
use Rattle.hu_rows.proofs.AddedCells.{added_cells-none, fits-added, step-added, end-added}
use Rattle.hu_rows.proofs.PastEnd.{past_cell}
use Rattle.hu_totals.specs.View.{cells_of}
use Rattle.hu_rows.proofs.merge.add_cells.Goals as goal

pub loop-i-init : goal.loop-i-init
loop-i-init c = sym (added_cells-none (cells_of c.args.cells.now))

pub add_cell-requires : goal.add_cell-requires
add_cell-requires c =
    fits-added c.args.cells.now c.args.others.now c.loop-i.cells c.loop-i.i past_cell c.loop-i.invariant (omega arith) (omega arith) (omega arith) c.requires

pub loop-i-preserved : goal.loop-i-preserved
loop-i-preserved c =
    step-added c.args.cells.now c.args.others.now c.loop-i.cells c.loop-i.i past_cell c.loop-i.invariant (omega arith) (omega arith)
    (omega arith) c.add_cell.result c.add_cell.ensures

pub returns : goal.returns
returns c =
    let ends : (length c.args.cells.now ≤ c.loop-i.i) ⊎ (length c.args.others.now ≤ c.loop-i.i) =
    elim (cases_lt (length c.args.cells.now) (length c.args.others.now)) [
      | inl l ↦ inl (omega arith)
      | inr l ↦ inr (omega arith)
    ] in
    c.loop-i.invariant ∙ end-added c.args.cells.now c.args.others.now c.loop-i.i ends
