use Rattle.std.proofs.Common.{◌∙◌, sym, ap, arith}
use Rattle.hu_kind.specs.declared.item.Cell.{Cell}
use Rattle.hu_chain.proofs.lemmas.Cells.{cell_in-at, cell_in-past}
use Rattle.hu_chain.proofs.place.cell_in.Goals as goal

pub returns-in_err-cell : goal.returns-in_err-cell
returns-in_err-cell c =
    let lookup = c.in_err-cell.ensures.lookup in
    c.from_residual.ensures
    ∙ sym (cell_in-past c.args.item.0 c.args.cells.now c.cells_below-number.result c.requires
    c.cells_below-number.ensures.splits (λ d within e. absurd (omega (arith, lookup.3))))

pub returns-then-cell-item : goal.returns-then-cell-item
returns-then-cell-item c =
    let cell = c.in_ok-cell.cell.now in
    let lookup = c.in_ok-cell.ensures.lookup in
    sym (cell_in-at c.args.item.0 c.args.cells.now c.cells_below-number.result cell c.requires lookup.3.0
    (sym (ap (λ (x : Cell). x.item.0) (lookup.3.1 cell)) ∙ c.if-cell-item.true))

pub returns-else-cell-item : goal.returns-else-cell-item
returns-else-cell-item c =
    let lookup = c.in_ok-cell.ensures.lookup in
    sym (cell_in-past c.args.item.0 c.args.cells.now c.cells_below-number.result c.requires
    c.cells_below-number.ensures.splits (λ d within e. c.if-cell-item.false
    (ap (λ (x : Cell). x.item.0) (lookup.3.1 d) ∙ e)))
