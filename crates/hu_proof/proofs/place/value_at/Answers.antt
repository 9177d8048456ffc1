use Rattle.std.proofs.Common.{◌≡◌, Some, ◌∙◌, sym, ap, arith, to_z, of_z}
use Rattle.std.specs.Int.{w128}
use Rattle.std.proofs.lemmas.Int.{ints}
use Rattle.hu_kind.specs.declared.item.Cell.{Cell}
use Rattle.hu_proof.proofs.CellLemmas.{value_in-at, value_in-past}
use Rattle.hu_proof.proofs.place.value_at.Goals as goal

pub returns-in_err-cell : goal.returns-in_err-cell
returns-in_err-cell c =
    let lookup = c.in_err-cell.ensures.lookup in
    c.from_residual.ensures
    ∙ sym (value_in-past c.args.item.0 c.args.cells.now c.cells_below.result c.requires
    c.cells_below.ensures.splits (λ d within e. absurd (omega (arith, lookup.3))))

pub returns-then-cell-item : goal.returns-then-cell-item
returns-then-cell-item c =
    let cell = c.in_ok-cell.cell.now in
    let lookup = c.in_ok-cell.ensures.lookup in
    let here = sym (ap (λ (x : Cell). x.item.0) (lookup.3.1 cell)) ∙ c.if-cell-item.true in
    let at = value_in-at c.args.item.0 c.args.cells.now c.cells_below.result cell c.requires lookup.3.0 here in
    let value = ap (λ (x : Cell). x.value) (lookup.3.1 cell) in
    let same : to_z w128 (of_z w128 cell.value) ≡ cell.value = omega (arith, ints) in
    ap Some (same ∙ value) ∙ sym at

pub returns-else-cell-item : goal.returns-else-cell-item
returns-else-cell-item c =
    let lookup = c.in_ok-cell.ensures.lookup in
    sym (value_in-past c.args.item.0 c.args.cells.now c.cells_below.result c.requires
    c.cells_below.ensures.splits (λ d within e. c.if-cell-item.false
    (ap (λ (x : Cell). x.item.0) (lookup.3.1 d) ∙ e)))
