use Rattle.std.proofs.Common.{suc, sym, ap, ◌∙◌, nat_eq, ◌+ℤ◌, unsigned_abs, get_or, drop, arith, eqb-true}
use Rattle.std.proofs.lemmas.Int.{ints}
use Rattle.std.proofs.lemmas.Bool.{not-true, not-false, eqb-false}
use Rattle.hu_kind.specs.declared.item.Cell.{Cell}
use Rattle.hu_plain.proofs.CellLemmas.{grown_row-past, grown_row-at, absolute_of-at, same_row, rest_of}
use Rattle.hu_plain.proofs.row.Row.grown.Goals as goal

pub returns-in_err-cell : goal.returns-in_err-cell
returns-in_err-cell c =
    let row = c.args.self.now in
    let lookup = c.in_err-cell.ensures.lookup in
    let none = grown_row-past c.args.item.0 row.earned row.tail.now c.cells_below-place.result c.requires.ascending c.cells_below-place.ensures.splits
    (λ d within e. absurd (omega (arith, lookup.3))) in
    let gone = c.from_residual.ensures in
    rw gone (sym none)

pub returns-then-ne : goal.returns-then-ne
returns-then-ne c =
    let row = c.args.self.now in
    let cell = c.in_ok-cell.cell.now in
    let lookup = c.in_ok-cell.ensures.lookup in
    let differs = eqb-false cell.item.0 c.args.item.0 (not-true (nat_eq cell.item.0 c.args.item.0) (sym c.ne.ensures ∙ c.if-ne.true)) in
    sym (grown_row-past c.args.item.0 row.earned row.tail.now c.cells_below-place.result c.requires.ascending c.cells_below-place.ensures.splits
    (λ d within e. differs (ap (λ (x : Cell). x.item.0) (lookup.3.1 d) ∙ e)))

pub overflow_add-result : goal.overflow_add-result
overflow_add-result c =
    let row = c.args.self.now in
    let cell = c.in_ok-cell.cell.now in
    let lookup = c.in_ok-cell.ensures.lookup in
    let within = absolute_of-at row.tail.now c.cells_below-place.result cell lookup.3.0 in
    let same = ap (λ (x : Cell). unsigned_abs x.value) (lookup.3.1 cell) in
    let fits = c.requires.sum_fits in
    omega (arith, ints, within, same, fits)

pub returns : goal.returns
returns c =
    let row = c.args.self.now in
    let cell = c.in_ok-cell.cell.now in
    let place = c.cells_below-place.result in
    let lookup = c.in_ok-cell.ensures.lookup in
    let here = eqb-true cell.item.0 c.args.item.0 (not-false (nat_eq cell.item.0 c.args.item.0) (sym c.ne.ensures ∙ c.if-ne.false)) in
    let at = grown_row-at c.args.item.0 row.earned row.tail.now place cell c.requires.ascending lookup.3.0
    (sym (ap (λ (x : Cell). x.item.0) (lookup.3.1 cell)) ∙ here) in
    let value = ap (λ (x : Cell). x.value) (lookup.3.1 cell) in
    let within = absolute_of-at row.tail.now place cell lookup.3.0 in
    let fits = c.requires.sum_fits in
    same_row _ (row.earned +ℤ (get_or row.tail.now place cell).value) _ (drop (suc place) row.tail.now) _
    (omega (arith, ints, value, within, fits, ap unsigned_abs value)) (rest_of row.tail.now place) at
