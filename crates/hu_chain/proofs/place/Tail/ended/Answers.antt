use Rattle.std.proofs.Common.{◌≡◌, ◌≤◌, ◌∙◌, ◌+◌, ◌-ℤ◌, ℕ, None, refl, sym, subst, pos, arith, length, length-take-le}
use Rattle.std.specs.Prelude.{IfSome}
use Rattle.std.proofs.lemmas.Int.{ints}
use Rattle.hu_kind.specs.declared.item.Cell.{Cell}
use Rattle.hu_kind.specs.Cell.{pairs_of}
use Rattle.hu_kind.specs.Record.{total}
use Rattle.hu_chain.specs.declared.place.Tail.{Tail}
use Rattle.hu_chain.specs.Bound.{IsFit}
use Rattle.hu_chain.specs.Search.{cell_in, found}
use Rattle.hu_chain.proofs.Tails.{found-fit, found-missing, found-some, IsFound-from}
use Rattle.hu_chain.proofs.place.Tail.ended.Goals as goal

-- a cell past the end
no_cell : Cell
no_cell = record { item = record { 0 = 0 }; value = pos 0 }

missing : (tail : Tail) (item : ℕ) → None ≡ cell_in item (pairs_of tail.cells.now)
    → found tail.element tail.first item tail.best (tail.ahead -ℤ total (pairs_of tail.cells.now)) (pairs_of tail.cells.now) ≡ None
missing tail item e = found-missing tail.element tail.first item tail.best (tail.ahead -ℤ total (pairs_of tail.cells.now)) (pairs_of tail.cells.now) e

pub returns-in_err-cell-clause-value : goal.returns-in_err-cell-clause-value
returns-in_err-cell-clause-value c = c.from_residual.ensures ∙ sym (missing c.args.self.now c.args.item.0 c.in_err-cell.ensures)

pub overflow_add-next : goal.overflow_add-next
overflow_add-next c =
    let is = IsFound-from c.args.self.now c.args.item.0 c.in_ok-cell.cell no_cell c.requires c.in_ok-cell.ensures in
    omega (arith, c.requires.few, is.within)

pub overflow_cast-result : goal.overflow_cast-result
overflow_cast-result c =
    let is = IsFound-from c.args.self.now c.args.item.0 c.in_ok-cell.cell no_cell c.requires c.in_ok-cell.ensures in
    omega (arith, c.requires.few, is.within)

pub overflow_add-result : goal.overflow_add-result
overflow_add-result c =
    let is = IsFound-from c.args.self.now c.args.item.0 c.in_ok-cell.cell no_cell c.requires c.in_ok-cell.ensures in
    omega (arith, c.requires.few, is.within)

pub offset_bounds-self-cell : goal.offset_bounds-self-cell
offset_bounds-self-cell c =
    let is = IsFound-from c.args.self.now c.args.item.0 c.in_ok-cell.cell no_cell c.requires c.in_ok-cell.ensures in
    omega (arith, c.requires.few, is.within)

pub bounds-self-cell : goal.bounds-self-cell
bounds-self-cell c =
    let is = IsFound-from c.args.self.now c.args.item.0 c.in_ok-cell.cell no_cell c.requires c.in_ok-cell.ensures in
    omega (arith, c.requires.few, is.within)

pub overflow_add-result-2 : goal.overflow_add-result-2
unfolding no_cell
overflow_add-result-2 c =
    let is = IsFound-from c.args.self.now c.args.item.0 c.in_ok-cell.cell no_cell c.requires c.in_ok-cell.ensures in
    omega (arith, ints, c.requires.few, is.within, is.low, is.front, is.parts, is.rest, c.requires.best, c.requires.holds, c.requires.fits)

pub slice_bounds-total-end : goal.slice_bounds-total-end
slice_bounds-total-end c =
    let is = IsFound-from c.args.self.now c.args.item.0 c.in_ok-cell.cell no_cell c.requires c.in_ok-cell.ensures in
    let within : c.in_ok-cell.cell + 1 ≤ length c.args.self.now.cells.now = omega (arith, is.within) in
    sym (length-take-le (c.in_ok-cell.cell + 1) c.args.self.now.cells.now within)

pub total-requires-clause-fits : goal.total-requires-clause-fits
unfolding no_cell
total-requires-clause-fits c =
    let is = IsFound-from c.args.self.now c.args.item.0 c.in_ok-cell.cell no_cell c.requires c.in_ok-cell.ensures in
    omega (arith, ints, c.requires.few, is.within, is.low, is.front, is.parts, is.rest, c.requires.best, c.requires.holds, c.requires.fits)

pub overflow_sub-result : goal.overflow_sub-result
unfolding no_cell
overflow_sub-result c =
    let is = IsFound-from c.args.self.now c.args.item.0 c.in_ok-cell.cell no_cell c.requires c.in_ok-cell.ensures in
    omega (arith, ints, c.requires.few, is.within, is.low, is.front, is.parts, is.rest, c.requires.best, c.requires.holds, c.requires.fits)

pub total-requires-clause-none_below : goal.total-requires-clause-none_below
total-requires-clause-none_below c =
    let is = IsFound-from c.args.self.now c.args.item.0 c.in_ok-cell.cell no_cell c.requires c.in_ok-cell.ensures in
    is.none_below

pub returns-clause-value : goal.returns-clause-value
unfolding no_cell
returns-clause-value c =
    let is = IsFound-from c.args.self.now c.args.item.0 c.in_ok-cell.cell no_cell c.requires c.in_ok-cell.ensures in
    let few = c.requires.few in
    let within = is.within in
    let low = is.low in
    let front = is.front in
    let parts = is.parts in
    let rest = is.rest in
    let best = c.requires.best in
    let holds = c.requires.holds in
    let fits = c.requires.fits in
    let sum = c.total.ensures in
    found-some c.args.self.now c.args.item.0 c.in_ok-cell.cell no_cell _ is refl refl (omega (arith, ints)) (omega (arith, ints))

pub returns-clause-fit : goal.returns-clause-fit
returns-clause-fit c =
    let is = IsFound-from c.args.self.now c.args.item.0 c.in_ok-cell.cell no_cell c.requires c.in_ok-cell.ensures in
    subst (λ place. IfSome place IsFit) (sym (returns-clause-value c)) (found-fit c.args.self.now c.args.item.0 c.in_ok-cell.cell no_cell c.requires is)
