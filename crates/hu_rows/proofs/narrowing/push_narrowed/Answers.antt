use Rattle.std.proofs.Common.{◌≡◌, ◌∙◌, ◌<◌, length, eqb, cond, ap, refl, arith, rules}
use Rattle.std.specs.Int.{w128}
use Rattle.std.proofs.lemmas.Int.{to_z-of_z}
use Rattle.hu_totals.specs.View.{cells_of}
use Rattle.hu_rows.specs.declared.rows.Row.{Row}
use Rattle.hu_rows.specs.Handed.{reaches, only}
use Rattle.hu_rows.proofs.NarrowingLemmas.{cells-chosen, narrowed-some, narrowed-none}
use Rattle.hu_rows.proofs.narrowing.push_narrowed.Goals as goal

pub returns-in_ok-push : goal.returns-in_ok-push
returns-in_ok-push c =
    let kept = c.keep_cells.new.kept.items in
    let row = c.args.row.now in
    let p = reaches c.args.tallies.now c.args.floor in
    let is : cells_of kept ≡ only p (cells_of row.cells.now) = c.in_ok-keep_cells.ensures
    ∙ ap (λ f. only (reaches c.args.tallies.now f) (cells_of row.cells.now)) (to_z-of_z w128 c.args.floor c.ranges.floor) in
    let two : 1 < length kept = omega (arith, c.len.ensures, c.if-len-gt1.true, c.keep_cells.new.kept.ok) in
    let chosen = c.in_ok-cells_in.field-0.now in
    let choice : chosen ≡ cond (eqb (length kept) (length row.cells.now)) row.cells.now kept = c.in_ok-cells_in.ensures
    ∙ ap (λ ks. cond (eqb (length ks) (length row.cells.now)) row.cells.now ks) c.as_slice.ensures.value in
    let fresh : Row = record { before = row.before; count = row.count; cells = c.in_ok-cells_in.field-0 } in
    narrowed-some p row kept is c.args.narrowed.now.items c.push.new.self.items fresh two refl (cells-chosen p row.cells.now kept chosen is choice)
    (search rules)

pub returns-else-len-gt1 : goal.returns-else-len-gt1
returns-else-len-gt1 c =
    let kept = c.keep_cells.new.kept.items in
    let row = c.args.row.now in
    let p = reaches c.args.tallies.now c.args.floor in
    let is : cells_of kept ≡ only p (cells_of row.cells.now) = c.in_ok-keep_cells.ensures
    ∙ ap (λ f. only (reaches c.args.tallies.now f) (cells_of row.cells.now)) (to_z-of_z w128 c.args.floor c.ranges.floor) in
    narrowed-none p row kept is c.args.narrowed.now.items (omega (arith, c.len.ensures, c.if-len-gt1.false, c.keep_cells.new.kept.ok))
