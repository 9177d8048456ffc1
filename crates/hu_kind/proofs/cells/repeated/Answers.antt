use Rattle.std.proofs.Common.{◌+◌, ◌-◌, ◌<◌, length, get_or, pos, arith}
use Rattle.hu_kind.specs.declared.item.Cell.{Cell}
use Rattle.hu_kind.specs.Cell.{pairs_of}
use Rattle.hu_kind.specs.Record.{items_in}
use Rattle.hu_kind.proofs.lemmas.CellsLemmas.{IsFirstTwice-repeated, item_at, length-items, items-ascending}
use Rattle.hu_kind.proofs.cells.repeated.Goals as goal

pub returns-then-cells-i : goal.returns-then-cells-i
returns-then-cells-i c =
    let cells = c.args.cells.now in
    let i = c.loop-i.i in
    let none : Cell = record { item = record { 0 = 0 }; value = pos 0 } in
    let within : i < length cells = c.loop-i-test.true in
    IsFirstTwice-repeated (items_in (pairs_of cells)) i (get_or cells i none).item.0
    (omega arith)
    (omega (arith, length-items cells))
    (items-ascending cells c.requires)
    (λ k below. omega (arith, item_at cells k 0 none (omega arith), item_at cells (k + 1) 0 none (omega arith), c.loop-i.invariant k none below))
    (item_at cells i 0 none within)
    (omega (arith, item_at cells (i - 1) 0 none (omega arith), c.if-cells-i.true))
