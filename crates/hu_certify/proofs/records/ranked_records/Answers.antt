use Rattle.std.proofs.Common.{sym, subst}
use Rattle.hu_kind.specs.Order.{Ascend}
use Rattle.hu_kind.specs.Record.{items_in}
use Rattle.hu_totals.proofs.lemmas.RecordCells.{Ascend-record}
use Rattle.hu_certify.proofs.records.ranked_records.Goals as goal

pub ranked_cells-requires-clause-ascending : goal.ranked_cells-requires-clause-ascending
ranked_cells-requires-clause-ascending c = subst (λ cells. Ascend (items_in cells)) (sym c.cells.ensures.value)
    (Ascend-record c.record-item.result c.cells.ensures.rules)
