use Rattle.std.proofs.Common.{◌∙◌, ◌<◌, ◌+◌, ◌^◌, ap, sym, subst, arith, [], ◌∷◌, ◌++◌, take, length, sum_by, length-take}
use Rattle.std.proofs.lemmas.List.{take_more}
use Rattle.std.proofs.lemmas.List.Sums.{sum_by_more_le}
use Rattle.hu_kind.specs.Cell.{pairs_of}
use Rattle.hu_kind.specs.Record.{absolute_of, items_in}
use Rattle.hu_kind.specs.Order.{Ascend}
use Rattle.hu_totals.specs.Totals.{item_totals}
use Rattle.hu_totals.specs.Adding.{total_in, with_record, HasRoom}
use Rattle.hu_totals.proofs.lemmas.RecordCells.{Ascend-record}
use Rattle.hu_totals.proofs.lemmas.AddingLemmas.{total_in-item_totals, with_record-item_totals}
use Rattle.hu_totals.proofs.lemmas.RoomLemmas.{HasRoom-total_of}
use Rattle.hu_totals.proofs.totals.Totals.of.Goals as goal

pub add_record-requires-clause-ascending : goal.add_record-requires-clause-ascending
add_record-requires-clause-ascending c =
    subst (λ cells. Ascend (items_in cells)) (sym c.cells.ensures.value)
    (Ascend-record c.record-item.result c.cells.ensures.rules)

pub add_record-requires-clause-room : goal.add_record-requires-clause-room
add_record-requires-clause-room c item =
    let records = c.records-record-items.result.now in
    let i = c.loop-record.record-index in
    let one = c.record-item.result in
    let more = absolute_of (pairs_of c.cells.result.now) in
    let same = ap (λ t. total_in t item) c.loop-record.invariant ∙ total_in-item_totals (take i records) item in
    let weight = ap absolute_of (c.cells.ensures.value ∙ c.record-item.is) in
    let within = sum_by_more_le absolute_of records i one c.loop-record-test.true in
    let all = ap (sum_by absolute_of) c.records-record-items.ensures in
    let fits : sum_by absolute_of (take i records) + more < 2 ^ 127 = omega (arith, c.sum-sum.ensures.fits) in
    let few : length (take i records) + 1 < 2 ^ 64 = omega (arith, length-take i records) in
    subst (λ t. HasRoom t more) (sym same) (HasRoom-total_of (take i records) item more fits few)

pub loop-record-preserved : goal.loop-record-preserved
loop-record-preserved c =
    let records = c.records-record-items.result.now in
    let i = c.loop-record.record-index in
    let one = c.record-item.result in
    c.in_ok-add_record.ensures
    ∙ ap (λ t. with_record t (pairs_of c.cells.result.now)) c.loop-record.invariant
    ∙ ap (with_record (item_totals (take i records))) c.cells.ensures.value
    ∙ with_record-item_totals (take i records) one (Ascend-record one c.cells.ensures.rules)
    ∙ ap (λ last. item_totals (take i records ++ last ∷ [])) c.record-item.is
    ∙ ap item_totals (sym (take_more records i one c.loop-record-test.true))
