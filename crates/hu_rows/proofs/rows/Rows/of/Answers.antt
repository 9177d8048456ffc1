use Rattle.std.proofs.Common.{◌≡◌, ◌∙◌, ℕ, List, map, length}
use Rattle.hu_kind.specs.Database.{utility, support}
use Rattle.hu_rows.specs.Rows.{AreCounted, over, count_over, unmerged}
use Rattle.hu_rows.specs.Tally.{AreBelow}
use Rattle.hu_rows.proofs.RowRanks.{AreBelow-ranks, AreBelow-unmerged}
use Rattle.hu_rows.proofs.CellChecks.{AreCounted-unmerged, over-unmerged, count_over-unmerged}
use Rattle.hu_rows.proofs.SortedRows.{IfOk-merging}
use Rattle.hu_rows.proofs.rows.Rows.of.Goals as goal

pub returns-clause-over : goal.returns-clause-over
returns-clause-over c =
    let rows = c.args.ranked.now.records in
    IfOk-merging c.merge.result _ (map unmerged rows) (λ answer. (set : List ℕ) → over answer set ≡ utility rows set)
    c.in_ok-ranked_rows.ensures.value (λ answer h set. h.over set ∙ over-unmerged set rows) c.merge.ensures

pub returns-clause-count : goal.returns-clause-count
returns-clause-count c =
    let rows = c.args.ranked.now.records in
    IfOk-merging c.merge.result _ (map unmerged rows) (λ answer. (set : List ℕ) → count_over answer set ≡ support rows set)
    c.in_ok-ranked_rows.ensures.value (λ answer h set. h.count set ∙ count_over-unmerged set rows) c.merge.ensures

pub returns-clause-counted : goal.returns-clause-counted
returns-clause-counted c =
    let rows = c.args.ranked.now.records in
    IfOk-merging c.merge.result _ (map unmerged rows) AreCounted
    c.in_ok-ranked_rows.ensures.value (λ answer h. h.counted (AreCounted-unmerged rows)) c.merge.ensures

pub returns-clause-ranks : goal.returns-clause-ranks
returns-clause-ranks c =
    let n = length c.args.ranked.now.items in
    IfOk-merging c.merge.result _ (map unmerged c.args.ranked.now.records) (AreBelow n) c.in_ok-ranked_rows.ensures.value
    (λ answer h. AreBelow-ranks n answer (λ rank m. AreBelow-unmerged c.args.ranked.now c.in_ok-ranked_rows.ensures.ranking rank (h.ranks rank m)))
    c.merge.ensures
