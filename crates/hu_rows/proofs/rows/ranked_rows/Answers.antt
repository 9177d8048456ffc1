use Rattle.std.proofs.Common.{◌≡◌, map, length, ap, sym, subst, arith}
use Rattle.std.proofs.lemmas.Grind.{common_steps}
use Rattle.std.proofs.lemmas.List.{length-map}
use Rattle.hu_totals.specs.View.{pairs_in}
use Rattle.hu_rows.specs.Rows.{AreRows, unmerged}
use Rattle.hu_rows.specs.View.{rows_of}
use Rattle.hu_rows.proofs.CellChecks.{AreRows-unmerged}
use Rattle.hu_rows.proofs.rows.ranked_rows.Goals as goal

pub returns-clause-rules : goal.returns-clause-rules
returns-clause-rules c =
    let is : rows_of c.loop-record.rows.items ≡ map unmerged c.args.ranked.now.records = grind (arith, common_steps) in
    subst AreRows (sym is) (AreRows-unmerged c.args.ranked.now c.records-record-items.ensures.rules
    (omega (arith, ap length c.records-record-items.ensures.value, length-map c.records-record-items.result.now pairs_in)))
