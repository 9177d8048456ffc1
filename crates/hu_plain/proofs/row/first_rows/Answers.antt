use Rattle.std.proofs.Common.{◌∙◌, ap, map, sym, subst, arith}
use Rattle.std.specs.List.{AllByRecursion}
use Rattle.std.proofs.lemmas.Grind.{common_steps}
use Rattle.std.proofs.lemmas.List.{take_all}
use Rattle.hu_plain.specs.Row.{IsRising}
use Rattle.hu_plain.specs.View.{rows_of, first_row}
use Rattle.hu_plain.proofs.RowLemmas.{rising_push, AreRows-first}
use Rattle.hu_plain.proofs.row.first_rows.Goals as goal

pub loop-record-preserved : goal.loop-record-preserved
loop-record-preserved c = record {
  so_far = grind (arith, common_steps);
  rising = subst (λ rows. AllByRecursion IsRising (rows_of rows)) (sym c.in_ok-push.ensures.items)
      (rising_push c.loop-record.rows.items _ _ c.loop-record.invariant.rising c.cells.ensures.rules c.cells.ensures.value);
}

pub returns-clause-rules : goal.returns-clause-rules
returns-clause-rules c =
    let all = take_all c.loop-record.record-index c.args.records.now c.loop-record-test.false in
    AreRows-first c.loop-record.rows.items c.args.records.now (c.loop-record.invariant.so_far ∙ ap (λ rs. map first_row rs) all)
    c.loop-record.invariant.rising c.requires
