use Rattle.std.proofs.Common.{◌∙◌, ◌+ℤ◌, get_or, sym}
use Rattle.hu_rows.specs.Bounds.{value_at}
use Rattle.hu_rows.specs.Setting.{local_part}
use Rattle.hu_rows.specs.View.{row_of}
use Rattle.hu_rows.proofs.CellChecks.{ascends-at}
use Rattle.hu_rows.proofs.SettingLemmas.{local-more, local-room}
use Rattle.hu_rows.proofs.PastEnd.{past_row}
use Rattle.hu_rows.proofs.setting.Setting.fill_local.Goals as goal

pub add_local-requires-clause-ascending : goal.add_local-requires-clause-ascending
add_local-requires-clause-ascending c =
    ascends-at c.args.rows.now c.loop-row.row-index past_row c.requires.rules.ascending c.loop-row-test.true

pub add_local-requires-clause-fits : goal.add_local-requires-clause-fits
add_local-requires-clause-fits c =
    λ rank. local-room c.args.rows.now c.args.keep.now c.loop-row.row-index past_row rank (value_at c.loop-row.self.values rank) c.loop-row-test.true
    (c.loop-row.invariant.value rank) c.requires.rules.sizes

pub loop-row-preserved : goal.loop-row-preserved
loop-row-preserved c =
    let row = row_of (get_or c.args.rows.now c.loop-row.row-index past_row) in
    record {
      kept = c.add_local.ensures.kept ∙ c.loop-row.invariant.kept;
      len = c.add_local.ensures.len ∙ c.loop-row.invariant.len;
      value = λ rank. c.add_local.ensures.value rank
          ∙ (λ j. c.loop-row.invariant.value rank j +ℤ local_part (c.loop-row.invariant.kept j) row rank)
          ∙ sym (local-more c.args.rows.now c.args.keep.now c.loop-row.row-index past_row rank c.loop-row-test.true);
    }
