use Rattle.std.proofs.Common.{◌∙◌, ◌+ℤ◌, get_or, sym}
use Rattle.hu_rows.specs.Bounds.{value_at}
use Rattle.hu_rows.specs.Setting.{subtree_part}
use Rattle.hu_rows.specs.View.{row_of}
use Rattle.hu_rows.proofs.CellChecks.{ascends-at}
use Rattle.hu_rows.proofs.SettingLemmas.{subtree-more, subtree-room}
use Rattle.hu_rows.proofs.PastEnd.{past_row}
use Rattle.hu_rows.proofs.setting.Setting.fill_subtree.Goals as goal

pub add_subtree-requires-clause-ascending : goal.add_subtree-requires-clause-ascending
add_subtree-requires-clause-ascending c =
    ascends-at c.args.rows.now c.loop-row.row-index past_row c.requires.rules.ascending c.loop-row-test.true

pub add_subtree-requires-clause-fits : goal.add_subtree-requires-clause-fits
add_subtree-requires-clause-fits c =
    λ rank. subtree-room c.args.rows.now c.args.keep.now c.loop-row.row-index past_row rank (value_at c.loop-row.self.values rank) c.loop-row-test.true
    (c.loop-row.invariant.value rank) c.requires.rules.sizes

pub loop-row-preserved : goal.loop-row-preserved
loop-row-preserved c =
    let row = row_of (get_or c.args.rows.now c.loop-row.row-index past_row) in
    record {
      kept = c.add_subtree.ensures.kept ∙ c.loop-row.invariant.kept;
      len = c.add_subtree.ensures.len ∙ c.loop-row.invariant.len;
      value = λ rank. c.add_subtree.ensures.value rank
          ∙ (λ j. c.loop-row.invariant.value rank j +ℤ subtree_part (c.loop-row.invariant.kept j) row rank)
          ∙ sym (subtree-more c.args.rows.now c.args.keep.now c.loop-row.row-index past_row rank c.loop-row-test.true);
    }
