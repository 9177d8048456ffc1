use Rattle.std.proofs.Common.{get_or, length, sym, ap, ◌∙◌}
use Rattle.hu_kind.specs.Record.{has}
use Rattle.hu_rows.specs.Tally.{plus, share_if, tail_share, tally_at}
use Rattle.hu_rows.specs.View.{row_of}
use Rattle.hu_rows.proofs.CellChecks.{ascends-at, below-at}
use Rattle.hu_rows.proofs.TallyLemmas.{tail_told-more, tail-room}
use Rattle.hu_rows.proofs.PastEnd.{past_row}
use Rattle.hu_rows.proofs.tally.tell_row_tails.Goals as goal

pub tell_tails-requires-clause-ascending : goal.tell_tails-requires-clause-ascending
tell_tails-requires-clause-ascending c =
    ascends-at c.args.rows.now c.loop-row.row-index past_row c.requires.rules.ascending c.loop-row-test.true

pub tell_tails-requires-clause-below : goal.tell_tails-requires-clause-below
tell_tails-requires-clause-below c =
    below-at (length c.loop-row.tallies.items) (length c.args.tallies.now.items) c.args.rows.now c.loop-row.row-index past_row
    c.requires.below c.loop-row.invariant.len c.loop-row-test.true

pub tell_tails-requires-clause-room : goal.tell_tails-requires-clause-room
tell_tails-requires-clause-room c rank =
    tail-room c.args.rows.now c.loop-row.row-index past_row rank (tally_at c.loop-row.tallies.items rank) c.requires.rules c.loop-row-test.true
    (c.loop-row.invariant.value rank)

pub loop-row-preserved : goal.loop-row-preserved
loop-row-preserved c =
    let row = row_of (get_or c.args.rows.now c.loop-row.row-index past_row) in
    record {
      len = c.tell_tails.ensures.len ∙ c.loop-row.invariant.len;
      value = λ rank. c.tell_tails.ensures.value rank
          ∙ ap (λ t. plus t (share_if (has rank row.cells) (tail_share row rank))) (c.loop-row.invariant.value rank)
          ∙ sym (tail_told-more c.args.rows.now c.loop-row.row-index past_row rank c.loop-row-test.true);
    }
