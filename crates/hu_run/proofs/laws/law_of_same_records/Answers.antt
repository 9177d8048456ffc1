use Rattle.hu_run.proofs.SummaryLemmas.{same_items, same_closed, same_sequences, same_lengths, same_averages}
use Rattle.hu_run.proofs.laws.law_of_same_records.Goals as goal

pub returns : goal.returns
returns c = record {
  items = same_items c.law_of_any_order.ensures.items;
  closed = same_closed c.law_of_any_order.ensures.closed;
  sequences = same_sequences c.law_of_any_order.ensures.sequences;
  lengths = same_lengths c.law_of_sized_answers.ensures.any_order;
  averages = same_averages c.law_of_average_answers.ensures.any_order;
}
