use Rattle.hu_run.proofs.SummaryLemmas.{item-runs, closed-runs, sequence-runs, sized-runs, average-runs, check-runs}
use Rattle.hu_run.proofs.laws.law_of_written_answers.Goals as goal

pub returns : goal.returns
returns c = record {
  items = item-runs c.law_of_itemsets.ensures c.law_of_order.ensures.ascends;
  closed = closed-runs c.law_of_closed_itemsets.ensures c.law_of_order.ensures.ascends;
  sequences = sequence-runs c.law_of_sequences.ensures c.law_of_order.ensures.ascends;
  lengths = sized-runs c.law_of_sized_answers.ensures.stands c.law_of_sized_answers.ensures.ascends;
  averages = average-runs c.law_of_average_answers.ensures.stands c.law_of_average_answers.ensures.ascends;
  checked = check-runs c.law_of_itemsets.ensures c.law_of_order.ensures.ascends;
}
