use Rattle.hu_answer.proofs.lemmas.AnyOrder.{items_in_any_order, closed_in_any_order, sequences_in_any_order}
use Rattle.hu_answer.proofs.laws.law_of_any_order.Goals as goal

pub returns-clause-items : goal.returns-clause-items
returns-clause-items c = items_in_any_order

pub returns-clause-closed : goal.returns-clause-closed
returns-clause-closed c = closed_in_any_order

pub returns-clause-sequences : goal.returns-clause-sequences
returns-clause-sequences c = sequences_in_any_order
