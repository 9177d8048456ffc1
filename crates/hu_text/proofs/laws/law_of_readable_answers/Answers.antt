use Rattle.hu_text.proofs.lemmas.Entries.{item_answer_is_readable, closed_answer_is_readable, sequence_answer_is_readable}
use Rattle.hu_text.proofs.laws.law_of_readable_answers.Goals as goal

pub returns-clause-items : goal.returns-clause-items
returns-clause-items c = item_answer_is_readable

pub returns-clause-closed : goal.returns-clause-closed
returns-clause-closed c = closed_answer_is_readable

pub returns-clause-sequences : goal.returns-clause-sequences
returns-clause-sequences c = sequence_answer_is_readable
