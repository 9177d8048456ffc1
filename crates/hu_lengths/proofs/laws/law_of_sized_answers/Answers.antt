use Rattle.hu_lengths.proofs.AnswerLemmas.{is_sized_answer, sized_ascends, sized_in_any_order}
use Rattle.hu_lengths.proofs.laws.law_of_sized_answers.Goals as goal

pub returns-clause-stands : goal.returns-clause-stands
returns-clause-stands c = is_sized_answer

pub returns-clause-ascends : goal.returns-clause-ascends
returns-clause-ascends c = sized_ascends

pub returns-clause-any_order : goal.returns-clause-any_order
returns-clause-any_order c = sized_in_any_order
