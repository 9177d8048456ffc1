use Rattle.hu_average.proofs.AnswerLemmas.{is_average_answer, averages_ascend, averages_in_any_order}
use Rattle.hu_average.proofs.laws.law_of_average_answers.Goals as goal

pub returns-clause-stands : goal.returns-clause-stands
returns-clause-stands c = is_average_answer

pub returns-clause-ascends : goal.returns-clause-ascends
returns-clause-ascends c = averages_ascend

pub returns-clause-any_order : goal.returns-clause-any_order
returns-clause-any_order c = averages_in_any_order
