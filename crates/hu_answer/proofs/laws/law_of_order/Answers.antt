use Rattle.hu_answer.proofs.lemmas.Fronts.{answer_ascends, stands_once}
use Rattle.hu_answer.proofs.laws.law_of_order.Goals as goal

pub returns-clause-ascends : goal.returns-clause-ascends
returns-clause-ascends c = answer_ascends

pub returns-clause-once : goal.returns-clause-once
returns-clause-once c = stands_once
