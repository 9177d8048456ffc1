use Rattle.hu_answer.proofs.lemmas.Closed.{is_closed_answer}
use Rattle.hu_answer.proofs.laws.law_of_closed_itemsets.Goals as goal

pub returns : goal.returns
returns c = is_closed_answer
