use Rattle.hu_answer.proofs.lemmas.Answers.{is_item_answer}
use Rattle.hu_answer.proofs.laws.law_of_itemsets.Goals as goal

-- src/laws.rt:6:1
pub returns : goal.returns
returns c = is_item_answer
