use Rattle.hu_answer.proofs.lemmas.Fronts.{outside_comes_after}
use Rattle.hu_answer.proofs.laws.law_of_the_first.Goals as goal

pub returns-clause-outside : goal.returns-clause-outside
returns-clause-outside c = outside_comes_after
