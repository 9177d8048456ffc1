use Rattle.hu_answer.proofs.lemmas.Occurrences.{has_best_where_it_occurs, best_is_reached, none_earns_more}
use Rattle.hu_answer.proofs.laws.law_of_occurrences.Goals as goal

pub returns-clause-occurs : goal.returns-clause-occurs
returns-clause-occurs c = has_best_where_it_occurs

pub returns-clause-reached : goal.returns-clause-reached
returns-clause-reached c = best_is_reached

pub returns-clause-greatest : goal.returns-clause-greatest
returns-clause-greatest c = none_earns_more
