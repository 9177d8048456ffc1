use Rattle.std.proofs.Common.{◌∙◌, [], List, length, get_or, ap}
use Rattle.std.proofs.lemmas.List.{length-replicate}
use Rattle.hu_totals.proofs.lemmas.Lists.{empty-at}
use Rattle.hu_rows.specs.declared.places.Place.{Place}
use Rattle.hu_rows.proofs.places.Places.new.Goals as goal

pub returns-clause-ranks : goal.returns-clause-ranks
returns-clause-ranks c = ap length c.in_ok-empty_lists.ensures ∙ length-replicate {A = List Place} c.args.ranks []

pub returns-clause-empty : goal.returns-clause-empty
returns-clause-empty c rank = ap (λ lists. get_or lists rank []) c.in_ok-empty_lists.ensures ∙ empty-at c.args.ranks rank
