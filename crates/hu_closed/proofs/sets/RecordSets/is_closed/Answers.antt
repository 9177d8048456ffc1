use Rattle.std.proofs.Common.{◌∙◌, ap}
use Rattle.hu_closed.specs.Keys.{is_closed_key}
use Rattle.hu_closed.proofs.lemmas.Closedness.{is_closed_key-items}
use Rattle.hu_closed.proofs.sets.RecordSets.is_closed.Goals as goal

pub returns-clause-itemset : goal.returns-clause-itemset
returns-clause-itemset c items is of =
    c.is_closed_at.ensures ∙ ap (is_closed_key c.args.self.now) (c.numbers.ensures ∙ of) ∙ is_closed_key-items c.args.self.now items is
