use Rattle.std.proofs.Common.{◌∙◌, ap}
use Rattle.hu_closed.specs.Keys.{key_support}
use Rattle.hu_closed.proofs.lemmas.Closedness.{support-key}
use Rattle.hu_closed.proofs.sets.RecordSets.support.Goals as goal

pub returns-clause-itemset : goal.returns-clause-itemset
returns-clause-itemset c items of =
    c.count_holding.ensures ∙ ap (key_support c.args.self.now) (c.numbers.ensures ∙ of) ∙ support-key c.args.self.now items
