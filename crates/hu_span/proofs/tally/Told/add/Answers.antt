use Rattle.hu_span.proofs.ToldLemmas.{told-more}
use Rattle.hu_span.proofs.tally.Told.add.Goals as goal

pub returns : goal.returns
returns c marks is = told-more c.args.reaches.now marks c.args.mark.now c.args.self.now _ is c.add.ensures c.spread_with-self.ensures
