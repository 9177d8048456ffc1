use Rattle.hu_lengths.proofs.lemmas.SizedLemmas.{makes-sized}
use Rattle.hu_lengths.proofs.lengths_only.LengthsOnly.new.Goals as goal

pub returns-clause-patterns : goal.returns-clause-patterns
returns-clause-patterns g c = makes-sized c.args.short c.args.long (g.C.Collect.state c.args.inner)
