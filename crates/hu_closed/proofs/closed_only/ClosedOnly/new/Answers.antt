use Rattle.hu_closed.proofs.lemmas.ClosedLemmas.{makes-closed}
use Rattle.hu_closed.proofs.closed_only.ClosedOnly.new.Goals as goal

pub returns-clause-patterns : goal.returns-clause-patterns
returns-clause-patterns g c = makes-closed (g.C.Collect.state c.args.inner) c.args.sets.now c.args.ranked.now.items c.tell_rules.ensures
