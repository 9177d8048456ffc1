use Rattle.hu_kept.proofs.Outside.{stays_outside}
use Rattle.hu_kept.proofs.laws.law_of_outside_patterns.Goals as goal

pub returns : goal.returns
returns c = stays_outside
