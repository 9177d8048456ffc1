use Rattle.hu_kept.proofs.Batches.{stays_closed}
use Rattle.hu_kept.proofs.laws.law_of_closed_sets.Goals as goal

pub returns : goal.returns
returns c = stays_closed
