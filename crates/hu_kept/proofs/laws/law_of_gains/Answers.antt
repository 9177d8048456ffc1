use Rattle.hu_kept.proofs.Batches.{never_loses}
use Rattle.hu_kept.proofs.laws.law_of_gains.Goals as goal

pub returns : goal.returns
returns c = never_loses
