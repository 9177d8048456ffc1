use Rattle.hu_kept.proofs.Batches.{keeps_closedness}
use Rattle.hu_kept.proofs.laws.law_of_untouched_closedness.Goals as goal

pub returns : goal.returns
returns c = keeps_closedness
