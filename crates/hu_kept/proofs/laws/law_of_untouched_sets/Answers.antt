use Rattle.hu_kept.proofs.Batches.{keeps_untouched}
use Rattle.hu_kept.proofs.laws.law_of_untouched_sets.Goals as goal

pub returns : goal.returns
returns c = keeps_untouched
