use Rattle.hu_certify.proofs.LawLemmas.{faultless}
use Rattle.hu_certify.proofs.laws.law_of_faultless_texts.Goals as goal

pub returns : goal.returns
returns c = faultless
