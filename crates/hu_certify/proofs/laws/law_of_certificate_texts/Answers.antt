use Rattle.hu_certify.proofs.LawLemmas.{accepted}
use Rattle.hu_certify.proofs.laws.law_of_certificate_texts.Goals as goal

pub returns : goal.returns
returns c = accepted
