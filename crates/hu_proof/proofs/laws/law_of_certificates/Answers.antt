use Rattle.hu_proof.proofs.Sound.{opens_all_found, opens_the_answer}
use Rattle.hu_proof.proofs.laws.law_of_certificates.Goals as goal

pub returns : goal.returns
returns c = record { found = opens_all_found; answer = opens_the_answer }
