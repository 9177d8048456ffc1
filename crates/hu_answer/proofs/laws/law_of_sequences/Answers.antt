use Rattle.hu_answer.proofs.lemmas.Sequences.{is_sequence_answer}
use Rattle.hu_answer.proofs.laws.law_of_sequences.Goals as goal

pub returns : goal.returns
returns c = is_sequence_answer
