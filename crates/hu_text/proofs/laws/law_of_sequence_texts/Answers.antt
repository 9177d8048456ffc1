use Rattle.hu_text.proofs.lemmas.RecordTexts.{sequences_are_read_again, sequences_are_input}
use Rattle.hu_text.proofs.laws.law_of_sequence_texts.Goals as goal

pub returns-clause-again : goal.returns-clause-again
returns-clause-again c = sequences_are_read_again

pub returns-clause-input : goal.returns-clause-input
returns-clause-input c = sequences_are_input
