use Rattle.hu_text.proofs.lemmas.RecordTexts.{records_are_read_again, records_are_input}
use Rattle.hu_text.proofs.laws.law_of_record_texts.Goals as goal

pub returns-clause-again : goal.returns-clause-again
returns-clause-again c = records_are_read_again

pub returns-clause-input : goal.returns-clause-input
returns-clause-input c = records_are_input
