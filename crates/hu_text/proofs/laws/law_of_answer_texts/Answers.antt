use Rattle.hu_text.proofs.lemmas.Texts.{text_tells_entries, one_text_one_keys, one_text_one_utilities, one_text_one_answer}
use Rattle.hu_text.proofs.laws.law_of_answer_texts.Goals as goal

pub returns-clause-told : goal.returns-clause-told
returns-clause-told c = text_tells_entries

pub returns-clause-keys : goal.returns-clause-keys
returns-clause-keys c = one_text_one_keys

pub returns-clause-utilities : goal.returns-clause-utilities
returns-clause-utilities c = one_text_one_utilities

pub returns-clause-closed : goal.returns-clause-closed
returns-clause-closed c = one_text_one_answer
