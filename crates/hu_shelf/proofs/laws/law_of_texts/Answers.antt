use Rattle.hu_shelf.proofs.lemmas.StoreLemmas.{text_of-store}
use Rattle.hu_shelf.proofs.laws.law_of_texts.Goals as goal

pub returns : goal.returns
returns c = record { same = text_of-store }
