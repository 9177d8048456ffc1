use Rattle.hu_shelf.proofs.lemmas.StoreLemmas.{store_of-text}
use Rattle.hu_shelf.proofs.laws.law_of_stores.Goals as goal

pub returns : goal.returns
returns c = record { same = store_of-text }
