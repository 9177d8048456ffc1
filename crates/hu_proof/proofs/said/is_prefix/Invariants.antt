use Rattle.std.proofs.Common.{◌≡◌, length}
use Rattle.hu_proof.specs.Text.{each, plain_item, words}
use Rattle.hu_proof.specs.Words.{are_those, numbers_of, words_left}
use Rattle.hu_proof.proofs.said.is_prefix.Given as goal

abbrev pub invariant-words : goal.invariant-words
invariant-words l = are_those (each plain_item (words_left l.left)) (numbers_of l.rest) ≡ are_those (each plain_item (words l.text)) (numbers_of l.items)

abbrev pub decreases-words : goal.decreases-words
decreases-words l = length (words_left l.left)
