use Rattle.std.proofs.Common.{◌≡◌, length}
use Rattle.std.specs.Option.{is_some}
use Rattle.hu_proof.specs.Text.{each, plain_item, words}
use Rattle.hu_proof.specs.Words.{words_left}
use Rattle.hu_proof.proofs.said.are_items.Given as goal

abbrev pub invariant-words : goal.invariant-words
invariant-words l = is_some (each plain_item (words_left l.left)) ≡ is_some (each plain_item (words l.text))

abbrev pub decreases-words : goal.decreases-words
decreases-words l = length (words_left l.left)
