use Rattle.std.proofs.Common.{◌≡◌, length}
use Rattle.std.specs.List.{slice_split}
use Rattle.hu_kind.specs.Token.{is_space}
use Rattle.hu_proof.specs.Text.{each, plain_item}
use Rattle.hu_proof.specs.Words.{after_these, numbers_of, words_left}
use Rattle.hu_proof.proofs.order.items_of.Given as goal

abbrev pub invariant-words : goal.invariant-words
invariant-words l = after_these (numbers_of l.items.items) (each plain_item (words_left l.left)) ≡ each plain_item (slice_split is_space l.text)

abbrev pub decreases-words : goal.decreases-words
decreases-words l = length (words_left l.left)
