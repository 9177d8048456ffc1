use Rattle.std.proofs.Common.{◌≡◌, length}
use Rattle.std.specs.Option.{is_some}
use Rattle.hu_proof.specs.Text.{each, token_of, words}
use Rattle.hu_proof.specs.Words.{words_left}
use Rattle.hu_proof.proofs.said.are_tokens.Given as goal

abbrev pub invariant-words : goal.invariant-words
invariant-words l = is_some (each token_of (words_left l.left)) ≡ is_some (each token_of (words l.text))

abbrev pub decreases-words : goal.decreases-words
decreases-words l = length (words_left l.left)
