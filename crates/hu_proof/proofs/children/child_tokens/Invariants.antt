use Rattle.std.proofs.Common.{◌≡◌, ◌++◌, true, drop, length}
use Rattle.std.specs.Option.{is_some}
use Rattle.hu_proof.specs.Check.{wrong_child}
use Rattle.hu_proof.specs.Text.{each, token_of, words}
use Rattle.hu_proof.specs.Words.{told, words_left}
use Rattle.hu_proof.proofs.children.child_tokens.Given as goal

abbrev pub invariant-words : goal.invariant-words
invariant-words l = record {
  form : is_some (each token_of (words_left l.left)) ≡ true;
  so_far : l.tokens.items ++ told (each token_of (words_left l.left)) ≡ told (each token_of (words l.text));
  fault : wrong_child (drop l.from l.order) (told (each token_of (words_left l.left))) ≡ wrong_child (drop l.fn.from l.order)
      (told (each token_of (words l.text)));
}

abbrev pub decreases-words : goal.decreases-words
decreases-words l = length (words_left l.left)
