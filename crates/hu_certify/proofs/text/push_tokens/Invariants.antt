use Rattle.std.proofs.Common.{◌≡◌, ◌++◌, map, take}
use Rattle.hu_totals.specs.Weights.{numbers_of}
use Rattle.hu_certify.specs.Spots.{named, rank_pair}
use Rattle.hu_certify.specs.Text.{tokens_text}
use Rattle.hu_certify.proofs.text.push_tokens.Given as goal

abbrev pub invariant-loop-at : goal.invariant-loop-at
invariant-loop-at l = l.text.items ≡ l.fn.text.items ++ tokens_text l.least (named (numbers_of l.items) (map rank_pair (take l.at l.children)))
