use Rattle.std.proofs.Common.{◌≡◌, ◌&&◌, ◌||◌, true, Bool, List, drop}
use Rattle.hu_seq.specs.declared.token.Token.{Token}
use Rattle.hu_seq.specs.Token.{is_itemset_end}
use Rattle.hu_seq.specs.Reading.{first_is, has_two_ends}
use Rattle.hu_seq.proofs.order.has_empty_itemset.Given as goal

-- whether an itemset among the tokens is empty, where one begins before them, or doesn't
abbrev pub has_empty : Bool → List Token → Bool
has_empty begins told = (begins && first_is is_itemset_end told) || has_two_ends told

abbrev pub invariant-loop-token : goal.invariant-loop-token
invariant-loop-token l = has_empty true l.tokens ≡ has_empty l.begins (drop l.token-index l.tokens)
