use Rattle.std.proofs.Common.{◌≡◌, map, take}
use Rattle.hu_proof.specs.Judged.{token_items}
use Rattle.hu_proof.proofs.children.items_of.Given as goal

abbrev pub invariant-loop-token : goal.invariant-loop-token
invariant-loop-token l = map (λ item. item.0) l.items.items ≡ token_items (take l.token-index l.tokens)
