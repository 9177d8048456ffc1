use Rattle.std.proofs.Common.{sym}
use Rattle.hu_proof.proofs.SplitLemmas.{token-many}
use Rattle.hu_proof.proofs.token.with_bound.Goals as goal

pub returns-in-Some : goal.returns-in-Some
returns-in-Some c = sym (token-many c.args.item.now c.args.bound.now c.in-Some.field-0.0.now c.in-Some.field-0.1.now c.in-Some.ensures.found)
