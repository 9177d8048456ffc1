use Rattle.hu_proof.proofs.SplitLemmas.{said-many}
use Rattle.hu_proof.proofs.said.parts_of.Goals as goal

pub returns-in-Some-clause-none : goal.returns-in-Some-clause-none
returns-in-Some-clause-none c =
    said-many c.args.text.now c.in_ok-prefix.prefix.now c.in_ok-prefix.rest.now c.in_ok-utility.utility.now c.in_ok-utility.tokens.now
    c.in-Some.field-0.0.now c.in-Some.field-0.1.now
    c.in_ok-prefix.ensures.found c.in_ok-utility.ensures.found c.in-Some.ensures.found
