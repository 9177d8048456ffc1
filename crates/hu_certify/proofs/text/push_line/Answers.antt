use Rattle.std.specs.Int.{w128}
use Rattle.std.proofs.lemmas.Int.{to_z-of_z}
use Rattle.hu_certify.proofs.TextLemmas.{line-built}
use Rattle.hu_certify.proofs.text.push_line.Goals as goal

pub returns : goal.returns
returns c =
    let shown = rw c.without_first.ensures at c.in_ok-extend_from_slice.ensures.items in
    let number = rw (to_z-of_z w128 c.args.utility c.ranges.utility) at c.in_ok-push_number.ensures in
    let tokens = rw (to_z-of_z w128 c.args.least c.ranges.least) at c.in_ok-push_tokens.ensures in
    line-built c.args.text.now.items _ _ _ _ _ _ _ _ _ shown c.in_ok-push.ensures.items number c.in_ok-push-2.ensures.items tokens c.in_ok-push-3.ensures.items
