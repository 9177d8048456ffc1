use Rattle.std.proofs.Common.{◌<ℤ◌, sym, ap, arith}
use Rattle.std.proofs.lemmas.Int.{ints}
use Rattle.hu_collect.specs.Limited.{all_state}
use Rattle.hu_collect.specs.State.{floor_in}
use Rattle.hu_collect.proofs.lemmas.Searching.{offered-low}
use Rattle.hu_proof.specs.Places.{earned, places_of}
use Rattle.hu_proof.specs.Waiting.{entry_at}
use Rattle.hu_proof.specs.Words.{numbers_of}
use Rattle.hu_proof.proofs.walk.offer.Goals as goal

pub returns-then-utility-floor : goal.returns-then-utility-floor
returns-then-utility-floor c =
    let state = all_state c.args.found.now in
    let entry = entry_at (numbers_of c.args.path.now) (places_of c.args.node.now.places.items) in
    let low : entry.utility <ℤ floor_in state =
    omega (arith, ints, c.earned-utility.ensures, ap (λ ps. earned (places_of ps)) c.deref.ensures.value, c.floor.ensures.value, c.if-utility-floor.true) in
    sym (offered-low state entry c.floor.ensures.in_order low)
