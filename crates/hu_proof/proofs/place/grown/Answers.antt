use Rattle.std.proofs.Common.{arith}
use Rattle.std.proofs.lemmas.Int.{ints}
use Rattle.hu_kind.specs.Cell.{pairs_of}
use Rattle.hu_proof.specs.Places.{place_of}
use Rattle.hu_proof.proofs.PlaceLemmas.{value_in-some, narrowed-one}
use Rattle.hu_proof.proofs.place.grown.Goals as goal

pub overflow_add-result : goal.overflow_add-result
overflow_add-result c =
    let h = value_in-some c.args.item.0 (pairs_of c.args.place.now.cells.now) c.in_ok-value.value c.in_ok-value.ensures in
    omega (arith, ints, h.1, c.requires.room)

pub returns : goal.returns
returns c =
    let h = value_in-some c.args.item.0 (pairs_of c.args.place.now.cells.now) c.in_ok-value.value c.in_ok-value.ensures in
    narrowed-one c.args.item.0 (place_of c.args.place.now) c.in_ok-value.value _ c.in_ok-value.ensures (omega (arith, ints, h.1, c.requires.room))
