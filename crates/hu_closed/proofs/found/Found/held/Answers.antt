use Rattle.std.proofs.Common.{◌<◌, length, sym, subst, arith}
use Rattle.hu_totals.specs.Weights.{numbers_of}
use Rattle.hu_closed.specs.Found.{IsHeld}
use Rattle.hu_closed.proofs.Rest.{IsHeld-from}
use Rattle.hu_closed.proofs.found.Found.held.Goals as goal

pub returns-then-are_among-clause-some : goal.returns-then-are_among-clause-some
returns-then-are_among-clause-some c =
    let found = c.args.self.now in
    let items = numbers_of c.items_at-items.result.now in
    let within : c.loop-index.index < length found = omega (arith, c.loop-index-test.true, c.len-index-end.ensures) in
    subst (λ rest. IsHeld found c.args.key.now rest items) (sym c.from-rest.ensures)
    (IsHeld-from found c.args.key.now c.loop-index.index items within c.items_at-items.ensures.value
    c.items_at-items.ensures.ascending (sym c.if-are_among.ensures) c.loop-index.invariant)
