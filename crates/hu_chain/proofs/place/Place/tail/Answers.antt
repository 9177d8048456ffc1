use Rattle.std.proofs.Common.{◌≡◌, ◌∙◌, ◌+◌, refl, ap, suc, drop, arith, length}
use Rattle.std.proofs.lemmas.Int.{ints}
use Rattle.std.proofs.lemmas.List.{length-map}
use Rattle.hu_kind.specs.Cell.{pairs_of, pair_of}
use Rattle.hu_chain.proofs.Tails.{place-within, IsTail-after}
use Rattle.hu_chain.proofs.place.Place.tail.Goals as goal

pub cells_at-cells-requires-clause-within : goal.cells_at-cells-requires-clause-within
cells_at-cells-requires-clause-within c = (place-within c.args.elements.now c.requires.place.0 c.args.self.now c.requires.place.1).0

pub overflow_add-first : goal.overflow_add-first
overflow_add-first c =
    let within = (place-within c.args.elements.now c.requires.place.0 c.args.self.now c.requires.place.1).1 in
    let few = c.cells_at-cells.ensures.few in
    omega arith

pub cells_from-requires : goal.cells_from-requires
cells_from-requires c =
    let within = (place-within c.args.elements.now c.requires.place.0 c.args.self.now c.requires.place.1).1 in
    let size = ap length c.cells_at-cells.ensures.value in
    let same = length-map c.cells_at-cells.result.now pair_of in
    omega arith

pub returns-clause-value : goal.returns-clause-value
returns-clause-value c =
    let fit = c.requires.fit in
    let best = fit.best in
    let rest = fit.rest in
    let reach = fit.reach in
    let next : c.args.self.now.cell + 1 ≡ suc c.args.self.now.cell = omega arith in
    record {
      element = refl;
      first = next;
      cells = c.cells_from.ensures ∙ ap (λ k. drop k (pairs_of c.cells_at-cells.result.now)) next
          ∙ ap (drop (suc c.args.self.now.cell)) c.cells_at-cells.ensures.value;
      best = omega (arith, ints);
      ahead = omega (arith, ints);
    }

pub returns-clause-rules : goal.returns-clause-rules
returns-clause-rules c =
    let fit = c.requires.fit in
    let best = fit.best in
    let rest = fit.rest in
    let reach = fit.reach in
    let next : c.args.self.now.cell + 1 ≡ suc c.args.self.now.cell = omega arith in
    IsTail-after c.args.elements.now c.requires.place.0 c.args.self.now _ c.requires.sequence fit c.requires.place.1 c.cells_at-cells.ensures.plain
    (record {
      element = refl;
      first = next;
      cells = c.cells_from.ensures ∙ ap (λ k. drop k (pairs_of c.cells_at-cells.result.now)) next
          ∙ ap (drop (suc c.args.self.now.cell)) c.cells_at-cells.ensures.value;
      best = omega (arith, ints);
      ahead = omega (arith, ints);
    })
