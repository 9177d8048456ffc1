use Rattle.std.proofs.Common.{◌≡◌, ◌∙◌, ◌<◌, ◌≤◌, ◌+◌, ◌+ℤ◌, pos, ap, sym, map, take, length, get_or, to_z, of_z, arith, add-one, rules, FitsSigned, take_all}
use Rattle.std.specs.Int.{w128}
use Rattle.std.proofs.lemmas.Int.{ints, to_z-of_z}
use Rattle.std.proofs.lemmas.List.{get_or-map, length-map}
use Rattle.hu_kind.specs.Record.{gain, positive_part}
use Rattle.hu_kind.proofs.lemmas.Earned.{gain-more, gain-take}
use Rattle.hu_kind.proofs.value.gain_of.Given.{Over}
use Rattle.hu_kind.proofs.value.gain_of.Goals.{After-positive_part-sum}
use Rattle.hu_kind.proofs.value.gain_of.Goals as goal

-- the sum with the cell's value where that is above 0
next_at : (g : Over) (c : After-positive_part-sum g)
    → to_z w128 c.loop-cell.sum-bits +ℤ to_z w128 (of_z w128 c.positive_part-sum.result)
    ≡ gain (take (c.loop-cell.cell-index + 1) (map g.V.Valued.pair c.args.cells.now))
next_at g c =
    let cells = c.args.cells.now in
    let pair = g.V.Valued.pair in
    let i = c.loop-cell.cell-index in
    let fits : FitsSigned w128 c.value.result = search rules in
    let part = rw (to_z-of_z w128 c.value.result fits) at c.positive_part-sum.ensures.value in
    let whole : FitsSigned w128 c.positive_part-sum.result = search rules in
    let kept = to_z-of_z w128 c.positive_part-sum.result whole in
    let within : i < length (map pair cells) = omega (arith, c.loop-cell-test.true, length-map cells pair) in
    let cell : get_or (map pair cells) i (0, pos 0) ≡ pair c.cell-item.result =
    get_or-map pair cells i c.cell-item.result (0, pos 0) c.loop-cell-test.true ∙ ap pair (sym c.cell-item.is) in
    let here : positive_part c.value.result ≡ positive_part (get_or (map pair cells) i (0, pos 0)).1 =
    ap positive_part (c.value.ensures ∙ ap (λ p. p.1) (sym cell)) in
    let more = gain-more (map pair cells) i (0, pos 0) within in
    rw add-one (omega (arith, ints, c.loop-cell.invariant, c.loop-cell.sum-is, part, kept, here, more))

pub overflow_add-sum : goal.overflow_add-sum
overflow_add-sum g c = omega (arith, ints, next_at g c, gain-take (map g.V.Valued.pair c.args.cells.now) (c.loop-cell.cell-index + 1), c.requires)

pub loop-cell-preserved : goal.loop-cell-preserved
loop-cell-preserved g c = to_z-of_z w128 _ (overflow_add-sum g c) ∙ next_at g c

pub returns : goal.returns
returns g c =
    let pairs = map g.V.Valued.pair c.args.cells.now in
    let past : length pairs ≤ c.loop-cell.cell-index = omega (arith, c.loop-cell-test.false, length-map c.args.cells.now g.V.Valued.pair) in
    c.loop-cell.invariant ∙ ap gain (take_all c.loop-cell.cell-index pairs past)
