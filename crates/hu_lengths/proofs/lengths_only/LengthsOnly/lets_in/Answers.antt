use Rattle.std.proofs.Common.{rules, ◌<ℤ◌, subst, arith, SFits}
use Rattle.std.specs.Int.{w128}
use Rattle.std.proofs.lemmas.Int.{ints, to_z-of_z}
use Rattle.hu_collect.specs.State.{floor_in}
use Rattle.hu_lengths.specs.LengthsOnly.{sized_state, inner_of, short_of, long_of, Leaves}
use Rattle.hu_lengths.proofs.lemmas.SizedLemmas.{leaves-below}
use Rattle.hu_lengths.proofs.lengths_only.LengthsOnly.lets_in.Goals as goal

pub returns-else-entry-floor-clause-leaves : goal.returns-else-entry-floor-clause-leaves
returns-else-entry-floor-clause-leaves g c out =
    let inner = g.C.Collect.state c.self.inside.inner in
    let entry = c.args.entry.now in
    let fits_floor : SFits w128 c.floor.result = search rules in
    let fits : SFits w128 entry.utility = search rules in
    let above : c.args.entry.now.utility <ℤ c.floor.result =
    let floor = to_z-of_z w128 c.floor.result fits_floor in let utility = to_z-of_z w128 entry.utility fits in grind (arith, ints) in
    let low : entry.utility <ℤ floor_in inner = omega (arith, ints, above, c.floor.ensures.value) in
    let leaves = leaves-below c.self.inside.short c.self.inside.long inner entry c.floor.ensures.in_order low in
    subst (λ v. Leaves (sized_state (short_of v) (long_of v) (g.C.Collect.state (inner_of v))) entry) c.self.view_is leaves
