use Rattle.std.proofs.Common.{rules, ◌≡◌, ◌<ℤ◌, [], ◌∷◌, ap, subst, arith, SFits}
use Rattle.std.specs.Int.{w128}
use Rattle.std.proofs.lemmas.Int.{ints, to_z-of_z}
use Rattle.hu_collect.specs.State.{floor_in, offered}
use Rattle.hu_collect.proofs.lemmas.Searching.{offered-low}
use Rattle.hu_kept.specs.Touched.{batch_in, inner_of, touched_state}
use Rattle.hu_kept.proofs.touched.Touched.lets_in.Goals as goal

pub returns-else-entry-floor-clause-leaves : goal.returns-else-entry-floor-clause-leaves
returns-else-entry-floor-clause-leaves g c out =
    let inner = g.C.Collect.state c.self.inside.inner in
    let batch = c.self.inside.batch.now in
    let entry = c.args.entry.now in
    let fits_floor : SFits w128 c.floor.result = search rules in
    let fits : SFits w128 entry.utility = search rules in
    let above : c.args.entry.now.utility <ℤ c.floor.result =
    let floor = to_z-of_z w128 c.floor.result fits_floor in let utility = to_z-of_z w128 entry.utility fits in grind (arith, ints) in
    let low : entry.utility <ℤ floor_in inner = omega (arith, ints, above, c.floor.ensures.value) in
    let leaves = offered-low (touched_state inner batch) entry (ap (λ s. touched_state s batch) c.floor.ensures.in_order) low in
    subst (λ v. let s = touched_state (g.C.Collect.state (inner_of v)) (batch_in v) in offered s (entry ∷ []) ≡ s) c.self.view_is leaves
