use Rattle.std.proofs.Common.{◌≡◌, ◌+ℤ◌, ◌<◌, pos, length, to_z, of_z, sym, ap, ◌∙◌, subst, arith, rules}
use Rattle.std.specs.Int.{w128}
use Rattle.std.specs.List.{AllByRecursion}
use Rattle.std.proofs.lemmas.Int.{ints}
use Rattle.std.proofs.lemmas.List.Sorted.{IsNonDecreasingBy-from_sort_by_key}
use Rattle.hu_kind.specs.Cell.{pairs_of}
use Rattle.hu_proof.specs.Places.{place_of}
use Rattle.hu_proof.specs.Slots.{bound_at, gained}
use Rattle.hu_proof.proofs.SlotLemmas.{AreValues, are-values, each-value, size-values, gained-share, share-within}
use Rattle.hu_proof.proofs.slots.add_place.Goals.{After-deref}
use Rattle.hu_proof.proofs.slots.add_place.Goals as goal

-- what is read is the values of the place's cells in the order of their slots
values_at : (c : After-deref) → AreValues c.args.named.now (pairs_of c.args.place.now.cells.now) c.deref.result.now
values_at c = are-values _ _ c.fill.new.values.items c.sort_unstable_by_key.new.self.items c.deref.result.now c.in_ok-fill.ensures
    c.sort_unstable_by_key.ensures.permutation
    (IsNonDecreasingBy-from_sort_by_key (λ v. v.slot) _ c.sort_unstable_by_key.ensures.sorted (λ a r q k. search rules)) c.deref.ensures.value

pub add_values-requires-clause-slots : goal.add_values-requires-clause-slots
add_values-requires-clause-slots c =
    let are = values_at (goal.at.add_values-requires-clause-slots c).After-deref in
    subst (λ n. AllByRecursion (λ v. v.slot < n) c.deref.result.now) (sym c.requires.len) (each-value _ _ c.deref.result.now are)

pub add_values-requires-clause-sizes : goal.add_values-requires-clause-sizes
add_values-requires-clause-sizes c =
    let are = values_at (goal.at.add_values-requires-clause-sizes c).After-deref in
    let size = size-values _ _ c.deref.result.now c.requires.apart are in
    omega (arith, ints, size, c.requires.roomy, c.requires.small)

pub add_values-requires-clause-fits : goal.add_values-requires-clause-fits
add_values-requires-clause-fits c slot low =
    let named = c.args.named.now in
    let are = values_at (goal.at.add_values-requires-clause-fits c).After-deref in
    let place = place_of c.args.place.now in
    let inside : slot < length named = omega (arith, low, c.requires.len) in
    let back : to_z w128 (of_z w128 place.1) ≡ place.1 = omega (arith, ints, c.requires.roomy, c.requires.small) in
    let share = gained-share named place c.deref.result.now slot c.requires.apart c.requires.ascending are inside in
    let within = share-within named place slot c.requires.apart c.requires.roomy inside in
    omega (arith, ints, ap (λ own. gained own slot c.deref.result.now) back, share, within, c.requires.fits slot inside)

pub returns-clause-value : goal.returns-clause-value
returns-clause-value c slot low =
    let named = c.args.named.now in
    let are = values_at (goal.at.returns-clause-value c).After-deref in
    let place = place_of c.args.place.now in
    let back : to_z w128 (of_z w128 place.1) ≡ place.1 = omega (arith, ints, c.requires.roomy, c.requires.small) in
    let share = gained-share named place c.deref.result.now slot c.requires.apart c.requires.ascending are low in
    c.add_values.ensures.value slot (omega (arith, low, c.requires.len))
    ∙ ap (λ s. bound_at c.args.bounds.now.items slot +ℤ s) (ap (λ own. pos (gained own slot c.deref.result.now)) back ∙ share)
