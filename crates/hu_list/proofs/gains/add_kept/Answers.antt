use Rattle.std.proofs.Common.{◌≡◌, ℕ, ℤ, List, true, pos, ◌+ℤ◌, to_z, of_z, cond, eqb, ap, ◌∙◌, arith}
use Rattle.std.specs.Int.{w128}
use Rattle.std.proofs.lemmas.Int.{ints}
use Rattle.std.proofs.lemmas.List.{get_or_read}
use Rattle.hu_totals.specs.Cells.{among}
use Rattle.hu_search.specs.Slots.{at}
use Rattle.hu_search.proofs.lemmas.Slots.{at-set, at-push, at-place, at-absent, changed_at}
use Rattle.hu_list.proofs.gains.add_kept.Goals as goal

-- a kept rank has a share more
changed_kept : (kept : List ℕ) (f : ℕ → ℤ) (share : ℤ) (rank : ℕ) (v : ℤ) → true ≡ among rank kept → v ≡ f rank +ℤ share → (z : ℕ)
    → cond (eqb z rank) v (f z) ≡ cond (eqb z rank) (cond (among rank kept) (f z +ℤ share) (f z)) (f z)
changed_kept kept f share rank v is worth z =
    changed_at f (λ sum. cond (among rank kept) (sum +ℤ share) sum) rank v
    (worth ∙ ap (λ b. cond b (f rank +ℤ share) (f rank)) is) z

pub overflow_add-index_mut : goal.overflow_add-index_mut
overflow_add-index_mut c =
    let ranks = c.args.found.now.ranks in
    let gains = c.args.gains.now.items in
    let place = c.in-Some.ensures in
    let low = place.within in
    let here = at-place (pos 0) ranks gains c.args.rank c.in-Some.slot place (omega (arith, low, c.requires.len)) in
    let read = get_or_read gains c.in-Some.slot c.index_mut.result.now (omega (arith, low, c.requires.len)) c.index_mut.ensures.value (pos 0) in
    omega (arith, ints, here, read, c.requires.fits)

pub returns-in-Some-clause-gains : goal.returns-in-Some-clause-gains
returns-in-Some-clause-gains c z =
    let ranks = c.args.found.now.ranks in
    let gains = c.args.gains.now.items in
    let place = c.in-Some.ensures in
    let low = place.within in
    let here = at-place (pos 0) ranks gains c.args.rank c.in-Some.slot place (omega (arith, low, c.requires.len)) in
    let read = get_or_read gains c.in-Some.slot c.index_mut.result.now (omega (arith, low, c.requires.len)) c.index_mut.ensures.value (pos 0) in
    let v = to_z w128 (of_z w128 (to_z w128 (of_z w128 c.index_mut.result.now) +ℤ to_z w128 (of_z w128 c.args.share))) in
    let worth : v ≡ at (pos 0) ranks gains c.args.rank +ℤ c.args.share = omega (arith, ints, here, read, c.requires.fits) in
    at-set (pos 0) ranks gains c.args.rank c.in-Some.slot v place (omega (arith, low, c.requires.len)) z
    ∙ changed_kept c.args.kept.now.ranks (at (pos 0) ranks gains) c.args.share c.args.rank v c.if-not-has.ensures worth z

pub returns-in_ok-push-in-None-2-clause-gains : goal.returns-in_ok-push-in-None-2-clause-gains
returns-in_ok-push-in-None-2-clause-gains c z =
    let ranks = c.args.found.now.ranks in
    let gains = c.args.gains.now.items in
    let fresh = c.in-None.ensures in
    let none = at-absent (pos 0) ranks gains c.args.rank fresh in
    let v = to_z w128 (of_z w128 c.args.share) in
    let worth : v ≡ at (pos 0) ranks gains c.args.rank +ℤ c.args.share = omega (arith, ints, none, c.requires.fits) in
    (λ j. at (pos 0) (c.in_ok-push-in-None.ensures.ranks j) (c.in_ok-push-in-None-2.ensures.items j) z)
    ∙ at-push (pos 0) ranks gains c.args.rank v c.requires.len fresh z
    ∙ changed_kept c.args.kept.now.ranks (at (pos 0) ranks gains) c.args.share c.args.rank v c.if-not-has.ensures worth z
