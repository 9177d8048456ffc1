use Rattle.std.proofs.Common.{◌≡◌, ◌≢◌, ◌<◌, true, false, cond, eqb, max, unsigned_abs, ◌+ℤ◌, to_z, of_z, length, get_or, set}
use Rattle.std.proofs.Common.{inl, inr, sym, ap, ◌∙◌, subst, arith}
use Rattle.std.specs.Int.{w128}
use Rattle.std.proofs.lemmas.Bool.{cases_eq, eq-eqb, ne_eqb}
use Rattle.std.proofs.lemmas.Int.{ints}
use Rattle.std.proofs.lemmas.List.{get_or-set_same, get_or-set_other, get_or_default}
use Rattle.hu_search.proofs.lemmas.Slots.{place-once}
use Rattle.hu_average.specs.Totals.{total_with, no_total, plus, total_at, Fits}
use Rattle.hu_average.proofs.TailLemmas.{plus-none}
use Rattle.hu_average.proofs.totals.add_cell.Goals as goal

pub with-requires : goal.with-requires
with-requires c =
    let totals = c.args.totals.now.items in
    let slot = c.in-Some.slot in
    let at = c.in-Some.ensures in
    let low = at.within in
    let fits = c.requires.fits slot at.within at.here in
    let here : total_at totals slot ≡ c.index.result.now =
    get_or_default totals slot no_total c.index.result.now (omega (arith, low, c.requires.len)) ∙ sym c.index.ensures in
    let u = fits.utility in
    let m = fits.bound in
    subst (λ t. Fits t (max (unsigned_abs (to_z w128 (of_z w128 (to_z w128 (of_z w128 c.args.tail.now.own)
    +ℤ to_z w128 (of_z w128 c.args.cell.now.value))))) (unsigned_abs (to_z w128 (of_z w128 c.args.tail.now.most))))) here
    (record { utility = omega (arith, ints, u); support = fits.support; bound = omega (arith, ints, m) })

pub returns-in-Some-clause-totals : goal.returns-in-Some-clause-totals
returns-in-Some-clause-totals c i within =
    let ranks = c.args.slots.now.ranks in
    let rank = c.args.cell.now.rank in
    let totals = c.args.totals.now.items in
    let slot = c.in-Some.slot in
    let at = c.in-Some.ensures in
    let low = at.within in
    let inside : slot < length totals = omega (arith, low, c.requires.len) in
    let fits = c.requires.fits slot at.within at.here in
    let u = fits.utility in
    let m = fits.bound in
    let here : c.index.result.now ≡ total_at totals slot =
    c.index.ensures ∙ get_or_default totals slot c.index.result.now no_total inside in
    let own : to_z w128 (of_z w128 (to_z w128 (of_z w128 c.args.tail.now.own) +ℤ to_z w128 (of_z w128 c.args.cell.now.value)))
    ≡ c.args.tail.now.own +ℤ c.args.cell.now.value = omega (arith, ints, u) in
    let most : to_z w128 (of_z w128 c.args.tail.now.most) ≡ c.args.tail.now.most = omega (arith, ints, m) in
    let worth : c.with.result ≡ plus (total_at totals slot) (total_with (c.args.tail.now.own +ℤ c.args.cell.now.value) 1 c.args.tail.now.most) =
    c.with.ensures ∙ (λ j. plus (here j) (total_with (own j) 1 (most j))) in
    let more = total_with (c.args.tail.now.own +ℤ c.args.cell.now.value) 1 c.args.tail.now.most in
    elim (cases_eq i slot) [
      | inl e ↦
          let same : eqb (get_or ranks i 0) rank ≡ true = eq-eqb (get_or ranks i 0) rank (ap (λ k. get_or ranks k 0) e ∙ at.here) in
          ap (λ k. get_or (set totals slot c.with.result) k no_total) e
          ∙ get_or-set_same totals slot c.with.result no_total inside ∙ worth
          ∙ ap (λ k. plus (total_at totals k) more) (sym e)
          ∙ ap (λ b. plus (total_at totals i) (cond b more no_total)) (sym same)
      | inr ne ↦
          let apart : eqb (get_or ranks i 0) rank ≡ false =
          ne_eqb (get_or ranks i 0) rank (λ e. ne (place-once ranks rank slot i c.requires.once at within e)) in
          let other : i ≢ slot = ne in
          get_or-set_other totals slot i c.with.result no_total other ∙ sym (plus-none (total_at totals i))
          ∙ ap (λ b. plus (total_at totals i) (cond b more no_total)) (sym apart)
    ]
