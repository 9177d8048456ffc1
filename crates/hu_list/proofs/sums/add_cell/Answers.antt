use Rattle.std.proofs.Common.{◌≡◌, ◌+ℤ◌, ◌+◌, ◌<◌, true, cond, pos, unsigned_abs, to_z, of_z, get_or, length, sym, ap, ◌∙◌, subst, arith}
use Rattle.std.specs.Int.{w128}
use Rattle.std.proofs.lemmas.Int.{ints}
use Rattle.std.proofs.lemmas.List.{get_or_read}
use Rattle.hu_kind.specs.Record.{positive_part}
use Rattle.hu_list.specs.declared.sums.Sum.{Sum}
use Rattle.hu_search.specs.Slots.{at}
use Rattle.hu_list.specs.Passes.{no_sum, sum_with, SumsFit}
use Rattle.hu_search.proofs.lemmas.Slots.{at-set, at-place, place-among, changed_at}
use Rattle.hu_list.proofs.PassLemmas.{fits-less}
use Rattle.hu_list.proofs.sums.add_cell.Goals as goal
use Rattle.hu_totals.specs.Cells.{among}

pub with-requires : goal.with-requires
with-requires c =
    let ranks = c.args.slots.now.ranks in
    let sums = c.args.sums.now.items in
    let place = c.in-Some.ensures in
    let low = place.within in
    let within : c.in-Some.slot < length sums = omega (arith, low, c.requires.len) in
    let here = at-place no_sum ranks sums c.args.cell.now.rank c.in-Some.slot place within in
    let read : c.index.result.now ≡ get_or sums c.in-Some.slot no_sum = get_or_read sums c.in-Some.slot c.index.result.now within c.index.ensures no_sum in
    let own : to_z w128 (of_z w128 (to_z w128 (of_z w128 c.args.own) +ℤ to_z w128 (of_z w128 c.args.cell.now.value))) ≡ c.args.own +ℤ c.args.cell.now.value =
    omega (arith, ints, c.requires.fits.utility) in
    let rest : to_z w128 (of_z w128 c.args.rest) ≡ c.args.rest = omega (arith, ints, c.requires.fits.utility) in
    fits-less c.index.result.now (unsigned_abs c.args.own + unsigned_abs c.args.cell.now.value + unsigned_abs c.args.rest) _
    (omega (arith, ints, ap unsigned_abs own, ap unsigned_abs rest))
    (subst (λ sum. SumsFit sum (unsigned_abs c.args.own + unsigned_abs c.args.cell.now.value + unsigned_abs c.args.rest)) (here ∙ sym read) c.requires.fits)

pub returns-in-Some-clause-sums : goal.returns-in-Some-clause-sums
returns-in-Some-clause-sums c z =
    let ranks = c.args.slots.now.ranks in
    let sums = c.args.sums.now.items in
    let rank = c.args.cell.now.rank in
    let place = c.in-Some.ensures in
    let low = place.within in
    let within : c.in-Some.slot < length sums = omega (arith, low, c.requires.len) in
    let here = at-place no_sum ranks sums rank c.in-Some.slot place within in
    let read : c.index.result.now ≡ get_or sums c.in-Some.slot no_sum = get_or_read sums c.in-Some.slot c.index.result.now within c.index.ensures no_sum in
    let own : to_z w128 (of_z w128 (to_z w128 (of_z w128 c.args.own) +ℤ to_z w128 (of_z w128 c.args.cell.now.value))) ≡ c.args.own +ℤ c.args.cell.now.value =
    omega (arith, ints, c.requires.fits.utility) in
    let rest : to_z w128 (of_z w128 c.args.rest) ≡ c.args.rest = omega (arith, ints, c.requires.fits.utility) in
    let change : Sum → Sum = λ sum. cond (among rank ranks) (sum_with sum (c.args.own +ℤ c.args.cell.now.value) c.args.rest) sum in
    let kept : among rank ranks ≡ true = place-among ranks rank c.in-Some.slot place in
    let made : c.with.result ≡ sum_with (at no_sum ranks sums rank) (c.args.own +ℤ c.args.cell.now.value) c.args.rest =
    c.with.ensures ∙ (λ j. sum_with ((read ∙ sym here) j) (own j) (rest j)) in
    let worth : c.with.result ≡ change (at no_sum ranks sums rank) =
    made ∙ sym (ap (λ b. cond b (sum_with (at no_sum ranks sums rank) (c.args.own +ℤ c.args.cell.now.value) c.args.rest) (at no_sum ranks sums rank)) kept) in
    at-set no_sum ranks sums rank c.in-Some.slot c.with.result place within z ∙ changed_at (at no_sum ranks sums) change rank c.with.result worth z

pub returns-in-Some-clause-part : goal.returns-in-Some-clause-part
returns-in-Some-clause-part c =
    let value = c.args.cell.now.value in
    let same : to_z w128 (of_z w128 value) ≡ value = omega (arith, ints, c.requires.fits.utility) in
    let out : to_z w128 (of_z w128 c.positive_part.result) ≡ c.positive_part.result = omega (arith, ints, c.positive_part.type_inv) in
    let kept : among c.args.cell.now.rank c.args.slots.now.ranks ≡ true =
    place-among c.args.slots.now.ranks c.args.cell.now.rank c.in-Some.slot c.in-Some.ensures in
    out ∙ c.positive_part.ensures.value ∙ ap positive_part same ∙ sym (ap (λ b. cond b (positive_part value) (pos 0)) kept)
