use Rattle.std.proofs.Common.{◌≡◌, ℕ, pos, ◌+ℤ◌, ◌+◌, ◌-◌, ◌<◌, unsigned_abs, cond, eqb, to_z, of_z, get_or, length, drop, sym, ap, ◌∙◌, subst, arith}
use Rattle.std.specs.Int.{w128}
use Rattle.std.proofs.lemmas.Int.{ints}
use Rattle.hu_totals.specs.declared.ranked.Dense.{Dense}
use Rattle.hu_totals.specs.Cells.{among, kept_gain}
use Rattle.hu_totals.specs.View.{cells_of}
use Rattle.hu_totals.proofs.lemmas.GainLemmas.{kept_gain-rest, place-within, rest-within}
use Rattle.hu_list.specs.declared.sums.Sum.{Sum}
use Rattle.hu_search.specs.Slots.{at}
use Rattle.hu_list.specs.Tails.{size_of}
use Rattle.hu_list.specs.Passes.{met, summing, no_sum, sum_with, SumsFit}
use Rattle.hu_list.specs.View.{tail_of}
use Rattle.hu_list.proofs.PassLemmas.{rank-below, met-below, pass-back, fits-less}
use Rattle.hu_list.proofs.sums.add_sums.Goals as goal

pub add_cell-rest-requires-clause-fits : goal.add_cell-rest-requires-clause-fits
add_cell-rest-requires-clause-fits c =
    let none : Dense = record { rank = 0; value = pos 0 } in
    let cells = c.args.tail.now.cells.now in
    let keep = c.args.slots.now.ranks in
    let tail = tail_of c.args.tail.now in
    let i = length cells - 1 - c.loop-back.back in
    let next : length cells - c.loop-back.back ≡ i + 1 = omega (arith, c.loop-back-test.true) in
    let within : i < length cells = omega (arith, c.loop-back-test.true) in
    let cell = get_or cells i none in
    let rest : to_z w128 c.loop-back.rest-bits ≡ kept_gain keep (cells_of (drop (i + 1) cells)) =
    c.loop-back.invariant.rest ∙ ap (λ n. kept_gain keep (cells_of (drop n cells))) next in
    let same : at no_sum keep c.loop-back.sums.items cell.rank ≡ at no_sum keep c.args.sums.now.items cell.rank =
    c.loop-back.invariant.sums cell.rank
    ∙ ap (λ n. met (summing keep tail) cell.rank (cells_of (drop n cells)) (at no_sum keep c.args.sums.now.items cell.rank)) next
    ∙ met-below (summing keep tail) cell.rank (cells_of (drop (i + 1) cells))
    (at no_sum keep c.args.sums.now.items cell.rank) (rank-below cells i none c.requires.rules.ascending within) in
    subst (λ sum. SumsFit sum
    (unsigned_abs (to_z w128 (of_z w128 c.args.tail.now.own)) + unsigned_abs cell.value + unsigned_abs
    (to_z w128 c.loop-back.rest-bits))) (sym same)
    (fits-less (at no_sum keep c.args.sums.now.items cell.rank) (size_of tail) _
    (let fits = c.requires.fits cell.rank in omega (arith, ints, ap unsigned_abs rest, place-within keep cells i none within, fits.utility))
    (c.requires.fits cell.rank))

pub overflow_add-rest : goal.overflow_add-rest
overflow_add-rest c =
    let none : Dense = record { rank = 0; value = pos 0 } in
    let cells = c.args.tail.now.cells.now in
    let keep = c.args.slots.now.ranks in
    let i = length cells - 1 - c.loop-back.back in
    let next : length cells - c.loop-back.back ≡ i + 1 = omega (arith, c.loop-back-test.true) in
    let within : i < length cells = omega (arith, c.loop-back-test.true) in
    let rest : to_z w128 c.loop-back.rest-bits ≡ kept_gain keep (cells_of (drop (i + 1) cells)) =
    c.loop-back.invariant.rest ∙ ap (λ n. kept_gain keep (cells_of (drop n cells))) next in
    let fits = c.requires.fits 0 in
    omega (arith, ints, rest, c.add_cell-rest.ensures.part, kept_gain-rest keep cells i none within, rest-within keep cells i, fits.utility)

pub loop-back-preserved : goal.loop-back-preserved
loop-back-preserved c =
    let none : Dense = record { rank = 0; value = pos 0 } in
    let cells = c.args.tail.now.cells.now in
    let keep = c.args.slots.now.ranks in
    let tail = tail_of c.args.tail.now in
    let i = length cells - 1 - c.loop-back.back in
    let next : length cells - c.loop-back.back ≡ i + 1 = omega (arith, c.loop-back-test.true) in
    let here : length cells - (c.loop-back.back + 1) ≡ i = omega (arith, c.loop-back-test.true) in
    let within : i < length cells = omega (arith, c.loop-back-test.true) in
    let cell = get_or cells i none in
    let fits = c.requires.fits 0 in
    let rest : to_z w128 c.loop-back.rest-bits ≡ kept_gain keep (cells_of (drop (i + 1) cells)) =
    c.loop-back.invariant.rest ∙ ap (λ n. kept_gain keep (cells_of (drop n cells))) next in
    let more : to_z w128 (of_z w128 (to_z w128 c.loop-back.rest-bits +ℤ to_z w128 (of_z w128 c.add_cell-rest.result)))
    ≡ kept_gain keep (cells_of (drop i cells)) =
    omega (arith, ints, rest, c.add_cell-rest.ensures.part, kept_gain-rest keep cells i none within, rest-within keep cells i, fits.utility) in
    let own : to_z w128 (of_z w128 c.args.tail.now.own) ≡ tail.own = omega (arith, ints, fits.utility) in
    let first : ℕ → Sum = λ z. at no_sum keep c.args.sums.now.items z in
    let old : ℕ → Sum = λ z. at no_sum keep c.loop-back.sums.items z in
    let new : ℕ → Sum = λ z. at no_sum keep c.add_cell-rest.new.sums.items z in
    let before : (z : ℕ) → old z ≡ met (summing keep tail) z (cells_of (drop (i + 1) cells)) (first z) =
    λ z. c.loop-back.invariant.sums z ∙ ap (λ n. met (summing keep tail) z (cells_of (drop n cells)) (first z)) next in
    let added : (z : ℕ) → new z
    ≡ cond (eqb z cell.rank) (cond (among cell.rank keep)
    (sum_with (old z) (tail.own +ℤ cell.value) (kept_gain keep (cells_of (drop (i + 1) cells)))) (old z)) (old z) =
    λ z. c.add_cell-rest.ensures.sums z
    ∙ (λ j. cond (eqb z cell.rank) (cond (among cell.rank keep) (sum_with (old z) (own j +ℤ cell.value) (rest j))
    (old z)) (old z)) in
    record {
      len = c.add_cell-rest.ensures.len;
      rest = more ∙ sym (ap (λ n. kept_gain keep (cells_of (drop n cells))) here);
      sums = λ z. pass-back cells i none c.requires.rules.ascending within (summing keep tail) z (first z) (old z) (new z) (before z) (added z)
          ∙ sym (ap (λ n. met (summing keep tail) z (cells_of (drop n cells)) (first z)) here);
    }
