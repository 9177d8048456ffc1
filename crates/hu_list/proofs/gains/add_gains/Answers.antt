use Rattle.std.proofs.Common.{◌≡◌, ◌<◌, ℕ, ℤ, pos, ◌+ℤ◌, unsigned_abs, cond, eqb, to_z, of_z, get_or, ap, ◌∙◌, arith}
use Rattle.std.specs.Int.{w128}
use Rattle.std.proofs.lemmas.Int.{ints}
use Rattle.hu_totals.specs.declared.ranked.Dense.{Dense}
use Rattle.hu_totals.specs.Cells.{among}
use Rattle.hu_totals.proofs.lemmas.DenseLemmas.{rank-at}
use Rattle.hu_search.specs.Slots.{at}
use Rattle.hu_list.specs.Tails.{share}
use Rattle.hu_list.specs.Passes.{gaining}
use Rattle.hu_list.specs.View.{tail_of}
use Rattle.hu_list.proofs.ShareLemmas.{share-within}
use Rattle.hu_list.proofs.PassLemmas.{has-here, has-later, apart-later, pass-next}
use Rattle.hu_list.proofs.gains.add_gains.Goals as goal

pub share-share-requires : goal.share-share-requires
share-share-requires c = omega (arith, c.requires.fits 0)

pub add_kept-requires-clause-within : goal.add_kept-requires-clause-within
add_kept-requires-clause-within c =
    let none : Dense = record { rank = 0; value = pos 0 } in
    let room = c.args.found.now.room in
    omega (
      arith,
      c.loop-cell.invariant.room,
      rank-at (λ rank. rank < room) c.args.tail.now.cells.now
          c.loop-cell.cell-index none c.requires.rules.in_range c.loop-cell-test.true,
    )

pub add_kept-requires-clause-fits : goal.add_kept-requires-clause-fits
add_kept-requires-clause-fits c =
    let none : Dense = record { rank = 0; value = pos 0 } in
    let cells = c.args.tail.now.cells.now in
    let i = c.loop-cell.cell-index in
    let tail = tail_of c.args.tail.now in
    let keep = c.args.kept.now.ranks in
    let room = c.loop-cell.invariant.fits (get_or cells i none).rank (has-here cells i none c.requires.rules.ascending c.loop-cell-test.true) in
    let shared : to_z w128 (of_z w128 c.share-share.result) ≡ share keep tail =
    omega (arith, ints, c.share-share.ensures, share-within keep tail, c.requires.fits 0) in
    omega (arith, room, ap unsigned_abs shared, share-within keep tail)

pub loop-cell-preserved : goal.loop-cell-preserved
loop-cell-preserved c =
    let none : Dense = record { rank = 0; value = pos 0 } in
    let cells = c.args.tail.now.cells.now in
    let i = c.loop-cell.cell-index in
    let tail = tail_of c.args.tail.now in
    let keep = c.args.kept.now.ranks in
    let up = c.requires.rules.ascending in
    let within = c.loop-cell-test.true in
    let shared : to_z w128 (of_z w128 c.share-share.result) ≡ share keep tail =
    omega (arith, ints, c.share-share.ensures, share-within keep tail, c.requires.fits 0) in
    let old : ℕ → ℤ = λ z. at (pos 0) c.loop-cell.found.ranks c.loop-cell.gains.items z in
    let new : ℕ → ℤ = λ z. at (pos 0) c.add_kept.new.found.ranks c.add_kept.new.gains.items z in
    let rank = (get_or cells i none).rank in
    let added : (z : ℕ) → new z ≡ cond (eqb z rank) (cond (among rank keep) (old z +ℤ share keep tail) (old z)) (old z) =
    λ z. c.in_ok-add_kept.ensures.gains z ∙ (λ j. cond (eqb z rank) (cond (among rank keep) (old z +ℤ shared j) (old z)) (old z)) in
    record {
      room = c.in_ok-add_kept.ensures.room ∙ c.loop-cell.invariant.room;
      len = c.in_ok-add_kept.ensures.len;
      fits = λ z h.
          let same : new z ≡ old z =
          added z ∙ ap (λ b. cond b (cond (among rank keep) (old z +ℤ share keep tail) (old z)) (old z))
          (apart-later cells i none up within z h) in
          let room = c.loop-cell.invariant.fits z (has-later cells i none up within z h) in
          omega (arith, ap unsigned_abs same, room);
      gains = λ z. pass-next cells i none up within (gaining keep tail) z (old z) (new z) (added z) ∙ c.loop-cell.invariant.gains z;
    }
