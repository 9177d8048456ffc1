use Rattle.std.proofs.Common.{◌≡◌, ◌∙◌, ◌+◌, ◌+ℤ◌, ◌<◌, to_z, of_z, arith}
use Rattle.std.specs.Int.{int_max, w128}
use Rattle.std.proofs.lemmas.Int.{ints, clamps, to_z-of_z}
use Rattle.hu_chain.specs.Bound.{reach}
use Rattle.hu_span.proofs.NumberLemmas.{kept-z}
use Rattle.hu_span.proofs.TallyLemmas.{told-next, told-same, IsKept-fits}
use Rattle.hu_span.proofs.tally.Tally.add.Goals as goal
use Rattle.hu_span.proofs.tally.Tally.add.Goals.{else-self-gt0-via-then-self-gt0+else-self-mark, else-self-gt0-via-else-self-gt0}

pub returns-then-self-mark : goal.returns-then-self-mark
returns-then-self-mark c =
    let t = c.args.self.now in
    let place = c.args.mark.now.place in
    let kept = IsKept-fits t c.requires.tally c.requires.fits in
    let low = c.requires.fit.best in
    let more = c.requires.fit.rest in
    let high = c.requires.fit.reach in
    let zb = kept.best in
    let zr = kept.reach in
    let best = kept-z place.best (omega (arith, ints)) (omega (arith, ints)) in
    let rest = kept-z place.rest (omega (arith, ints)) (omega (arith, ints)) in
    let sum = to_z w128 (of_z w128 place.best) +ℤ to_z w128 (of_z w128 place.rest) in
    let reach' = kept-z sum (omega (arith, ints, best, rest)) (omega (arith, ints, best, rest)) in
    let b : c.max-self.result ≡ int_max t.best place.best = omega (arith, ints, clamps, c.max-self.ensures.value, zb, best) in
    let r : c.max-self-then-self-mark.result ≡ int_max t.reach (reach place) = omega
    (arith, ints, clamps, c.max-self-then-self-mark.ensures.value, zr, best, rest, reach') in
    let b' : to_z w128 (of_z w128 c.max-self.result) ≡ int_max t.best place.best = to_z-of_z w128 c.max-self.result
    (omega (arith, ints, c.max-self.type_inv)) ∙ b in
    let r' : to_z w128 (of_z w128 c.max-self-then-self-mark.result) ≡ int_max t.reach (reach place) = to_z-of_z w128 c.max-self-then-self-mark.result
    (omega (arith, ints, c.max-self-then-self-mark.type_inv)) ∙ r in
    (λ j. record { row = t.row; rows = t.rows; best = b' j; bests = t.bests; reach = r' j; reaches = t.reaches })
    ∙ told-same t c.args.mark.now c.if-self-gt0.true c.if-self-mark.true

pub returns : goal.returns
returns c =
    let t = c.args.self.now in
    let mark = c.args.mark.now in
    let place = mark.place in
    let is = c.requires.tally in
    let kept = IsKept-fits t is c.requires.fits in
    let low = c.requires.fit.best in
    let more = c.requires.fit.rest in
    let high = c.requires.fit.reach in
    let own = is.best in
    let owns = is.bests in
    let far = is.reach in
    let fars = is.reaches in
    let most = c.requires.fits in
    let zb = kept.best in
    let zbs = kept.bests in
    let zr = kept.reach in
    let zrs = kept.reaches in
    let best = kept-z place.best (omega (arith, ints)) (omega (arith, ints)) in
    let rest = kept-z place.rest (omega (arith, ints)) (omega (arith, ints)) in
    let r = kept-z (to_z w128 (of_z w128 place.best) +ℤ to_z w128 (of_z w128 place.rest)) (omega (arith, ints, best, rest)) (omega
    (arith, ints, best, rest)) in
    let bs = kept-z (to_z w128 (of_z w128 t.bests) +ℤ to_z w128 (of_z w128 t.best)) (omega (arith, ints, zb, zbs)) (omega (arith, ints, zb, zbs)) in
    let rs = kept-z (to_z w128 (of_z w128 t.reaches) +ℤ to_z w128 (of_z w128 t.reach)) (omega (arith, ints, zr, zrs)) (omega (arith, ints, zr, zrs)) in
    let r' = r ∙ (λ j. best j +ℤ rest j) in
    let bs' = bs ∙ (λ j. zbs j +ℤ zb j) in
    let rs' = rs ∙ (λ j. zrs j +ℤ zr j) in
    let differs : 0 < t.rows → t.row ≡ mark.row → ⊥ = elim c.else-self-gt0.branch [
      | else-self-gt0-via-then-self-gt0+else-self-mark w ↦ λ some same. w.if-self-mark.false same
      | else-self-gt0-via-else-self-gt0 w ↦ λ some same. absurd (omega (arith, some, w.if-self-gt0.false))
    ] in
    (λ j. record { row = mark.row; rows = t.rows + 1; best = best j; bests = bs' j; reach = r' j; reaches = rs' j }) ∙ told-next t mark differs
