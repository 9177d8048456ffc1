use Rattle.std.proofs.Common.{◌∙◌, ◌+ℤ◌, refl, to_z, of_z, ap, arith}
use Rattle.std.specs.Int.{w128}
use Rattle.std.proofs.lemmas.Int.{ints}
use Rattle.hu_span.specs.Kept.{keeps}
use Rattle.hu_span.specs.Trail.{values_in}
use Rattle.hu_span.proofs.NumberLemmas.{kept-z}
use Rattle.hu_span.proofs.ThinLemmas.{longer, run-longer}
use Rattle.hu_span.proofs.thin.Run.copied.Goals as goal

pub push_kept-requires-clause-above : goal.push_kept-requires-clause-above
push_kept-requires-clause-above c =
    let long = longer (keeps c.args.kept.now) c.args.trail.now c.args.thin.now.items c.args.self c.args.upto c.requires.run c.requires.ordered
    c.requires.above in
    long.above

pub push_kept-requires-clause-fits : goal.push_kept-requires-clause-fits
push_kept-requires-clause-fits c =
    let long = longer (keeps c.args.kept.now) c.args.trail.now c.args.thin.now.items c.args.self c.args.upto c.requires.run c.requires.ordered
    c.requires.above in
    omega (arith, ints, long.sum, long.low, c.requires.fits)

pub overflow_add-result : goal.overflow_add-result
overflow_add-result c =
    let run = c.requires.run in
    let long = longer (keeps c.args.kept.now) c.args.trail.now c.args.thin.now.items c.args.self c.args.upto run c.requires.ordered c.requires.above in
    let sum = run.sum ∙ ap values_in run.cells in
    let more = c.in_ok-more.ensures.sum in
    let a = kept-z c.args.self.sum (omega (arith, ints, sum, long.low)) (omega (arith, ints, sum, long.sum, long.more, c.requires.fits)) in
    let b = kept-z c.in_ok-more.more (omega (arith, ints, more, long.more)) (omega (arith, ints, more, long.sum, long.low, c.requires.fits)) in
    omega (arith, ints, a, b, sum, more, long.sum, long.low, long.more, c.requires.fits)

pub returns-clause-run : goal.returns-clause-run
returns-clause-run c =
    let run = c.requires.run in
    let long = longer (keeps c.args.kept.now) c.args.trail.now c.args.thin.now.items c.args.self c.args.upto run c.requires.ordered c.requires.above in
    let sum = run.sum ∙ ap values_in run.cells in
    let more = c.in_ok-more.ensures.sum in
    let a = kept-z c.args.self.sum (omega (arith, ints, sum, long.low)) (omega (arith, ints, sum, long.sum, long.more, c.requires.fits)) in
    let b = kept-z c.in_ok-more.more (omega (arith, ints, more, long.more)) (omega (arith, ints, more, long.sum, long.low, c.requires.fits)) in
    let both = kept-z (to_z w128 (of_z w128 c.args.self.sum) +ℤ to_z w128 (of_z w128 c.in_ok-more.more))
    (omega (arith, ints, a, b, sum, more, long.low, long.more)) (omega (arith, ints, a, b, sum, more, long.sum, c.requires.fits)) in
    run-longer (keeps c.args.kept.now) c.args.trail.now c.args.thin.now.items c.push_kept.new.thin.items c.args.self _ c.args.upto run c.requires.ordered
    c.requires.within c.requires.above c.in_ok-more.ensures.cells refl refl refl (omega (arith, ints, both, a, b, more))
