use Rattle.std.proofs.Common.{arith}
use Rattle.std.proofs.lemmas.Int.{ints}
use Rattle.hu_kind.specs.Cell.{pairs_of}
use Rattle.hu_chain.proofs.lemmas.Cells.{total-above}
use Rattle.hu_chain.proofs.walk.Walk.past.Goals as goal

pub overflow_sub-ahead : goal.overflow_sub-ahead
overflow_sub-ahead c =
    let same = c.total.ensures in
    let above = total-above (pairs_of c.args.cells.now) c.requires.none_below in
    let holds = c.requires.holds in
    let fits = c.requires.fits in
    omega (arith, ints)

pub returns-in-Some-clause-ahead : goal.returns-in-Some-clause-ahead
returns-in-Some-clause-ahead c =
    let same = c.total.ensures in
    let above = total-above (pairs_of c.args.cells.now) c.requires.none_below in
    let holds = c.requires.holds in
    let fits = c.requires.fits in
    omega (arith, ints)

pub returns-in_default-clause-ahead : goal.returns-in_default-clause-ahead
returns-in_default-clause-ahead c =
    let same = c.total.ensures in
    let above = total-above (pairs_of c.args.cells.now) c.requires.none_below in
    let holds = c.requires.holds in
    let fits = c.requires.fits in
    omega (arith, ints)
