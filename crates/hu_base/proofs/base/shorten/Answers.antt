use Rattle.std.proofs.Common.{arith}
use Rattle.std.proofs.lemmas.Int.{ints}
use Rattle.hu_base.proofs.SumLemmas.{sum_by-parts}
use Rattle.hu_base.proofs.base.shorten.Goals as goal

pub absolute_sum-dropped-requires : goal.absolute_sum-dropped-requires
absolute_sum-dropped-requires g c =
    let parts = sum_by-parts g.R.Absolute.absolute c.args.records.now.items c.args.count in
    rw c.deref.ensures.value (omega (arith, c.requires.fits))

pub returns-clause-sum : goal.returns-clause-sum
returns-clause-sum g c =
    let parts = sum_by-parts g.R.Absolute.absolute c.args.records.now.items c.args.count in
    let dropped = rw c.deref.ensures.value at c.absolute_sum-dropped.ensures in
    rw c.truncate.ensures.items (omega (arith, ints))
