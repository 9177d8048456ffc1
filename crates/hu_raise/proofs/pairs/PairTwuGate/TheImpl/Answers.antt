use Rattle.std.proofs.Common.{◌∙◌, sym, arith}
use Rattle.std.proofs.lemmas.Int.{ints}
use Rattle.hu_raise.proofs.GainLemmas.{bounds_sets}
use Rattle.hu_raise.proofs.pairs.PairTwuGate.TheImpl.Goals as goal

pub may_join-tells : goal.may_join-tells
may_join-tells c = record {
  low = λ refused records right. right c.args.a c.args.b c.requires (sym c.ensures.exact ∙ refused);
  sets = λ refused records right ranks up first second.
      let low = right c.args.a c.args.b c.requires (sym c.ensures.exact ∙ refused) in
      let upper = bounds_sets records c.args.a c.args.b ranks up first second in
      omega (arith, ints);
}
