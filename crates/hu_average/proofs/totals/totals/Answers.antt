use Rattle.std.proofs.Common.{pos, [], get_or, sym, ◌∙◌, subst, arith}
use Rattle.hu_average.specs.declared.tail.Tail.{Tail}
use Rattle.hu_average.specs.Totals.{Fits}
use Rattle.hu_average.specs.Tails.{size_of, tail_of, IsTail}
use Rattle.hu_average.proofs.PassLemmas.{tail-at, totals-next, total-fits}
use Rattle.hu_average.proofs.totals.totals.Goals as goal

no_tail : Tail
no_tail = record { own = pos 0; most = pos 0; cells = record { ref_ptr = (0, 0); now = [] } }

pub add_tail-requires-clause-rules : goal.add_tail-requires-clause-rules
unfolding no_tail
add_tail-requires-clause-rules c =
    tail-at (IsTail (c.args.slots.now.room)) c.args.tails.now c.loop-tail.tail-index no_tail c.requires.rules.each c.loop-tail-test.true

pub add_tail-requires-clause-fits : goal.add_tail-requires-clause-fits
unfolding no_tail
add_tail-requires-clause-fits c i within =
    let z = get_or c.args.slots.now.ranks i 0 in
    let k = c.loop-tail.tail-index in
    subst (λ t. Fits t (size_of (tail_of (get_or c.args.tails.now k no_tail)))) (sym (c.loop-tail.invariant.each i within))
    (total-fits z c.args.tails.now k no_tail c.loop-tail-test.true c.requires.rules.sizes (omega arith))

pub loop-tail-preserved : goal.loop-tail-preserved
unfolding no_tail
loop-tail-preserved c = record {
  len = c.add_tail.ensures.len ∙ c.loop-tail.invariant.len;
  each = λ i within. totals-next (get_or c.args.slots.now.ranks i 0) c.args.tails.now c.loop-tail.tail-index no_tail c.loop-tail-test.true
      _ _ (c.loop-tail.invariant.each i within) (c.add_tail.ensures.totals i within);
}
