use Rattle.std.proofs.Common.{◌≡◌, ℕ, List, ◌++◌, pos, [], length, get_or, replicate, sym, ap, ◌∙◌, arith}
use Rattle.hu_totals.specs.View.{lists_in}
use Rattle.hu_totals.proofs.lemmas.Lists.{empty-at, empty-count, empty-seen}
use Rattle.hu_average.specs.declared.tail.Tail.{Tail}
use Rattle.hu_average.specs.Tails.{IsTail, left_in, tail_of}
use Rattle.hu_average.proofs.PassLemmas.{tail-at, size-at, grown-next}
use Rattle.hu_average.proofs.grow.grown.Goals as goal

no_tail : Tail
no_tail = record { own = pos 0; most = pos 0; cells = record { ref_ptr = (0, 0); now = [] } }

pub loop-tail-init : goal.loop-tail-init
loop-tail-init c =
    let ranks = c.args.slots.now.ranks in
    let lists = c.in_ok-lists.lists.items in
    let none : lists_in lists ≡ replicate (length ranks) [] =
    c.in_ok-lists.ensures ∙ ap (λ (rs : List ℕ). replicate (length rs) []) c.ranks-ranks.ensures.ranks in
    record {
      len = empty-count lists (length ranks) none;
      lists = λ i within. ap (λ ls. get_or ls i []) (empty-seen tail_of lists (length ranks) none) ∙ empty-at (length ranks) i;
    }

pub add_tails-requires-clause-rules : goal.add_tails-requires-clause-rules
unfolding no_tail
add_tails-requires-clause-rules c =
    tail-at (IsTail (c.args.slots.now.room)) c.args.tails.now c.loop-tail.tail-index no_tail c.requires.rules.each c.loop-tail-test.true

pub add_tails-requires-clause-fits : goal.add_tails-requires-clause-fits
unfolding no_tail
add_tails-requires-clause-fits c =
    omega (arith, size-at c.args.tails.now c.loop-tail.tail-index no_tail c.loop-tail-test.true, c.requires.rules.sizes)

pub loop-tail-preserved : goal.loop-tail-preserved
unfolding no_tail
loop-tail-preserved c =
    let tails = c.args.tails.now in
    let k = c.loop-tail.tail-index in
    record {
      len = c.in_ok-add_tails.ensures.len;
      lists = λ i within.
          let z = get_or c.args.slots.now.ranks i 0 in
          c.in_ok-add_tails.ensures.lists i within
          ∙ ap (λ ts. ts ++ left_in z (tail_of (get_or tails k no_tail))) (c.loop-tail.invariant.lists i within)
          ∙ sym (grown-next z tails k no_tail c.loop-tail-test.true);
    }
