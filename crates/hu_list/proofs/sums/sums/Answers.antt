use Rattle.std.proofs.Common.{◌≡◌, ℕ, pos, unsigned_abs, get_or, length, [], sym, ap, ◌∙◌, subst, arith}
use Rattle.std.proofs.lemmas.List.{length-replicate}
use Rattle.hu_list.specs.declared.tail.Tail.{Tail}
use Rattle.hu_list.specs.declared.sums.Sum.{Sum}
use Rattle.hu_search.specs.Slots.{at}
use Rattle.hu_list.specs.Tails.{size_of}
use Rattle.hu_list.specs.Passes.{met_in, summing, no_sum}
use Rattle.hu_list.specs.View.{tail_of, tails_of, IsTail}
use Rattle.hu_search.proofs.lemmas.Slots.{at-replicate}
use Rattle.hu_list.proofs.PassLemmas.{tail-at, tails-next, sizes-split, Sums, summing-within}
use Rattle.hu_list.proofs.sums.sums.Goals as goal

pub loop-tail-init : goal.loop-tail-init
loop-tail-init c =
    let ranks = c.args.slots.now.ranks in
    let none : (z : ℕ) → at no_sum ranks c.in_ok-sums.sums.items z ≡ no_sum =
    λ z. ap (λ sums. at no_sum ranks sums z) (c.in_ok-sums.ensures.items_if_clones_equal (λ sum same. same))
    ∙ at-replicate no_sum ranks (length c.ranks.result.now) z in
    record {
      len = ap length (c.in_ok-sums.ensures.items_if_clones_equal (λ sum same. same))
          ∙ length-replicate (length c.ranks.result.now) no_sum ∙ ap length c.ranks.ensures.ranks;
      support = λ z. let n = ap (λ (s : Sum). s.support) (none z) in omega (arith, n);
      utility = λ z. omega (arith, ap (λ (s : Sum). unsigned_abs s.utility) (none z), c.requires.rules.sizes);
      bound = λ z. omega (arith, ap (λ (s : Sum). unsigned_abs s.bound) (none z), c.requires.rules.sizes);
      sums = λ z. ap (met_in (summing ranks) z (tails_of c.args.tails.now)) (none z);
    }

pub add_sums-requires-clause-rules : goal.add_sums-requires-clause-rules
add_sums-requires-clause-rules c =
    let none : Tail = record { own = pos 0; cells = record { ref_ptr = (0, 0); now = [] } } in
    tail-at (IsTail c.args.slots.now.room) c.args.tails.now c.loop-tail.tail-index none c.requires.rules.each c.loop-tail-test.true

pub loop-tail-preserved : goal.loop-tail-preserved
loop-tail-preserved c =
    let none : Tail = record { own = pos 0; cells = record { ref_ptr = (0, 0); now = [] } } in
    let tails = c.args.tails.now in
    let i = c.loop-tail.tail-index in
    let tail = tail_of (get_or tails i none) in
    let keep = c.args.slots.now.ranks in
    let old : ℕ → Sum = λ z. at no_sum keep c.loop-tail.sums.items z in
    let new : ℕ → Sum = λ z. at no_sum keep c.add_sums.new.sums.items z in
    let split = sizes-split tails i none c.loop-tail-test.true in
    let near : (z : ℕ) → Sums (old z) (new z) (size_of tail) =
    λ z. subst (λ s. Sums (old z) s (size_of tail)) (sym (c.add_sums.ensures.sums z))
    (summing-within keep tail z tail.cells (old z) (omega arith)) in
    record {
      len = c.add_sums.ensures.len;
      support = λ z. let n = near z in let more = n.support in omega (arith, more, c.loop-tail.invariant.support z);
      utility = λ z. let n = near z in let more = n.utility in omega (arith, more, c.loop-tail.invariant.utility z, split);
      bound = λ z. let n = near z in let more = n.bound in omega (arith, more, c.loop-tail.invariant.bound z, split);
      sums = λ z. tails-next tails i none c.loop-tail-test.true (summing keep) z (old z) (new z) (c.add_sums.ensures.sums z) ∙ c.loop-tail.invariant.sums z;
    }
