use Rattle.std.proofs.Common.{ℕ, ℤ, pos, unsigned_abs, get_or, [], sym, ap, ◌∙◌, subst, arith}
use Rattle.hu_list.specs.declared.tail.Tail.{Tail}
use Rattle.hu_search.specs.Slots.{at}
use Rattle.hu_list.specs.Passes.{gaining}
use Rattle.hu_list.specs.View.{tail_of, IsTail}
use Rattle.hu_list.proofs.PassLemmas.{tail-at, tails-next, sizes-split, gaining-within}
use Rattle.hu_list.proofs.gains.gains.Goals as goal

pub add_gains-requires-clause-rules : goal.add_gains-requires-clause-rules
add_gains-requires-clause-rules c =
    let none : Tail = record { own = pos 0; cells = record { ref_ptr = (0, 0); now = [] } } in
    let i = c.loop-tail.tail-index in
    subst (λ n. IsTail n (tail_of (get_or c.args.tails.now i none))) (sym c.loop-tail.invariant.room)
    (tail-at (IsTail c.args.found.now.room) c.args.tails.now i none c.requires.rules.each c.loop-tail-test.true)

pub add_gains-requires-clause-fits : goal.add_gains-requires-clause-fits
add_gains-requires-clause-fits c z =
    let none : Tail = record { own = pos 0; cells = record { ref_ptr = (0, 0); now = [] } } in
    omega (arith, c.loop-tail.invariant.fits z, sizes-split c.args.tails.now c.loop-tail.tail-index none c.loop-tail-test.true)

pub loop-tail-preserved : goal.loop-tail-preserved
loop-tail-preserved c =
    let none : Tail = record { own = pos 0; cells = record { ref_ptr = (0, 0); now = [] } } in
    let tails = c.args.tails.now in
    let i = c.loop-tail.tail-index in
    let tail = tail_of (get_or tails i none) in
    let keep = c.args.kept.now.ranks in
    let old : ℕ → ℤ = λ z. at (pos 0) c.loop-tail.found.ranks c.loop-tail.gains.items z in
    let new : ℕ → ℤ = λ z. at (pos 0) c.add_gains.new.found.ranks c.add_gains.new.gains.items z in
    record {
      room = c.in_ok-add_gains.ensures.room ∙ c.loop-tail.invariant.room;
      len = c.in_ok-add_gains.ensures.len;
      fits = λ z. omega (
        arith,
        ap unsigned_abs (c.in_ok-add_gains.ensures.gains z),
        gaining-within keep tail z (old z),
        c.loop-tail.invariant.fits z,
        sizes-split tails i none c.loop-tail-test.true,
      );
      gains = λ z. tails-next tails i none c.loop-tail-test.true (gaining keep) z (old z) (new z)
          (c.in_ok-add_gains.ensures.gains z) ∙ c.loop-tail.invariant.gains z;
    }
