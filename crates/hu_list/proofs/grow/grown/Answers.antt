use Rattle.std.proofs.Common.{◌≡◌, ℕ, List, pos, [], length, replicate, ap, ◌∙◌, arith}
use Rattle.hu_totals.specs.View.{lists_in}
use Rattle.hu_list.specs.declared.tail.Tail.{Tail}
use Rattle.hu_list.specs.Passes.{met_in, growing}
use Rattle.hu_list.specs.View.{tail_of, tails_of, IsTail}
use Rattle.hu_totals.proofs.lemmas.Lists.{empty-count, empty-seen}
use Rattle.hu_search.specs.Slots.{at}
use Rattle.hu_search.proofs.lemmas.Slots.{at-replicate}
use Rattle.hu_list.proofs.PassLemmas.{tail-at, size-at}
use Rattle.hu_list.proofs.grow.grown.Goals as goal

pub loop-tail-init : goal.loop-tail-init
loop-tail-init c =
    let ranks = c.args.slots.now.ranks in
    let lists = c.in_ok-lists.lists.items in
    let none : lists_in lists ≡ replicate (length ranks) [] =
    c.in_ok-lists.ensures ∙ ap (λ (rs : List ℕ). replicate (length rs) []) c.ranks.ensures.ranks in
    record {
      len = empty-count lists (length ranks) none;
      lists = λ z. ap (met_in (growing ranks) z (tails_of c.args.tails.now))
          (ap (λ ls. at [] ranks ls z) (empty-seen tail_of lists (length ranks) none) ∙ at-replicate [] ranks (length ranks) z);
    }

pub add_tails-requires-clause-rules : goal.add_tails-requires-clause-rules
add_tails-requires-clause-rules c =
    let none : Tail = record { own = pos 0; cells = record { ref_ptr = (0, 0); now = [] } } in
    tail-at (IsTail c.args.slots.now.room) c.args.tails.now c.loop-tail.tail-index none c.requires.rules.each c.loop-tail-test.true

pub add_tails-requires-clause-fits : goal.add_tails-requires-clause-fits
add_tails-requires-clause-fits c =
    let none : Tail = record { own = pos 0; cells = record { ref_ptr = (0, 0); now = [] } } in
    omega (arith, size-at c.args.tails.now c.loop-tail.tail-index none c.loop-tail-test.true, c.requires.rules.sizes)
