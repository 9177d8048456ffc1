use Rattle.std.proofs.Common.{◌≡◌, ◌<◌, ℕ, length, [], sym, ◌∙◌, subst}
use Rattle.std.specs.List.{AllByRecursion}
use Rattle.std.specs.declared.vec.Vec.{Vec}
use Rattle.std.specs.declared.alloc.Global.{Global}
use Rattle.std.proofs.lemmas.List.{length-map}
use Rattle.hu_list.specs.declared.tail.Tail.{Tail}
use Rattle.hu_search.specs.Children.{ranks_of}
use Rattle.hu_search.specs.Slots.{at}
use Rattle.hu_list.specs.Passes.{met_in, growing}
use Rattle.hu_list.specs.View.{tails_of, lists_of}
use Rattle.hu_list.specs.Level.{AreGrown}
use Rattle.hu_list.proofs.LeftLemmas.{both_ok}
use Rattle.hu_list.proofs.GrownLemmas.{are-grown, ranks-within}
use Rattle.hu_list.proofs.level.grown_by.Goals as goal

pub fill-requires-clause-within : goal.fill-requires-clause-within
fill-requires-clause-within c =
    subst (λ ranks. AllByRecursion (λ rank. rank < c.args.found.now.room) ranks) (sym (c.deref.ensures.value ∙ c.in_ok-ranks.ensures))
    (subst (λ n. AllByRecursion (λ rank. rank < n) (ranks_of c.args.chosen.now)) (sym c.requires.room)
    (ranks-within c.args.ranked.now c.args.ranks.now c.args.chosen.now c.requires.children))

pub returns-clause-lists : goal.returns-clause-lists
returns-clause-lists c =
    let ranks = c.fill.new.self.ranks in
    let is : ranks ≡ ranks_of c.args.chosen.now = c.in_ok-fill.ensures.ranks ∙ c.deref.ensures.value ∙ c.in_ok-ranks.ensures in
    both_ok c.grown.result
    (λ (lists : Vec (Vec Tail Global) Global). length lists.items ≡ length ranks)
    (λ (lists : Vec (Vec Tail Global) Global). (z : ℕ) → at [] ranks (lists_of lists.items) z ≡ met_in (growing ranks) z (tails_of c.args.tails.now) [])
    (λ (lists : Vec (Vec Tail Global) Global). AreGrown c.args.ranked.now c.args.ranks.now c.args.chosen.now (lists_of lists.items))
    (λ lists len all. are-grown c.args.ranked.now c.args.ranks.now (tails_of c.args.tails.now) c.args.chosen.now ranks
    (lists_of lists.items) c.requires.left is c.requires.once
    (length-map lists.items (λ (list : Vec Tail Global). tails_of list.items) ∙ len) all)
    c.grown.ensures.len c.grown.ensures.lists
