use Rattle.std.proofs.Common.{◌≡◌, ◌≤ℤ◌, pos, ap, ◌∙◌, subst, to_z, of_z, rules}
use Rattle.std.specs.Int.{w128}
use Rattle.std.specs.List.{AllByRecursion}
use Rattle.std.proofs.lemmas.Int.{to_z-of_z}
use Rattle.std.specs.declared.vec.Vec.{Vec}
use Rattle.std.specs.declared.alloc.Global.{Global}
use Rattle.hu_collect.specs.State.{floor_in}
use Rattle.hu_search.specs.declared.child.Child.{Child}
use Rattle.hu_search.specs.Children.{ranks_of}
use Rattle.hu_search.specs.Slots.{at}
use Rattle.hu_list.specs.Passes.{met_in, gaining, no_sum}
use Rattle.hu_list.specs.View.{tails_of}
use Rattle.hu_list.specs.Level.{IsLevel, AreKept, sum_of}
use Rattle.hu_list.proofs.LeftLemmas.{rank-later, below-last, level-is, both_ok}
use Rattle.hu_list.proofs.level.children.Goals as goal

pub keep_reaching-requires-clause-later : goal.keep_reaching-requires-clause-later
keep_reaching-requires-clause-later g c z high =
    let set = c.args.ranks.now in
    let keep = c.args.board.now.kept.ranks in
    let found = c.gains.new.found.ranks in
    let gained : at (pos 0) found c.deref.result.now z ≡ met_in (gaining keep) z (tails_of c.args.tails.now) (pos 0) =
    ap (λ gs. at (pos 0) found gs z) c.deref.ensures.value ∙ c.in_ok-gains.ensures.gains z in
    below-last set c.last_of.result z c.last_of.ensures (rank-later c.args.walk.now.ranked.now set
    (tails_of c.args.tails.now) c.requires.left keep z (subst (λ v. pos 1 ≤ℤ v) gained high))

pub returns-clause-level : goal.returns-clause-level
returns-clause-level g c =
    let r = c.args.walk.now.ranked.now in
    let set = c.args.ranks.now in
    let tails = tails_of c.args.tails.now in
    let s = g.C.Collect.state c.args.collect.now in
    let keep = c.args.board.now.kept.ranks in
    let found = c.gains.new.found.ranks in
    let kept = c.keep_reaching.new.kept.ranks in
    let gains = c.in_ok-gains.gains.items in
    let sums = c.in_ok-sums.sums.items in
    let Right = g.G.Gate.IsRightFor c.args.walk.now.gate.now in
    let gate = g.G.Gate.floor c.args.walk.now.gate.now in
    let floor : to_z w128 (of_z w128 c.floor-floor.result) ≡ floor_in s = to_z-of_z w128 c.floor-floor.result (search rules) ∙ c.floor-floor.ensures.value in
    let are : AreKept Right gate (floor_in s) c.last_of.result (at (pos 0) found gains) found kept =
    subst (λ f. AreKept Right gate f c.last_of.result (at (pos 0) found gains) found kept) floor
    (subst (λ gs. AreKept Right gate (to_z w128 (of_z w128 c.floor-floor.result)) c.last_of.result
    (at (pos 0) found gs) found kept) c.deref.ensures.value c.in_ok-keep_reaching.ensures.kept) in
    let least : pos 1 ≤ℤ floor_in s = subst (λ f. pos 1 ≤ℤ f) c.floor-floor.ensures.value c.floor-floor.ensures.least in
    let ranks = c.ranks.ensures.ranks in
    both_ok c.children_of.result
    (λ (children : Vec Child Global). ranks_of children.items ≡ c.ranks.result.now)
    (λ (children : Vec Child Global). AllByRecursion (λ (child : Child). sum_of child
    ≡ at no_sum c.ranks.result.now c.deref-2.result.now child.rank) children.items)
    (λ (children : Vec Child Global). IsLevel s r set children.items)
    (λ children is each. level-is r set tails s Right gate c.last_of.result keep found kept gains sums children.items
    c.requires.left c.requires.table c.requires.enough c.requires.floor c.requires.right
    c.last_of.ensures least c.in_ok-gains.ensures.gains are c.ranks.ensures.once c.in_ok-sums.ensures.sums (is ∙ ranks)
    (subst (λ ss. AllByRecursion (λ (child : Child). sum_of child ≡ at no_sum kept ss child.rank) children.items) c.deref-2.ensures.value
    (subst (λ rs. AllByRecursion (λ (child : Child). sum_of child ≡ at no_sum rs c.deref-2.result.now child.rank) children.items) ranks each)))
    c.children_of.ensures.ranks c.children_of.ensures.sums
